-- From what is found of a reducer's run to what is found of a problem, and from a yes to its reduction.
use Rattle.std.proofs.Common.{◌≡◌, ◌≢◌, ◌⊎◌, inl, inr, ◌≤◌, ℕ, Bool, true, false, List, Option, Some, None, Result, Ok, Err, length, refl, sym, ap, ◌∙◌, subst}
use Rattle.std.specs.Prelude.{◌↔◌, IfOk, MatchOption, string_bytes}
use Rattle.std.specs.Str.{chars}
use Rattle.grammar_tree.specs.Written.{CheckedGrammar}
use Rattle.grammar_tree.specs.Checked.{IsChecked}
use Rattle.grammar_tree.specs.Faults.{IsWellFormed}
use Rattle.keep_guard.specs.Keep.{holds_all, keeps_admit}
use Rattle.reduce_core.specs.Candidates.{IsLineCandidate}
use Rattle.reduce_core.specs.Reduction.{Admits}
use Rattle.reduce_step.specs.Limits.{text_limit}
use Rattle.reduce_step.specs.Plan.{Plan}
use Rattle.reduce_journal.specs.declared.head.Head.{Head}
use Rattle.reduce_journal.specs.declared.head.Head.TheVariants.{Version1}
use Rattle.reduce_journal.specs.History.{History, records_of}
use Rattle.reduce_trees_mode.specs.Input.{TreeInput}
use Rattle.reduce_trees_input.specs.Laws.{InputsAreOne}
use Rattle.reduce_trees.specs.Ends.{AdmitsStart}
use Rattle.reduce_trees_input.specs.Parsed.{IsInputOf, IsParsed, MakesInputOf, tree_input}
use Rattle.reduce_trees_input.specs.declared.parsed.ParsedInput.{ParsedInput}
use Rattle.syntax_tree.specs.Trees.{leaves}
use Rattle.run_problem.specs.Problem.{IsCandidateOf, IsProblem, IsReductionOf, Problem, start_text}
use Rattle.run_problem.specs.Read.{IsFoundIn}
use Rattle.run_problem.specs.Reducer.{reducer_of}
use Rattle.lexer.specs.Tokens.{HasTokens}
use Rattle.token_print.specs.LexingLaws.{TokensAreUnique}
use Rattle.verdict_table.specs.TableState.{verdict_in}
use Rattle.cert_check.specs.declared.finding.Finding.{Finding}
use Rattle.cert_check.specs.declared.finding.Finding.TheVariants.{Yes, No}
use Rattle.cert_check.specs.declared.finding.Why.TheVariants.{Torn, OtherStart}
use Rattle.cert_check.specs.declared.setup.Setup.{Setup}
use Rattle.cert_check.specs.declared.setup.Setup.TheVariants as setup
use Rattle.cert_check.specs.Findings.{IsConfirmed, IsFinishedRun, IsFound, IsItsResult, IsOfStart, RefusesStart}
use Rattle.cert_check.specs.Laws.{ConfirmedAreReductions, FinishedRunsAreConfirmed, IsGuardedBy, IsRunTo, IsStartAdmitted, OneIsFound, ReducersAreReductions}
use Rattle.cert_check.specs.Setup.{CanBeChecked, HasOptions, IsSetupOf, admits_in}
use Rattle.cert_check_texts.specs.Laws.{IsInputFrom}
use Rattle.cert_check_texts.specs.Texts.{IsTreeStart, TreeStart}
use Rattle.cert_check.specs.inner.Inputs.{IsFindingOfSetup}
use Rattle.cert_check.specs.inner.Steps.{IsFindingOfPlan}
use Rattle.cert_check.proofs.Words.{alike, in_words}

-- what is found of a reducer's run is found of its problem
pub found_of : ReducersAreReductions → (guard : Admits) (problem : Problem) → IsProblem problem → (Is : List ℕ → Type 0)
    → ((text : List ℕ) → Is text ↔ IsCandidateOf guard problem text) → (output : List ℕ) (history : History) (torn : ℕ) (first : Plan)
    → first ≡ reducer_of guard problem → {E : Type 0} (r : Result Finding E) → IfOk r (IsFindingOfPlan first Is output history torn)
    → IfOk r (IsFound guard problem output Version1 history torn)
found_of reducers guard problem is Is same output history torn first first_is (Ok finding) found =
    in_words guard problem is reducers Is same output history torn finding
    (subst (λ (p : Plan). IsFindingOfPlan p Is output history torn finding) first_is found)
found_of reducers guard problem is Is same output history torn first first_is (Err e) found = tt

-- a journal that is torn, or of another start, is found first
pub other_found : (guard : Admits) (problem : Problem) (output : List ℕ) (head : Head) (history : History) (torn : ℕ) (start : List ℕ)
    → start_text problem ≡ start → (finding : Finding)
    → ((finding ≡ No (Torn torn)) × (torn ≢ 0)) ⊎ ((finding ≡ No OtherStart) × (torn ≡ 0) × (¬ IsOfStart head start))
    → IsFound guard problem output head history torn finding
other_found guard problem output head history torn start same finding (inl it) =
    subst (IsFound guard problem output head history torn) (sym it.0) (refl, it.1)
other_found guard problem output head history torn start same finding (inr it) =
    subst (IsFound guard problem output head history torn) (sym it.0) (it.1, λ of. it.2 (subst (IsOfStart head) same of))

-- what is found where nothing is torn, and the journal is of this start
pub of_whole : (guard : Admits) (problem : Problem) (output : List ℕ) (head : Head) (history : History) (torn : ℕ) (start : List ℕ)
    → start_text problem ≡ start → (torn ≡ 0) × IsOfStart head start → (finding : Finding) → IsFound guard problem output Version1 history 0 finding
    → IsFound guard problem output head history torn finding
of_whole guard problem output head history torn start same whole finding found =
    let of : IsOfStart head (start_text problem) = subst (IsOfStart head) (sym same) whole.1 in
    let Is : List ℕ → Type 0 = IsCandidateOf guard problem in
    let F : Type 0 = IsFinishedRun guard problem history in
    let R : Type 0 = RefusesStart guard problem history in
    let T : Type 0 = IsItsResult guard problem history output in
    subst (λ (t : ℕ). IsFound guard problem output head history t finding) (sym whole.0)
    (alike (reducer_of guard problem) Is Is (λ text. (λ it. it, λ it. it)) (Unit {0}) (IsOfStart head (start_text problem)) (λ it. of, λ it. tt)
    F F (λ it. it, λ it. it) R R (λ done. (λ it. it, λ it. it)) T T (λ done. (λ it. it, λ it. it)) history 0 finding found)

-- it is of this start and nothing is torn, or that is found
pub not_other : {A : Type 0} (Other : Finding → Type 0) (o : Option Finding) → ((finding : Finding) → o ≡ Some finding → ⊥) → MatchOption o A Other → A
not_other Other None not it = it
not_other Other (Some finding) not it = absurd (not finding refl)

-- of a journal that isn't torn it is said by its head
pub by_head : (torn : ℕ) (Of : Type 0) (o : Option Finding) → torn ≡ 0 → MatchOption o Of (λ finding. (finding ≡ No OtherStart) × (¬ Of))
    → MatchOption o ((torn ≡ 0) × Of)
    (λ finding. ((finding ≡ No (Torn torn)) × (torn ≢ 0)) ⊎ ((finding ≡ No OtherStart) × (torn ≡ 0) × (¬ Of)))
by_head torn Of None whole it = (whole, it)
by_head torn Of (Some finding) whole it = inr (it.0, whole, it.1)

-- ---- of lines

-- the texts that may be asked, where the start and the keep texts are named otherwise
pub same_lines : (own start : List ℕ) → own ≡ start → (stay keeps : List (List ℕ)) → stay ≡ keeps → (text : List ℕ)
    → IsLineCandidate (keeps_admit stay) own text ↔ IsLineCandidate (keeps_admit keeps) start text
same_lines own start same stay keeps kept text =
    subst (λ (s : List ℕ). IsLineCandidate (keeps_admit stay) own text ↔ IsLineCandidate (keeps_admit keeps) s text) same (
      subst (λ (ks : List (List ℕ)). IsLineCandidate (keeps_admit ks) own text) kept,
      subst (λ (ks : List (List ℕ)). IsLineCandidate (keeps_admit ks) own text) (sym kept),
    )

-- ---- of trees

-- what was found in a start
pub is_found : (grammar : CheckedGrammar) (start : List ℕ) (found : ParsedInput) → IsChecked grammar → length start ≤ text_limit → IsParsed grammar start found
    → MakesInputOf grammar start found → IsFoundIn found
is_found grammar start found is short parsed makes = record {
  checked = subst IsChecked (sym parsed.same_grammar) is;
  parsed =
      subst (λ (t : List ℕ). IsParsed found.lexer t found) (sym parsed.same_text)
      (subst (λ (g : CheckedGrammar). IsParsed g start found) (sym parsed.same_grammar) parsed);
  kinds = ((makes (subst IsChecked (sym parsed.same_grammar) is).well_formed (λ kept text. true) false).is_input).kinds_are;
  short = subst (λ (t : List ℕ). length t ≤ text_limit) (sym parsed.same_text) short;
}

-- the input that is made of it, and its options
pub made_for : (grammar : CheckedGrammar) (start : List ℕ) (found : ParsedInput) (keeps : List (List ℕ)) (squeezes : Bool) → IsChecked grammar
    → IsParsed grammar start found → MakesInputOf grammar start found → (guard : List (List ℕ)) → guard ≡ keeps → (input : TreeInput)
    → ((formed : IsWellFormed found.lexer.grammar found.lexer.start) → input ≡ tree_input found formed (keeps_admit guard) squeezes)
    → IsInputOf grammar start input × HasOptions keeps squeezes input
made_for grammar start found keeps squeezes is parsed makes guard same input made =
    let formed = (subst IsChecked (sym parsed.same_grammar) is).well_formed in
    subst (λ (it : TreeInput). IsInputOf grammar start it × HasOptions keeps squeezes it) (sym (made formed))
    (makes formed (keeps_admit guard) squeezes, record { admits = ap keeps_admit same; squeezes = refl })

-- so there is one
pub some_input : (grammar : CheckedGrammar) (start : List ℕ) (found : ParsedInput) (keeps : List (List ℕ)) (squeezes : Bool) → IsChecked grammar
    → IsParsed grammar start found → MakesInputOf grammar start found → (input : TreeInput) × IsInputOf grammar start input × HasOptions keeps squeezes input
some_input grammar start found keeps squeezes is parsed makes =
    let formed = (subst IsChecked (sym parsed.same_grammar) is).well_formed in
    (tree_input found formed (keeps_admit keeps) squeezes, makes formed (keeps_admit keeps) squeezes, record { admits = refl; squeezes = refl })

-- its candidates are the texts of the start that may be asked
pub input_from : TokensAreUnique → (grammar : CheckedGrammar) (start : List ℕ) (keeps : List (List ℕ)) (from : TreeStart) (input : TreeInput)
    → from.grammar ≡ grammar → from.start ≡ start → from.keeps ≡ keeps → IsTreeStart from
    → IsInputOf grammar start input → input.admits ≡ keeps_admit keeps → IsInputFrom from input
input_from unique grammar start keeps from input grammar_is start_is keeps_are is of admits =
    let same_grammar : input.grammar ≡ from.grammar = of.same_grammar ∙ sym grammar_is in
    let same_start : input.start ≡ from.start = of.same_text ∙ sym start_is in
    let its = (of.is_input).has_tokens in
    let by_grammar = subst (λ (g : CheckedGrammar). HasTokens g.grammar (chars input.start) input.tokens) same_grammar its in
    let by_start = subst (λ (t : List ℕ). HasTokens (from.grammar).grammar (chars t) input.tokens) same_start by_grammar in
    record {
      same_grammar = same_grammar;
      same_start = same_start;
      same_tokens = unique (from.grammar).grammar (chars from.start) input.tokens from.tokens by_start is.has_tokens;
      admits = admits ∙ ap keeps_admit (sym keeps_are);
    }

-- the start of a tree is admitted, where each keep text occurs in it
admits_tree : (keeps : List (List ℕ)) (input : TreeInput) → input.admits ≡ keeps_admit keeps → holds_all keeps input.start ≡ true → AdmitsStart input
admits_tree keeps input guarded kept = ap (λ (a : Admits). a (leaves input.whole) input.start) guarded ∙ kept

-- its start is admitted
pub input_admits : (grammar : CheckedGrammar) (start : List ℕ) (keeps : List (List ℕ)) (input : TreeInput) → IsInputOf grammar start input
    → input.admits ≡ keeps_admit keeps → holds_all keeps start ≡ true → AdmitsStart input
input_admits grammar start keeps input of admits kept = admits_tree keeps input admits (ap (holds_all keeps) of.same_text ∙ kept)

-- ---- of setups

-- what a setup's problem is
module _ (it : Setup) where
  abbrev Holds : Problem → Type 0
  Holds problem = IsProblem problem × IsGuardedBy (admits_in it) problem × IsStartAdmitted (admits_in it) problem

setup_holds : (it : Setup) (problem : Problem) → CanBeChecked it → IsSetupOf it problem → Holds it problem
setup_holds (setup.Lines start keeps) problem can is = subst (Holds (setup.Lines start keeps)) (sym is) (tt, tt, can.kept)
setup_holds (setup.Tree grammar start mode squeeze keeps) problem can (input, of, options, is) =
    subst (Holds (setup.Tree grammar start mode squeeze keeps)) (sym is)
    (of.is_input, options.admits, admits_tree keeps.items input options.admits (ap (holds_all keeps.items) of.same_text ∙ can.kept))

-- a setup is one problem
one_problem : InputsAreOne → (it : Setup) (problem other : Problem) → IsSetupOf it problem → IsSetupOf it other → problem ≡ other
one_problem law (setup.Lines start keeps) problem other is also = is ∙ sym also
one_problem law (setup.Tree grammar start mode squeeze keeps) problem other (input, of, options, is) (input', of', options', also) =
    is
    ∙ ap (Problem.of_tree mode) (law grammar (string_bytes start) input input' of of' (options.admits ∙ sym options'.admits)
    (options.squeezes ∙ sym options'.squeezes)) ∙ sym also

-- what is found of its problem is found of each that it is
pub found_everywhere : InputsAreOne → (it : Setup) (output : List ℕ) (head : Head) (history : History) (torn : ℕ) (finding : Finding)
    → IsFindingOfSetup it output head history torn finding → (problem : Problem) → IsSetupOf it problem
    → IsFound (admits_in it) problem output head history torn finding
found_everywhere law it output head history torn finding (own, is, found) problem also =
    subst (λ (p : Problem). IsFound (admits_in it) p output head history torn finding) (one_problem law it own problem is also) found

-- a yes is a reduction
pub reduction_of_yes : ConfirmedAreReductions → (it : Setup) (problem : Problem) → CanBeChecked it → IsSetupOf it problem
    → (output : List ℕ) (head : Head) (history : History) (torn : ℕ) (finding : Finding) → IsFound (admits_in it) problem output head history torn finding
    → finding ≡ Yes → IsReductionOf (admits_in it) (verdict_in (records_of history)) problem output
reduction_of_yes law it problem can is output head history torn finding found answer =
    let holds = setup_holds it problem can is in
    law (admits_in it) problem output head history torn holds.0 holds.1 holds.2
    (subst (IsFound (admits_in it) problem output head history torn) answer found)

-- the files of a run that came to its end are answered yes
pub yes_of_run : OneIsFound → FinishedRunsAreConfirmed
    → (guard : Admits) (problem : Problem) (output : List ℕ) (head : Head) (history : History) (torn : ℕ) (finding : Finding)
    → IsFound guard problem output head history torn finding → torn ≡ 0 → IsOfStart head (start_text problem) → IsRunTo guard problem history output
    → finding ≡ Yes
yes_of_run one law guard problem output head history torn finding found whole of_start run =
    one guard problem output head history torn finding Yes found
    (subst (λ (t : ℕ). IsConfirmed guard problem output head history t) (sym whole) (law guard problem head history output of_start run))
