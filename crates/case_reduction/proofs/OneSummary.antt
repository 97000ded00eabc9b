-- A program has one summary at most.
use Rattle.std.proofs.Common.{◌≡◌, ◌∙◌, ℕ, List, None, refl, sym, ap, subst}
use Rattle.std.proofs.lemmas.Option.{same_Some}
use Rattle.grammar_tree.specs.Written.{CheckedGrammar, TokenKind, WrittenGrammar}
use Rattle.grammar_tree.specs.Faults.{start_of}
use Rattle.grammar_tree.specs.Kinds.{kinds_of}
use Rattle.grammar_load.specs.Answer.{Spells, SpellsOnly}
use Rattle.reduce_trees_input.specs.Parsed.{IsInputOf}
use Rattle.reduce_trees_input.specs.Laws.{InputsAreOne}
use Rattle.case_maker.specs.Cases.{case_text}
use Rattle.case_maker.specs.Mini.{mini_text}
use Rattle.case_reduction.specs.Mini.{mini}
use Rattle.reduce_trees_mode.specs.Input.{TreeInput}
use Rattle.reduce_step.specs.declared.mode.TreeMode.{TreeMode}
use Rattle.run_problem.specs.Problem.{Problem, questions_of}
use Rattle.case_reduction.specs.Summary.{IsCaseProblem, IsSummary, admits_all, rule_map, summary_text}
use Rattle.case_reduction.specs.Laws.{SummariesAreOne}
use Rattle.case_reduction.proofs.Alike.{rule_says}

made : WrittenGrammar → List TokenKind → ℕ → CheckedGrammar
made grammar kinds start = record { grammar = grammar; kinds = kinds; start = start }

-- the text of Mini spells one checked grammar
spelled_once : SpellsOnly mini_text mini → (one other : CheckedGrammar) → Spells mini_text None one → Spells mini_text None other → one ≡ other
unfolding made
spelled_once only one other spells also =
    let same : one.grammar ≡ other.grammar = sym (only.only one.grammar spells.text) ∙ only.only other.grammar also.text in
    let kinds : one.kinds ≡ other.kinds = spells.checked.numbered ∙ ap kinds_of same ∙ sym also.checked.numbered in
    let start : one.start ≡ other.start = same_Some one.start other.start (sym spells.start ∙ ap (λ (g : WrittenGrammar). start_of g None) same ∙ also.start) in
    ap (λ (g : WrittenGrammar). made g one.kinds one.start) same
    ∙ ap (λ (k : List TokenKind). made other.grammar k one.start) kinds
    ∙ ap (made other.grammar other.kinds) start

-- a program has one problem in a mode
problem_once : SpellsOnly mini_text mini → InputsAreOne → (mode : TreeMode) (number size : ℕ) (one other : Problem) → IsCaseProblem mode number size one
    → IsCaseProblem mode number size other → one ≡ other
problem_once only inputs mode number size one other of also =
    let same : of.grammar ≡ also.grammar = spelled_once only of.grammar also.grammar of.spelled also.spelled in
    let moved = subst (λ (g : CheckedGrammar). IsInputOf g (case_text number size) of.input) same of.of_case in
    let input : of.input ≡ also.input =
    inputs also.grammar (case_text number size) of.input also.input moved also.of_case (of.admits ∙ sym also.admits) (of.plain ∙ sym also.plain) in
    of.is_problem ∙ ap (λ (i : TreeInput). Problem.of_tree mode i) input ∙ sym also.is_problem

pub summaries_are_one : SpellsOnly mini_text mini → InputsAreOne → SummariesAreOne
summaries_are_one only inputs mode number size one other of also =
    over of ∙ ap (λ (p : Problem). summary_text p rule_map) (problem_once only inputs mode number size of.problem also.problem of.of_case also.of_case)
    ∙ sym (over also)
  where
    over : {text : List ℕ} (is : IsSummary mode number size text) → text ≡ summary_text is.problem rule_map
    over is = is.is_summary rule_map (λ t here there. refl) (rule_says (questions_of admits_all is.problem rule_map))
