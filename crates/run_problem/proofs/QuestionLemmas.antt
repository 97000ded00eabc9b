-- A reducer asks the questions of its reduction: what is said of a history by the one is what the other says.
use Rattle.std.proofs.Common.{◌≡◌, ◌≤◌, ◌<◌, ◌+◌, ◌++◌, arith, ℕ, zero, suc, Bool, true, false, cond, List, [], ◌∷◌, length}
use Rattle.std.proofs.Common.{Option, Some, None, max, refl, sym, ap, ◌∙◌, subst, append-nil, length-append}
use Rattle.std.specs.List.{IsDistinct}
use Rattle.std.specs.Option.{option_map_or}
use Rattle.std.specs.Str.{bytes_eq}
use Rattle.script_gate_trait.specs.declared.gate.Verdict.{Verdict}
use Rattle.script_gate_trait.specs.declared.gate.Verdict.TheVariants.{Yes, No}
use Rattle.verdict_table.specs.declared.record.Record.{Record}
use Rattle.verdict_table.specs.TableState.{Extends, texts_of, verdict_in}
use Rattle.verdict_table.proofs.Lent.{extends_itself}
use Rattle.reduce_step.specs.Plan.{Plan, StepResult, End, Ask, HasEnded, after, height}
use Rattle.reduce_journal.specs.History.{AllMayFollow, History, IsHistory, records_of}
use Rattle.reduce_journal.specs.declared.event.Event.TheVariants.{Recorded, Committed}
use Rattle.ordered_commit.specs.Moves.{KeptVerdicts}
use Rattle.ordered_commit.specs.Replay.{CommitsWhatIsAsked, IsLegal, answered, record_at, replay, replay_from}
use Rattle.ordered_commit.proofs.Lent.{extends_at}
use Rattle.worker_pool.specs.Sequential.{answer_events, by_verdict, records_after, sequential_from}
use Rattle.reduce_core.specs.Reduction.{Admits}
use Rattle.reduce_rounds.specs.Trials.{Trials, Done, Try}
use Rattle.reduce_rounds.specs.Mode.{RoundMode}
use Rattle.reduce_rounds.specs.Reduction.{Reduction, asks_first, capped_count, ends_with}
use Rattle.reduce_rounds.specs.ByTrials.{reduction_of}
use Rattle.reduce_rounds.specs.RoundsPlan.{ask_if, plan_first, plan_in, plan_next, plan_opening, plan_rounds, plan_within, step_result}
use Rattle.reduce_rounds.specs.Verdicts.{is_yes, says_yes}
use Rattle.reduce_rounds.proofs.Lent.{all_rounds, by_test, next_round, reduction-in, reduction_in, rounds_in, tried_in}
use Rattle.reduce_core.specs.Laws.{LinesAreRecursions}
use Rattle.reduce_core.specs.LineMode.{line_mode}
use Rattle.reduce_core.specs.declared.lines.Line.{Line}
use Rattle.reduce_perses.specs.VisitRounds.{visit_round}
use Rattle.reduce_hdd.specs.LevelRounds.{level_round}
use Rattle.reduce_step.specs.declared.mode.TreeMode.TheVariants.{Hdd, Perses}
use Rattle.reduce_trees.specs.Laws.{WalksAreRecursions}
use Rattle.reduce_trees.specs.WalkMode.{walk_mode}
use Rattle.reduce_trees_mode.specs.Input.{TreeState}
use Rattle.spell_shrink.specs.Laws.{SpellersAreRecursions}
use Rattle.spell_shrink.specs.Respelled.{SpellState}
use Rattle.spell_shrink.specs.SpellMode.{spell_mode}
use Rattle.run_problem.specs.Committed.{IsPrefix, committed_from, committed_texts, named_text, questions_over, thread_from, with_verdict}
use Rattle.run_problem.specs.Laws.{HistoriesGoByQuestions, answer_count}
use Rattle.run_problem.specs.Problem.{IsProblem, Problem, questions_of}
use Rattle.run_problem.specs.Reducer.{reducer_of}

-- what a reducer asks over a verdict on every text
abbrev asked_by : (List ℕ → Bool) → Plan → List (List ℕ)
asked_by verdict (End result) = []
asked_by verdict (Ask text at_yes at_no) = text ∷ cond (verdict text) (asked_by verdict at_yes) (asked_by verdict at_no)

-- ---- that is what the reduction asks

module _ {T : Type 0} (mode : RoundMode T) (verdict : List ℕ → Bool) where
  abbrev AsksAs : Plan → Reduction T → Type 0
  AsksAs plan r = asked_by verdict plan ≡ r.questions

  by_answer : (answer : Bool) (text : List ℕ) (y n : Plan) (ry rn : Reduction T) → AsksAs y ry → AsksAs n rn
      → text ∷ cond answer (asked_by verdict y) (asked_by verdict n) ≡ (asks_first text (cond answer ry rn)).questions
  by_answer true text y n ry rn at_yes at_no = ap (λ (later : List (List ℕ)). text ∷ later) at_yes
  by_answer false text y n ry rn at_yes at_no = ap (λ (later : List (List ℕ)). text ∷ later) at_no

  asked_or_passed : (listed : Bool) (text : List ℕ) (y n p : Plan) (ry rn : Reduction T) → AsksAs y ry → AsksAs n rn → AsksAs p rn
      → AsksAs (ask_if listed text y n p) (by_test listed (verdict text) text ry rn)
  asked_or_passed true text y n p ry rn at_yes at_no passed = by_answer (verdict text) text y n ry rn at_yes at_no
  asked_or_passed false text y n p ry rn at_yes at_no passed = passed

  in_trials : (go : T → Bool → ℕ → Plan) (go' : T → Bool → Reduction T)
      → ((state : T) (changed : Bool) (used : ℕ) → AsksAs (go state changed used) (go' state changed))
      → (state : T) (trials : Trials T) (changed : Bool) (used : ℕ)
      → AsksAs (plan_in mode go state trials changed used) (tried_in mode verdict go' state trials changed)
  in_trials go go' each state Done changed used = each state changed used
  in_trials go go' each state (Try other at_yes at_no) changed used =
      asked_or_passed (mode.is_listed other) (mode.text other)
      (plan_in mode go other at_yes true (capped_count (used + 1))) (plan_in mode go state at_no changed (capped_count (used + 1)))
      (plan_in mode go state at_no changed used)
      (tried_in mode verdict go' other at_yes true) (tried_in mode verdict go' state at_no changed)
      (in_trials go go' each other at_yes true (capped_count (used + 1)))
      (in_trials go go' each state at_no changed (capped_count (used + 1)))
      (in_trials go go' each state at_no changed used)

  in_phase : (go : T → Plan) (go' : T → Reduction T) (result : StepResult) (state : T) (o : Option T) → ((next : T) → AsksAs (go next) (go' next))
      → AsksAs (option_map_or go o (End result)) (option_map_or go' o (ends_with state false))
  in_phase go go' result state None later = refl
  in_phase go go' result state (Some next) later = later next

  next : (used rounds : ℕ) (state : T) (changed : Bool) (go : ℕ → ℕ → T → Plan) (go' : T → Reduction T)
      → ((remaining : T) → AsksAs (go (capped_count (rounds + 1)) used remaining) (go' remaining))
      → AsksAs (plan_next mode go rounds state changed used) (next_round mode.next_phase go' state changed)
  next used rounds state true go go' later = later state
  next used rounds state false go go' later =
      in_phase (go (capped_count (rounds + 1)) used) go' (step_result mode state used (capped_count (rounds + 1)) false) state (mode.next_phase state) later

  in_rounds : (n rounds used : ℕ) (state : T) → AsksAs (plan_within n mode rounds used state) (rounds_in mode verdict n state)
  unfolding plan_within
  in_rounds zero rounds used state = refl
  in_rounds (suc n) rounds used state =
      in_trials (plan_next mode (λ r u l. plan_within n mode r u l) rounds) (next_round mode.next_phase (λ l. rounds_in mode verdict n l))
      (λ remaining changed used'. next used' rounds remaining changed (λ r u l. plan_within n mode r u l) (λ l. rounds_in mode verdict n l)
      (λ l. in_rounds n (capped_count (rounds + 1)) used' l))
      state (mode.round state) false used

  in_all_rounds : (used : ℕ) (state : T) → AsksAs (plan_rounds mode 0 used state) (all_rounds mode verdict state)
  unfolding plan_rounds
  in_all_rounds used state = in_rounds (suc (mode.measure state)) 0 used state

  whole : AsksAs (plan_first mode) (reduction_in mode verdict)
  whole =
      by_answer (verdict (mode.text mode.start)) (mode.text mode.start) (plan_opening mode 0 mode.start mode.opening 1)
      (End (step_result mode mode.start 1 0 true))
      (tried_in mode verdict (λ state changed. all_rounds mode verdict state) mode.start mode.opening false) (ends_with mode.start true)
      (in_trials (λ remaining changed used. plan_rounds mode 0 used remaining) (λ state changed. all_rounds mode verdict state)
      (λ remaining changed used. in_all_rounds used remaining) mode.start mode.opening false 1)
      refl

  asks_questions : asked_by verdict (plan_first mode) ≡ (reduction_of mode verdict).questions
  asks_questions = whole ∙ sym (ap (λ (r : Reduction T). r.questions) (reduction-in mode verdict))

-- of a problem
problem_asks : LinesAreRecursions → WalksAreRecursions Perses visit_round → WalksAreRecursions Hdd level_round
    → SpellersAreRecursions visit_round Perses → SpellersAreRecursions level_round Hdd → (guard : Admits) (problem : Problem) → IsProblem problem
    → (V : List ℕ → Option Verdict) → asked_by (says_yes V) (reducer_of guard problem) ≡ questions_of guard problem V
problem_asks lines visits levels spelled spelled_levels guard (Problem.of_lines start) is V =
    asks_questions (line_mode (record { admits = guard; start = start })) (says_yes V)
    ∙ sym (ap (λ (r : Reduction (List Line)). r.questions) (lines guard (says_yes V) start))
problem_asks lines visits levels spelled spelled_levels guard (Problem.of_tree Perses input) is V =
    asks_questions (walk_mode visit_round input) (says_yes V) ∙ sym (ap (λ (r : Reduction TreeState). r.questions) (visits input (says_yes V) is))
problem_asks lines visits levels spelled spelled_levels guard (Problem.of_tree Hdd input) is V =
    asks_questions (walk_mode level_round input) (says_yes V) ∙ sym (ap (λ (r : Reduction TreeState). r.questions) (levels input (says_yes V) is))
problem_asks lines visits levels spelled spelled_levels guard (Problem.of_respelling Perses input) is V =
    asks_questions (spell_mode visit_round input) (says_yes V) ∙ sym (ap (λ (r : Reduction SpellState). r.questions) (spelled input (says_yes V) is))
problem_asks lines visits levels spelled spelled_levels guard (Problem.of_respelling Hdd input) is V =
    asks_questions (spell_mode level_round input) (says_yes V) ∙ sym (ap (λ (r : Reduction SpellState). r.questions) (spelled_levels input (says_yes V) is))

-- ---- where it has ended

ended_asks : (verdict : List ℕ → Bool) (plan : Plan) → HasEnded plan → asked_by verdict plan ≡ []
ended_asks verdict (End result) ended = refl
ended_asks verdict (Ask text y n) ended = absurd (cc ended)

asks_ended : (verdict : List ℕ → Bool) (plan : Plan) → asked_by verdict plan ≡ [] → HasEnded plan
asks_ended verdict (End result) none = refl
asks_ended verdict (Ask text y n) none = absurd (cc none)

nothing_more : (texts later : List (List ℕ)) → texts ++ later ≡ texts → later ≡ []
nothing_more [] later is = is
nothing_more (text ∷ texts) later is = let rest : texts ++ later ≡ texts = cc is in nothing_more texts later rest

-- ---- how many it asks

fewer_of : (answer : Bool) (xs ys : List (List ℕ)) (most other : ℕ) → length xs ≤ most → length ys ≤ other
    → suc (length (cond answer xs ys)) ≤ max most other + 1
fewer_of true xs ys most other first second = omega (arith, first)
fewer_of false xs ys most other first second = omega (arith, second)

asked_within : (verdict : List ℕ → Bool) (plan : Plan) → length (asked_by verdict plan) ≤ height plan
asked_within verdict (End result) = omega arith
asked_within verdict (Ask text y n) =
    fewer_of (verdict text) (asked_by verdict y) (asked_by verdict n) (height y) (height n) (asked_within verdict y) (asked_within verdict n)

-- ---- records by number

one_longer : (records : List Record) (r : Record) → suc (length records) ≡ length (records ++ r ∷ [])
one_longer records r = let longer = length-append records (r ∷ []) in omega (arith, longer)

record_there : (number : ℕ) (records : List Record) → 0 < number → number ≤ length records → (r : Record) × (record_at number records ≡ Some r)
record_there zero records some few = absurd (omega (arith, some))
record_there (suc n) [] some few = absurd (omega (arith, few))
record_there (suc zero) (r ∷ records) some few = (r, refl)
record_there (suc (suc n)) (r ∷ records) some few =
    let fewer : suc n ≤ length records = omega (arith, few) in
    record_there (suc n) records (omega arith) fewer

-- as many commits as texts
commit_count : (earlier : List Record) (history : History) → AllMayFollow 2 (length earlier) history
    → answer_count history ≡ length (committed_from earlier history)
commit_count earlier [] may = refl
commit_count earlier (Recorded text verdict kept ∷ history) may =
    let r : Record = record { text = text; verdict = verdict } in
    commit_count (earlier ++ r ∷ []) history (subst (λ (n : ℕ). AllMayFollow 2 n history) (one_longer earlier r) may.1)
commit_count earlier (Committed number ∷ history) may =
    let at : (r : Record) × (record_at number earlier ≡ Some r) = record_there number earlier may.0.names.0 may.0.names.1 in
    ap (λ (n : ℕ). suc n) (commit_count earlier history may.1)
    ∙ ap (λ (o : Option Record). length (named_text o ++ committed_from earlier history)) (sym at.1)

pub commits_are_few : (history : History) (questions : List (List ℕ)) → IsHistory history → IsPrefix (committed_texts history) questions
    → answer_count history ≤ length questions
commits_are_few history questions may first =
    let count = commit_count [] history may in
    let all = ap (λ (texts : List (List ℕ)). length texts) first.1 in
    let both = length-append (committed_texts history) first.0 in
    omega (arith, count, all, both)

-- ---- what a history answers

module _ (V : List ℕ → Option Verdict) where
  extends_push : (records : List Record) (r : Record) → Extends V records → V r.text ≡ Some r.verdict → Extends V (records ++ r ∷ [])
  extends_push [] r extends known = (known, tt)
  extends_push (q ∷ records) r extends known = (extends.0, extends_push records r extends.1 known)

  -- an answer is one question
  one_question : (text : List ℕ) (y n : Plan) (verdict : Verdict) → V text ≡ Some verdict
      → asked_by (says_yes V) (Ask text y n) ≡ text ∷ asked_by (says_yes V) (after (Ask text y n) verdict)
  one_question text y n Yes known = ap (λ (o : Option Verdict). text ∷ cond (is_yes o) (asked_by (says_yes V) y) (asked_by (says_yes V) n)) known
  one_question text y n No known = ap (λ (o : Option Verdict). text ∷ cond (is_yes o) (asked_by (says_yes V) y) (asked_by (says_yes V) n)) known

  -- what a reducer asks is what the commits answer, and then what it asks where they lead it
  asks_committed : (earlier : List Record) (plan : Plan) (history : History) → Extends V earlier → Extends V (records_of history)
      → CommitsWhatIsAsked earlier plan history
      → asked_by (says_yes V) plan ≡ committed_from earlier history ++ asked_by (says_yes V) (replay_from earlier plan history)
  asks_committed earlier plan [] known later commits = refl
  asks_committed earlier plan (Recorded text verdict kept ∷ history) known later commits =
      let r : Record = record { text = text; verdict = verdict } in
      asks_committed (earlier ++ r ∷ []) plan history (extends_push earlier r known later.0) later.1 commits
  asks_committed earlier (End result) (Committed number ∷ history) known later commits = absurd (cc commits.2)
  asks_committed earlier (Ask text y n) (Committed number ∷ history) known later commits =
      let r : Record = commits.0 in
      let same : text ≡ r.text = cc commits.2 in
      let rest = asks_committed earlier (after (Ask text y n) r.verdict) history known later commits.3 in
      let there : Plan = replay_from earlier (after (Ask text y n) r.verdict) history in
      let both : text ∷ asked_by (says_yes V) (after (Ask text y n) r.verdict) ≡ r.text ∷ (committed_from earlier history ++ asked_by (says_yes V) there) =
      λ i. same i ∷ rest i in
      one_question text y n r.verdict (ap V same ∙ extends_at V earlier number r commits.1 known)
      ∙ both
      ∙ ap (λ (o : Option Record). (named_text o ++ committed_from earlier history) ++ asked_by (says_yes V)
      (replay_from earlier (answered o (Ask text y n)) history)) (sym commits.1)

  -- a history whose commits answer the first of what a reducer asks is one that it can have
  is_asked : (earlier : List Record) (plan : Plan) (history : History) (later : List (List ℕ)) → Extends V earlier → Extends V (records_of history)
      → AllMayFollow 2 (length earlier) history
      → asked_by (says_yes V) plan ≡ committed_from earlier history ++ later → CommitsWhatIsAsked earlier plan history
  is_asked earlier plan [] later known more may asks = tt
  is_asked earlier plan (Recorded text verdict kept ∷ history) later known more may asks =
      let r : Record = record { text = text; verdict = verdict } in
      is_asked (earlier ++ r ∷ []) plan history later (extends_push earlier r known more.0) more.1
      (subst (λ (n : ℕ). AllMayFollow 2 n history) (one_longer earlier r) may.1) asks
  is_asked earlier (End result) (Committed number ∷ history) later known more may asks =
      let at : (r : Record) × (record_at number earlier ≡ Some r) = record_there number earlier may.0.names.0 may.0.names.1 in
      let some : [] ≡ at.0.text ∷ (committed_from earlier history ++ later) =
      asks ∙ ap (λ (o : Option Record). (named_text o ++ committed_from earlier history) ++ later) at.1 in
      absurd (cc some)
  is_asked earlier (Ask text y n) (Committed number ∷ history) later known more may asks =
      let at : (r : Record) × (record_at number earlier ≡ Some r) = record_there number earlier may.0.names.0 may.0.names.1 in
      let r : Record = at.0 in
      let texts : asked_by (says_yes V) (Ask text y n) ≡ r.text ∷ (committed_from earlier history ++ later) =
      asks ∙ ap (λ (o : Option Record). (named_text o ++ committed_from earlier history) ++ later) at.1 in
      let same : text ≡ r.text = cc texts in
      let whole : text ∷ asked_by (says_yes V) (after (Ask text y n) r.verdict) ≡ r.text ∷ (committed_from earlier history ++ later) =
      sym (one_question text y n r.verdict (ap V same ∙ extends_at V earlier number r at.1 known)) ∙ texts in
      let rest : asked_by (says_yes V) (after (Ask text y n) r.verdict) ≡ committed_from earlier history ++ later = cc whole in
      (r, at.1, ap (λ (t : List ℕ). Some t) same, is_asked earlier (after (Ask text y n) r.verdict) history later known more may.1 rest)

  -- ---- one thread

  -- it does the same for a reducer as for its questions, whatever verdicts are kept
  module _ (K : KeptVerdicts) where
    abbrev DoesSame : Plan → Type 0
    DoesSame plan = (records : List Record) → sequential_from V K records plan ≡ thread_from V K records (asked_by (says_yes V) plan)

    one_answer : (o : Option Verdict) (records : List Record) (text : List ℕ) (y n : Plan) → DoesSame y → DoesSame n
        → by_verdict o (answer_events K records text Yes ++ sequential_from V K (records_after K records text Yes) y)
        (answer_events K records text No ++ sequential_from V K (records_after K records text No) n)
        ≡ with_verdict o (λ verdict. answer_events K records text verdict ++ thread_from V K (records_after K records text verdict)
        (cond (is_yes o) (asked_by (says_yes V) y) (asked_by (says_yes V) n)))
    one_answer None records text y n at_yes at_no = refl
    one_answer (Some Yes) records text y n at_yes at_no =
        ap (λ (h : History). answer_events K records text Yes ++ h) (at_yes (records_after K records text Yes))
    one_answer (Some No) records text y n at_yes at_no =
        ap (λ (h : History). answer_events K records text No ++ h) (at_no (records_after K records text No))

    does_same : (plan : Plan) → DoesSame plan
    does_same (End result) records = refl
    does_same (Ask text y n) records = one_answer (V text) records text y n (does_same y) (does_same n)

-- ---- of a problem's reducer

module _ (first : Plan) (history : History) (questions : List (List ℕ)) (asks : asked_by (says_yes (verdict_in (records_of history))) first ≡ questions) where
  abbrev V : List ℕ → Option Verdict
  V = verdict_in (records_of history)

  abbrev left_asks : List (List ℕ)
  left_asks = asked_by (says_yes V) (replay first history)

  all_asked : IsLegal first history → questions ≡ committed_texts history ++ left_asks
  all_asked legal = sym asks ∙ asks_committed V [] first history tt (extends_itself (records_of history) legal.distinct) legal.commits

  first_asked : IsLegal first history → IsPrefix (committed_texts history) questions
  first_asked legal = (left_asks, all_asked legal)

  is_legal : IsDistinct bytes_eq (texts_of (records_of history)) → IsHistory history → IsPrefix (committed_texts history) questions → IsLegal first history
  is_legal distinct may prefix = record {
    distinct = distinct;
    commits = is_asked V [] first history prefix.0 tt (extends_itself (records_of history) distinct) may (asks ∙ prefix.1);
  }

  is_answered : IsLegal first history → HasEnded (replay first history) → committed_texts history ≡ questions
  is_answered legal ended =
      sym (all_asked legal ∙ ap (λ (texts : List (List ℕ)). committed_texts history ++ texts) (ended_asks (says_yes V) (replay first history) ended)
      ∙ append-nil (committed_texts history))

  has_ended : IsLegal first history → committed_texts history ≡ questions → HasEnded (replay first history)
  has_ended legal all = asks_ended (says_yes V) (replay first history) (nothing_more (committed_texts history) left_asks (sym (all_asked legal) ∙ sym all))

pub histories_go : LinesAreRecursions → WalksAreRecursions Perses visit_round → WalksAreRecursions Hdd level_round → SpellersAreRecursions visit_round Perses
    → SpellersAreRecursions level_round Hdd → HistoriesGoByQuestions
histories_go lines visits levels spelled spelled_levels guard problem is history =
    let V : List ℕ → Option Verdict = verdict_in (records_of history) in
    let first : Plan = reducer_of guard problem in
    let questions : List (List ℕ) = questions_over guard problem history in
    let asks : asked_by (says_yes V) first ≡ questions = problem_asks lines visits levels spelled spelled_levels guard problem is V in
    record {
      answers = first_asked first history questions asks;
      legal = is_legal first history questions asks;
      answered = is_answered first history questions asks;
      ended = has_ended first history questions asks;
      alone = λ K. does_same V K first [] ∙ ap (thread_from V K []) asks;
      within = subst (λ (texts : List (List ℕ)). length texts ≤ height first) asks (asked_within (says_yes V) first);
    }
