-- Runs whose verdicts agree come to the same.
use Rattle.std.proofs.Common.{◌≡◌, ℕ, Bool, true, false, List, [], ◌∷◌, All, Option, Some, None, IsSome, cond, length, refl, sym, ap, ◌∙◌, subst}
use Rattle.std.proofs.lemmas.List.Elements.{All-head, All-tail}
use Rattle.std.proofs.lemmas.Slice.Eq.{bytes_eq-Decides}
use Rattle.std.specs.Str.{bytes_eq}
use Rattle.script_gate_trait.specs.declared.gate.Verdict.{Verdict}
use Rattle.verdict_table.specs.declared.record.Record.{Record}
use Rattle.verdict_table.specs.TableState.{verdict_in}
use Rattle.reduce_journal.specs.declared.counts.Counts.{Counts}
use Rattle.reduce_journal.specs.History.{records_of}
use Rattle.reduce_rounds.specs.ByTrials as trials
use Rattle.reduce_rounds.specs.Laws.{AgreeingMapsReduceAlike}
use Rattle.reduce_rounds.specs.Verdicts.{Agree, HasVerdicts, says_yes}
use Rattle.reduce_rounds.specs.Reduction.{Recursion, Reduction, capped_count, reduction}
use Rattle.reduce_rounds.proofs.Lent.{agreeing_maps}
use Rattle.reduce_core.specs.Laws.{LinesAreRecursions}
use Rattle.reduce_core.specs.LineMode.{line_mode}
use Rattle.reduce_core.specs.Reduction.{Admits, line_recursion}
use Rattle.reduce_perses.specs.VisitRounds.{visit_round}
use Rattle.reduce_hdd.specs.LevelRounds.{level_round}
use Rattle.reduce_step.specs.declared.mode.TreeMode.TheVariants.{Hdd, Perses}
use Rattle.reduce_trees.specs.Laws.{WalksAreRecursions}
use Rattle.reduce_trees.specs.TreeRounds.{tree_round}
use Rattle.reduce_trees.specs.WalkMode.{walk_mode}
use Rattle.reduce_trees_mode.specs.InStyles.{tree_recursion}
use Rattle.spell_shrink.specs.Laws.{SpellersAreRecursions}
use Rattle.spell_shrink.specs.SpellMode.{spell_mode}
use Rattle.spell_shrink.specs.SpellRecursion.{spell_recursion}
use Rattle.run_problem.specs.Problem.{IsProblem, Problem, StateOf, counts_of, questions_of, recursion_of, reduced_text}
use Rattle.run_problem.specs.Problem.{reduced_units, reduction_of, rounds_of, start_text, units_of}
use Rattle.run_problem.specs.Laws.{ProblemsReduceAlike, RunsReduceAlike, VerdictsAgree}

-- ---- the reductions over two maps

-- what holds of one recursion holds of each whose reductions are the same
moved : {T : Type 0} (one other : Recursion T) → ((verdict : List ℕ → Bool) → reduction one verdict ≡ reduction other verdict) → AgreeingMapsReduceAlike other
    → AgreeingMapsReduceAlike one
moved {T = T} one other same alike V W agree has has' =
    same (says_yes V)
    ∙ alike V W agree (subst (λ (r : Reduction T). HasVerdicts V r.questions) (same (says_yes V)) has)
    (subst (λ (r : Reduction T). HasVerdicts W r.questions) (same (says_yes W)) has')
    ∙ sym (same (says_yes W))

pub problems_reduce_alike : LinesAreRecursions → WalksAreRecursions Perses visit_round → WalksAreRecursions Hdd level_round
    → SpellersAreRecursions visit_round Perses → SpellersAreRecursions level_round Hdd → ProblemsReduceAlike
problems_reduce_alike lines visits levels spelled spelled_levels guard (Problem.of_lines start) is =
    moved (line_recursion guard start) (trials.recursion_of (line_mode (record { admits = guard; start = start })))
    (λ verdict. lines guard verdict start) (agreeing_maps (line_mode (record { admits = guard; start = start })))
problems_reduce_alike lines visits levels spelled spelled_levels guard (Problem.of_tree Perses input) is =
    moved (tree_recursion (tree_round Perses input) input) (trials.recursion_of (walk_mode visit_round input)) (λ verdict. visits input verdict is)
    (agreeing_maps (walk_mode visit_round input))
problems_reduce_alike lines visits levels spelled spelled_levels guard (Problem.of_tree Hdd input) is =
    moved (tree_recursion (tree_round Hdd input) input) (trials.recursion_of (walk_mode level_round input)) (λ verdict. levels input verdict is)
    (agreeing_maps (walk_mode level_round input))
problems_reduce_alike lines visits levels spelled spelled_levels guard (Problem.of_respelling Perses input) is =
    moved (spell_recursion Perses input) (trials.recursion_of (spell_mode visit_round input)) (λ verdict. spelled input verdict is)
    (agreeing_maps (spell_mode visit_round input))
problems_reduce_alike lines visits levels spelled spelled_levels guard (Problem.of_respelling Hdd input) is =
    moved (spell_recursion Hdd input) (trials.recursion_of (spell_mode level_round input)) (λ verdict. spelled_levels input verdict is)
    (agreeing_maps (spell_mode level_round input))

module _ (guard : Admits) (V W : List ℕ → Option Verdict) (agree : Agree V W) where
  -- what is told of a reduction is the same of both
  record AreSame (problem : Problem) : Type 0 where
    questions : questions_of guard problem V ≡ questions_of guard problem W
    text : reduced_text guard problem V ≡ reduced_text guard problem W
    units : reduced_units guard problem V ≡ reduced_units guard problem W
    rounds : rounds_of guard problem V ≡ rounds_of guard problem W

  are_same : ProblemsReduceAlike → (problem : Problem) → IsProblem problem → HasVerdicts V (questions_of guard problem V)
      → HasVerdicts W (questions_of guard problem W) → AreSame problem
  are_same alike problem is has has' =
      let same : reduction_of guard problem V ≡ reduction_of guard problem W = alike guard problem is V W agree has has' in
      record {
        questions = ap (λ (r : Reduction (StateOf problem)). r.questions) same;
        text = ap (λ (r : Reduction (StateOf problem)). (recursion_of guard problem).text r.state) same;
        units = ap (λ (r : Reduction (StateOf problem)). (recursion_of guard problem).size r.state) same;
        rounds = ap (λ (r : Reduction (StateOf problem)). r.rounds) same;
      }

-- ---- two runs

counts_alike : (guard : Admits) (problem : Problem) (rs rs' : List Record) (agree : Agree (verdict_in rs) (verdict_in rs'))
    → AreSame guard (verdict_in rs) (verdict_in rs') agree problem
    → counts_of guard problem rs ≡ record (counts_of guard problem rs') { records = length rs }
counts_alike guard problem rs rs' agree same = λ i. record {
  start_units = units_of problem;
  end_units = same.units i;
  start_bytes = length (start_text problem);
  end_bytes = length (same.text i);
  rounds = capped_count (same.rounds i);
  used = capped_count (length (same.questions i));
  records = length rs;
}

pub runs_reduce_alike : ProblemsReduceAlike → RunsReduceAlike
runs_reduce_alike alike workers workers' kept kept' guard problem history history' text text' counts counts' ran ran' agree =
    let V = verdict_in (records_of history) in
    let W = verdict_in (records_of history') in
    let same = are_same guard V W agree alike problem ran.reduced.is_problem ran.reduced.defined ran'.reduced.defined in (
      ran.reduced.is_text ∙ same.text ∙ sym ran'.reduced.is_text,
      ran.is_counts ∙ counts_alike guard problem (records_of history) (records_of history') agree same
          ∙ ap (λ (c : Counts). record c { records = length (records_of history) }) (sym ran'.is_counts),
    )

-- ---- the records of a gate

module _ (may_say : List ℕ → Verdict → Type 0) where
  -- what the map of some records says the gate may say
  said_at : (r : Record) (rs : List Record) (t : List ℕ) (v : Verdict) (b : Bool) → b ≡ bytes_eq t r.text → may_say r.text r.verdict
      → (verdict_in rs t ≡ Some v → may_say t v)
      → cond b (Some r.verdict) (verdict_in rs t) ≡ Some v → may_say t v
  said_at r rs t v true e said later is =
      let same_text : r.text ≡ t = sym ((bytes_eq-Decides t r.text).0 (sym e)) in
      let same_verdict : r.verdict ≡ v = cc is in
      subst (λ (w : Verdict). may_say t w) same_verdict (subst (λ (x : List ℕ). may_say x r.verdict) same_text said)
  said_at r rs t v false e said later is = later is

  was_said : (rs : List Record) (t : List ℕ) (v : Verdict) → All (λ r. may_say r.text r.verdict) rs → verdict_in rs t ≡ Some v → may_say t v
  was_said [] t v said is = absurd (cc is)
  was_said (r ∷ rs) t v said is =
      said_at r rs t v (bytes_eq t r.text) refl (All-head (λ q. may_say q.text q.verdict) r rs said)
      (λ later. was_said rs t v (All-tail (λ q. may_say q.text q.verdict) r rs said) later) is

  by_options : (t : List ℕ) (o o' : Option Verdict) → ((v : Verdict) → o ≡ Some v → may_say t v) → ((v : Verdict) → o' ≡ Some v → may_say t v)
      → ((one other : Verdict) → may_say t one → may_say t other → one ≡ other) → IsSome o → IsSome o' → o ≡ o'
  by_options t None o' said said' one some some' = absurd (cc some)
  by_options t (Some v) None said said' one some some' = absurd (cc some')
  by_options t (Some v) (Some w) said said' one some some' = ap Some (one v w (said v refl) (said' w refl))

  pub verdicts_agree : VerdictsAgree may_say
  verdicts_agree one rs rs' said said' t some some' =
      by_options t (verdict_in rs t) (verdict_in rs' t) (λ v is. was_said rs t v said is) (λ v is. was_said rs' t v said' is) (λ v w. one t v w) some some'
