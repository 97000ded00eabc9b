-- The rounds of mode `lines` are list steps, and each but the last leaves fewer lines.
use Rattle.std.proofs.Common.{◌≡◌, ◌<◌, ℕ, Bool, true, false, List, length, refl, sym, ap, ◌∙◌, subst}
use Rattle.list_ddmin.specs.ListStep.{kept_of}
use Rattle.list_ddmin.specs.Machine.{start as list_start}
use Rattle.reduce_rounds.specs.Trials.{Done}
use Rattle.reduce_rounds.specs.Mode.{IsLawful, Keeps}
use Rattle.reduce_rounds.specs.Reduction.{RoundEnd, after_round, end_at, next_rounds, rounds_of}
use Rattle.reduce_rounds.specs.ByTrials.{recursion_of, round_of, trials_end}
use Rattle.reduce_rounds.proofs.Lent.{goes_by_its_rounds, same_without_yes, smaller_after_yes, all_rounds_same, recursions_reduce_alike}
use Rattle.reduce_rounds.proofs.Lent.{ends_as_list_step, tries_selections}
use Rattle.reduce_core.specs.declared.lines.Line.{Line}
use Rattle.reduce_core.specs.Lines.{numbered_lines}
use Rattle.reduce_core.specs.LineMode.{LineInput, line_mode, line_trials}
use Rattle.reduce_core.specs.Reduction.{Admits, line_recursion, line_round, line_texts}
use Rattle.reduce_core.specs.Laws.{LinesAreRecursions, LinesGoByRounds}
use Rattle.reduce_core.proofs.Keeping.{kept_of-all}
use Rattle.reduce_core.proofs.LineLaws.{smaller-round}

module _ (admits : Admits) (start : List ℕ) where
  abbrev input : LineInput
  input = record { admits = admits; start = start }

  -- any lines will do
  any_keeps : Keeps (line_mode input) (λ lines. Unit {0})
  any_keeps = record {
    start = tt;
    opening = tt;
    round =
        λ lines kept. tries_selections (λ (l : List Line). Unit {0}) (λ keep. kept_of keep lines) (λ keep. Done) (length lines) true (λ keep selection. tt)
        (λ keep remainder. tt);
    phase = λ lines kept. tt;
  }

  any_lawful : IsLawful (line_mode input) (λ lines. Unit {0})
  any_lawful = record { keeps = any_keeps; smaller = λ lines kept. smaller-round lines; phases = λ lines kept. tt }

  module _ (verdict : List ℕ → Bool) where
    -- what is tried in a round comes to its list step
    round-is : (lines : List Line) → line_round admits verdict lines ≡ round_of (line_mode input) verdict lines
    round-is lines =
        sym (ap (λ (l : List Line). trials_end (line_texts admits) verdict l (line_trials lines (list_start (length lines) true))) (sym (kept_of-all lines))
        ∙ ends_as_list_step (line_texts admits) verdict (λ keep. kept_of keep lines) (λ keep. Done) (length lines) true)

    all-same : (lines : List Line) → rounds_of (line_recursion admits start) verdict lines ≡ rounds_of (recursion_of (line_mode input)) verdict lines
    all-same lines =
        all_rounds_same (line_mode input) (λ (l : List Line). Unit {0}) any_keeps (λ v. end_at (numbered_lines start)) (line_round admits) verdict refl
        (λ l kept. round-is l) lines tt

    -- the rounds go by one round and what follows
    pub rounds-step : (lines : List Line) → rounds_of (line_recursion admits start) verdict lines
        ≡ after_round (line_round admits verdict lines)
        (next_rounds (line_recursion admits start).next_phase (λ remaining. rounds_of (line_recursion admits start) verdict remaining)
        (line_round admits verdict lines))
    rounds-step lines =
        all-same lines
        ∙ goes_by_its_rounds (line_mode input) (λ (l : List Line). Unit {0}) any_lawful verdict lines tt
        ∙ (λ i. after_round (sym (round-is lines) i)
        (next_rounds (line_recursion admits start).next_phase (λ remaining. sym (all-same remaining) i) (sym (round-is lines) i)))

    -- a round with a yes leaves fewer lines
    pub fewer-after-yes : (lines : List Line) → (line_round admits verdict lines).changed ≡ true → length (line_round admits verdict lines).state < length lines
    fewer-after-yes lines =
        subst (λ (end : RoundEnd (List Line)). end.changed ≡ true → length end.state < length lines) (sym (round-is lines))
        (smaller_after_yes (line_mode input) verdict (λ (l : List Line). Unit {0}) any_lawful lines tt)

    -- a round without a yes leaves them all
    pub same-without-yes : (lines : List Line) → (line_round admits verdict lines).changed ≡ false → (line_round admits verdict lines).state ≡ lines
    same-without-yes lines =
        subst (λ (end : RoundEnd (List Line)). end.changed ≡ false → end.state ≡ lines) (sym (round-is lines))
        (same_without_yes (line_mode input) verdict lines (line_trials lines (list_start (length lines) true)))

pub lines_are_recursions : LinesAreRecursions
lines_are_recursions admits verdict start =
    recursions_reduce_alike (line_mode (record { admits = admits; start = start })) (λ (l : List Line). Unit {0}) (any_keeps admits start)
    (λ v. end_at (numbered_lines start)) (line_round admits) verdict refl (λ l kept. round-is admits start verdict l)

pub lines_go_by_rounds : LinesGoByRounds
lines_go_by_rounds admits start verdict lines kept = rounds-step admits start verdict lines
