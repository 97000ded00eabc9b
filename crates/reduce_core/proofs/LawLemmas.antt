-- The laws of the reducer of lines, from those of reductions by rounds.
use Rattle.std.proofs.Common.{ℕ, List, sym, ap, ◌∙◌, subst}
use Rattle.std.proofs.lemmas.List.Elements.{All-weaker}
use Rattle.reduce_step.specs.Plan.{End, MayAsk}
use Rattle.reduce_step.specs.Ahead.{after_all, ahead}
use Rattle.reduce_step.proofs.Lent.{ahead_may}
use Rattle.reduce_rounds.specs.Mode.{RoundMode}
use Rattle.reduce_rounds.specs.Reduction.{Reduction}
use Rattle.reduce_rounds.specs.Laws.{EndsWell, result_of}
use Rattle.reduce_rounds.specs.Verdicts.{HasVerdicts, says_yes}
use Rattle.reduce_rounds.proofs.Lent as lent
use Rattle.reduce_core.specs.declared.lines.Line.{Line}
use Rattle.reduce_core.specs.LineMode.{AreOfStart, LineInput, line_mode, line_plan}
use Rattle.reduce_core.specs.Laws.{AheadAreCandidates, AsksCandidates, FollowsLines, LinesEndMinimal, RefusesLinesAtNo}
use Rattle.reduce_core.specs.Candidates.{IsLineCandidate, IsLineEdit}
use Rattle.reduce_core.specs.Reduction.{Admits, line_recursion}
use Rattle.reduce_core.proofs.LineRounds.{lines_are_recursions}
use Rattle.reduce_core.proofs.LineLaws.{line_lawful, line_tries_edits}

abbrev of_input : Admits → List ℕ → LineInput
of_input admits start = record { admits = admits; start = start }

pub follows_lines : FollowsLines
follows_lines admits V start =
    let mode : RoundMode (List Line) = line_mode (of_input admits start) in
    let is = sym (lines_are_recursions admits (says_yes V) start) in
    let all = lent.follows_reduction mode V in
    record {
      ends =
          λ has. all.ends (subst (λ (r : Reduction (List Line)). HasVerdicts V r.questions) (sym is) has)
          ∙ ap (λ (r : Reduction (List Line)). End (result_of (line_recursion admits start) r)) is;
      defined = λ ended. subst (λ (r : Reduction (List Line)). HasVerdicts V r.questions) is (all.defined ended);
    }

pub refuses_lines_at_no : RefusesLinesAtNo
refuses_lines_at_no admits start V =
    let both = lent.refuses_at_no (line_mode (of_input admits start)) V in
    let is = lines_are_recursions admits (says_yes V) start in (
      λ yes_there. ap (λ (r : Reduction (List Line)). r.refused) is ∙ both.0 yes_there,
      λ no_there. let refused = both.1 no_there in (refused.0, ap (λ (r : Reduction (List Line)). r.refused) is ∙ refused.1),
    )

pub lines_end_minimal : LinesEndMinimal
lines_end_minimal admits V start admitted stays has =
    let input : LineInput = of_input admits start in
    let is = lines_are_recursions admits (says_yes V) start in
    subst (λ (r : Reduction (List Line)). EndsWell (line_mode input) (AreOfStart input) IsLineEdit V r.state) (sym is)
    (lent.ends_minimal (line_mode input) (AreOfStart input) IsLineEdit (λ lines. tt) (line_lawful input) (line_tries_edits input) admitted V
    (ap (λ (r : Reduction (List Line)). r.refused) (sym is) ∙ stays) (subst (λ (r : Reduction (List Line)). HasVerdicts V r.questions) is has))

pub asks_candidates : AsksCandidates
asks_candidates admits start text admitted may =
    let input : LineInput = of_input admits start in
    let one = lent.asks_candidates (line_mode input) (AreOfStart input) (line_lawful input).keeps admitted text may in
    record { lines = one.state; some = one.kept; listed = one.listed; joined = one.same }

pub ahead_are_candidates : AheadAreCandidates
ahead_are_candidates admits start admitted answers most =
    All-weaker (λ text. MayAsk (line_plan admits start) text) (λ text. IsLineCandidate admits start text)
    (λ text may. asks_candidates admits start text admitted may)
    (ahead most (after_all answers (line_plan admits start))) (ahead_may (line_plan admits start) answers most)
