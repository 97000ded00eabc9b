use Rattle.std.proofs.Common.{sym, true≢false, ◌∙◌}
use Rattle.std.proofs.lemmas.Bool.Decides.{Decides-eqb}
use Rattle.std.proofs.lemmas.Slice.Eq.{slice_eq-Decides}
use Rattle.cert_check.proofs.Found.{its_result, other_result, refused_start, unfinished}
use Rattle.cert_check.proofs.following.end_of.Goals as goal

pub returns-then-not-has_ended : goal.returns-then-not-has_ended
returns-then-not-has_ended g c = λ first history legal is.
    unfinished first (g.S.Step.plan c.args.reducer.now) history c.args.output.now legal is
    (λ ended. true≢false (sym (c.has_ended.ensures.1 ended) ∙ c.if-not-has_ended.true))

pub returns-then-refused : goal.returns-then-refused
returns-then-refused g c = λ first history legal is.
    refused_start first (g.S.Step.plan c.args.reducer.now) history c.args.output.now legal is (g.S.ReducerStep.so_far c.args.reducer.now)
    (c.refused.ensures.ended (c.has_ended.ensures.0 c.if-not-has_ended.false)) (sym c.refused.ensures.refused ∙ c.if-refused.true)

pub returns-then-eq : goal.returns-then-eq
returns-then-eq g c = λ first history legal is.
    let same = slice_eq-Decides Decides-eqb _ _ _ c.eq.ensures in
    its_result first (g.S.Step.plan c.args.reducer.now) history c.args.output.now legal is (g.S.ReducerStep.so_far c.args.reducer.now)
    (c.refused.ensures.ended (c.has_ended.ensures.0 c.if-not-has_ended.false)) (sym c.refused.ensures.refused ∙ c.if-refused.false)
    (sym (same.0 c.if-eq.true) ∙ c.result.ensures)

pub returns : goal.returns
returns g c = λ first history legal is.
    let same = slice_eq-Decides Decides-eqb _ _ _ c.eq.ensures in
    other_result first (g.S.Step.plan c.args.reducer.now) history c.args.output.now legal is (g.S.ReducerStep.so_far c.args.reducer.now)
    (c.refused.ensures.ended (c.has_ended.ensures.0 c.if-not-has_ended.false)) (sym c.refused.ensures.refused ∙ c.if-refused.false)
    (λ it. true≢false (sym (same.1 (c.result.ensures ∙ sym it)) ∙ c.if-eq.false))
