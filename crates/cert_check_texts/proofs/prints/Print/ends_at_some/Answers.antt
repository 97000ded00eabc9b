use Rattle.std.proofs.Common.{[], All, Some, refl, sym, subst, ◌∙◌, true≢false}
use Rattle.std.proofs.lemmas.List.{take_all}
use Rattle.std.proofs.lemmas.List.Elements.{All-contains, All-more, All-nil, Contains-get_or}
use Rattle.cert_check_texts.specs.declared.reached.Reached.{Reached}
use Rattle.cert_check_texts.specs.inner.Print.{CanEnd}
use Rattle.cert_check_texts.proofs.prints.Print.ends_at_some.Goals as goal

pub loop-pair-init : goal.loop-pair-init
loop-pair-init c = All-nil (λ (pair : Reached). ¬ CanEnd c.args.self.now (Some pair.last) pair.offset [])

pub loop-pair-preserved : goal.loop-pair-preserved
loop-pair-preserved c =
    All-more (λ (pair : Reached). ¬ CanEnd c.args.self.now (Some pair.last) pair.offset []) c.args.pairs.now c.loop-pair.pair-index _ c.loop-pair-test.true
    c.loop-pair.invariant (λ can. true≢false (sym (c.ends_at.ensures.1 can) ∙ c.if-ends_at.false))

pub returns-then-ends_at : goal.returns-then-ends_at
returns-then-ends_at c =
    (λ is. (_, Contains-get_or c.args.pairs.now c.loop-pair.pair-index _ c.loop-pair-test.true, c.ends_at.ensures.0 c.if-ends_at.true), λ some. refl)

pub returns : goal.returns
returns c =
    let P : Reached → Type 0 = λ pair. ¬ CanEnd c.args.self.now (Some pair.last) pair.offset [] in
    let all = subst (All P) (take_all c.loop-pair.pair-index c.args.pairs.now c.loop-pair-test.false) c.loop-pair.invariant in
    (λ is. absurd (true≢false (sym is)), λ some. absurd (All-contains P c.args.pairs.now some.0 all some.1 some.2))
