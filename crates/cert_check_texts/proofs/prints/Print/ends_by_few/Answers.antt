use Rattle.std.proofs.Common.{List, map, subst}
use Rattle.lexer.specs.Tokens.{token_of}
use Rattle.token_print.specs.Spelling.{spelling}
use Rattle.cert_check_texts.specs.declared.reached.Reached.{Reached}
use Rattle.cert_check_texts.specs.inner.Print.{SomeCanEnd}
use Rattle.cert_check_texts.proofs.Steps.{few_all, few_next}
use Rattle.cert_check_texts.proofs.prints.Print.ends_by_few.Goals as goal

pub spelling-requires : goal.spelling-requires
spelling-requires c = c.requires.slices c.loop-token.token-index _ c.loop-token-test.true

pub loop-token-init : goal.loop-token-init
loop-token-init c =
    subst (λ (l : List Reached). SomeCanEnd c.args.self.now l (map (spelling c.args.found.now) (map token_of c.args.spelled.now)))
    c.in_ok-reached.ensures.items

pub loop-token-preserved : goal.loop-token-preserved
loop-token-preserved c =
    let next = rw (c.deref.ensures.value, c.spelling.ensures) at c.in_ok-reached-2.ensures in
    few_next c.args.self.now c.args.found.now c.args.spelled.now _ c.loop-token.reached.items _ c.loop-token.token-index _ c.loop-token-test.true
    c.loop-token.invariant next

pub returns : goal.returns
returns c =
    let ends = rw c.deref-2.ensures.value at c.ends_at_some.ensures in
    λ is. few_all c.args.self.now c.args.found.now c.args.spelled.now _ c.loop-token.reached.items c.loop-token.token-index c.loop-token-test.false
    c.loop-token.invariant (ends.0 is)
