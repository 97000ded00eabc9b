use Rattle.std.proofs.Common.{List, ap, length, sym, true≢false}
use Rattle.cert_check_texts.specs.declared.reached.Reached.{Reached}
use Rattle.cert_check_texts.proofs.Steps.{after_all, next_token, none_reached}
use Rattle.cert_check_texts.proofs.Taking.{empty_is}
use Rattle.cert_check_texts.proofs.prints.Print.ends_by_all.Goals as goal

pub spelling-requires : goal.spelling-requires
spelling-requires c = c.requires.slices c.loop-token.token-index _ c.loop-token-test.true

pub loop-token-init : goal.loop-token-init
loop-token-init c = (λ some. some, λ some. some)

pub loop-token-preserved : goal.loop-token-preserved
loop-token-preserved c =
    let next = rw (c.deref.ensures.value, c.spelling.ensures) at c.in_ok-reached.ensures.next in
    next_token c.args.self.now c.args.found.now c.args.spelled.now _ c.loop-token.reached.items _ c.loop-token.token-index _ c.loop-token-test.true
    c.loop-token.invariant next

pub returns-then-is_empty : goal.returns-then-is_empty
returns-then-is_empty c = (
  λ is. absurd (true≢false (sym is)),
  λ whole.
      let none =
      (empty_is c.loop-token.reached.items _ c.is_empty.result c.loop-token.reached.ok.0 c.is_empty.ensures).0 c.if-is_empty.true in
      absurd (none_reached c.args.self.now c.args.found.now c.args.spelled.now _ c.loop-token.reached.items c.loop-token.token-index
      (ap (λ (l : List Reached). length l) none) c.loop-token.invariant whole),
)

pub returns : goal.returns
returns c =
    let ends = rw c.deref-2.ensures.value at c.ends_at_some.ensures in
    let whole =
    after_all c.args.self.now c.args.found.now c.args.spelled.now _ c.loop-token.reached.items c.loop-token.token-index c.loop-token-test.false
    c.loop-token.invariant in
    (λ is. whole.1 (ends.0 is), λ w. ends.1 (whole.0 w))
