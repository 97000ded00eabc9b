use Rattle.std.proofs.Common.{ℕ, []}
use Rattle.cert_check_texts.specs.inner.Reached.{SomeOf}
use Rattle.cert_check_texts.specs.inner.Print.{LeadsToLater}
use Rattle.cert_check_texts.proofs.Members.{from_all, from_more, from_none}
use Rattle.cert_check_texts.proofs.Steps.{later_are, listed_as, lists_of, there_of}
use Rattle.cert_check_texts.proofs.prints.Print.after_later_token.Goals as goal

pub add_later_from-requires-clause-there : goal.add_later_from-requires-clause-there
add_later_from-requires-clause-there c =
    there_of c.args.self.now c.requires c.args.spelling.now c.with-equal.result.now
    (listed_as c.args.self.now.equal.now c.with-equal.ensures c.as_bytes.ensures.value)
    c.loop-index.index-index _ c.loop-index-test.true

pub loop-index-init : goal.loop-index-init
loop-index-init c =
    from_none {A = ℕ} (λ index pair. SomeOf c.args.firsts.now (λ from. LeadsToLater c.args.self.now index from pair)) [] c.new-later.result.items
    c.new-later.ensures.items

pub loop-index-preserved : goal.loop-index-preserved
loop-index-preserved c =
    from_more {A = ℕ} (λ index pair. SomeOf c.args.firsts.now (λ from. LeadsToLater c.args.self.now index from pair)) [] c.loop-index.later.items
    c.add_later_from.new.pairs.items c.with-equal.result.now c.loop-index.index-index 0 c.loop-index-test.true c.loop-index.invariant
    c.in_ok-add_later_from.ensures

pub returns : goal.returns
returns c =
    later_are c.args.self.now c.args.spelling.now c.with-equal.result.now
    (lists_of c.args.self.now c.requires c.args.spelling.now c.with-equal.result.now
    (listed_as c.args.self.now.equal.now c.with-equal.ensures c.as_bytes.ensures.value))
    c.args.firsts.now c.loop-index.later.items
    (from_all {A = ℕ} (λ index pair. SomeOf c.args.firsts.now (λ from. LeadsToLater c.args.self.now index from pair)) [] c.loop-index.later.items
    c.with-equal.result.now c.loop-index.index-index c.loop-index-test.false c.loop-index.invariant)
