use Rattle.std.proofs.Common.{ℕ, [], None}
use Rattle.cert_check_texts.specs.inner.Print.{LeadsTo}
use Rattle.cert_check_texts.proofs.Members.{from_all, from_more, from_none}
use Rattle.cert_check_texts.proofs.Steps.{first_are, listed_as, lists_of, there_of}
use Rattle.cert_check_texts.proofs.prints.Print.after_first_token.Goals as goal

pub add-requires-clause-there : goal.add-requires-clause-there
add-requires-clause-there c =
    there_of c.args.self.now c.requires c.args.spelling.now c.with-equal.result.now
    (listed_as c.args.self.now.equal.now c.with-equal.ensures c.as_bytes.ensures.value)
    c.loop-index.index-index _ c.loop-index-test.true

pub loop-index-init : goal.loop-index-init
loop-index-init c = from_none {A = ℕ} (λ index pair. LeadsTo c.args.self.now None 0 index pair) [] c.new-first.result.items c.new-first.ensures.items

pub loop-index-preserved : goal.loop-index-preserved
loop-index-preserved c =
    from_more {A = ℕ} (λ index pair. LeadsTo c.args.self.now None 0 index pair) [] c.loop-index.first.items c.add.new.pairs.items c.with-equal.result.now
    c.loop-index.index-index 0 c.loop-index-test.true c.loop-index.invariant c.in_ok-add.ensures

pub returns : goal.returns
returns c =
    first_are c.args.self.now c.args.spelling.now c.with-equal.result.now
    (lists_of c.args.self.now c.requires c.args.spelling.now c.with-equal.result.now
    (listed_as c.args.self.now.equal.now c.with-equal.ensures c.as_bytes.ensures.value))
    c.loop-index.first.items
    (from_all {A = ℕ} (λ index pair. LeadsTo c.args.self.now None 0 index pair) [] c.loop-index.first.items c.with-equal.result.now c.loop-index.index-index
    c.loop-index-test.false c.loop-index.invariant)
