use Rattle.std.proofs.Common.{subst, sym}
use Rattle.std.specs.List.Sorted.{IsStrictlyIncreasing}
use Rattle.cert_check_texts.proofs.Steps.{are_of, listed_as, some_follow, there_of_all}
use Rattle.cert_check_texts.proofs.prints.Print.few_after_from.Goals as goal

pub index_from-begin-requires : goal.index_from-begin-requires
index_from-begin-requires c = subst IsStrictlyIncreasing (sym c.with-equal.ensures) (c.requires.laid.equal.rise _)

pub add_later_at-requires-clause-there : goal.add_later_at-requires-clause-there
add_later_at-requires-clause-there c =
    there_of_all c.args.self.now c.args.spelling.now c.with-equal.result.now
    (are_of c.args.self.now c.requires.laid c.args.spelling.now c.with-equal.result.now
    (listed_as c.args.self.now.equal.now c.with-equal.ensures c.as_bytes.ensures.value))

pub loop-step-init : goal.loop-step-init
loop-step-init c = some_follow c.args.self.now c.args.spelling.now c.args.reached.now c.in_ok-pairs.pairs.items c.in_ok-pairs.ensures

pub loop-step-preserved : goal.loop-step-preserved
loop-step-preserved c =
    c.in_ok-add_later_at.ensures c.args.spelling.now c.args.reached.now
    (are_of c.args.self.now c.requires.laid c.args.spelling.now c.with-equal.result.now
    (listed_as c.args.self.now.equal.now c.with-equal.ensures c.as_bytes.ensures.value)) c.requires.among c.loop-step.invariant

pub returns : goal.returns
returns c = λ pair at. c.loop-step.invariant pair (c.first_few.ensures pair at)
