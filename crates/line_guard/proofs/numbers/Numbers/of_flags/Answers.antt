use Rattle.std.proofs.Common.{arith, subst, sym}
use Rattle.keep_guard.specs.Relation.{Rises}
use Rattle.line_guard.proofs.FlagLemmas.{flags-rise, flags-whole}
use Rattle.line_guard.proofs.numbers.Numbers.of_flags.Goals as goal

pub invariant_of-result : goal.invariant_of-result
invariant_of-result c =
    subst Rises (sym (flags-whole c.args.flags.now c.loop-at.at c.loop-at.items.items (omega arith) c.loop-at.invariant)) (flags-rise c.args.flags.now)
