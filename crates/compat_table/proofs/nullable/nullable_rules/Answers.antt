use Rattle.compat_table.proofs.Nulling.{are_nullable}
use Rattle.compat_table.proofs.nullable.nullable_rules.Goals as goal

pub returns : goal.returns
returns c = are_nullable c.args.normal.now c.in_ok-flags.flags.items c.in_ok-flags.ensures.marked c.in_ok-flags.ensures.closed
