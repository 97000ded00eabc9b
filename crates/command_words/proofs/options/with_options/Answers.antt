use Rattle.std.proofs.Common.{arith}
use Rattle.command_words.proofs.Added.{added_so_far}
use Rattle.command_words.proofs.options.with_options.Goals as goal

pub loop-row-preserved : goal.loop-row-preserved
loop-row-preserved c =
    added_so_far _ _ _ _ c.args.rows.now c.loop-row.row-index _ (omega arith) c.argument.ensures.rule c.loop-row.invariant
    (c.in_ok-command.ensures.shape c.argument.ensures.local)
