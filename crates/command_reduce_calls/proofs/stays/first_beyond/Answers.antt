use Rattle.command_reduce_calls.proofs.StaysLemmas.{lasts-read}
use Rattle.command_reduce_calls.proofs.stays.first_beyond.Goals as goal

pub loop-span-init : goal.loop-span-init
loop-span-init c = lasts-read c.args.protects.now c.args.lines
