use Rattle.token_print.proofs.Offsets as offsets
use Rattle.token_print.proofs.layout.Layout.gap_start.Goals as goal

pub returns-else-index-eq0 : goal.returns-else-index-eq0
returns-else-index-eq0 c = offsets.gap_after c.args.self.now.start.now c.args.self.now.tokens.now c.args.index _ c.if-index-eq0.false c.requires
