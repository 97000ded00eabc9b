use Rattle.std.proofs.Common.{◌∙◌}
use Rattle.token_print.proofs.Offsets as offsets
use Rattle.token_print.proofs.layout.Layout.spelling.Goals as goal

pub spelling-requires : goal.spelling-requires
spelling-requires c = offsets.slice c.args.self.now.start.now c.args.self.now.tokens.now c.requires.order.slices c.args.index _ c.requires.index

pub returns : goal.returns
returns c = c.spelling.ensures ∙ offsets.spelled c.args.self.now.start.now c.args.self.now.tokens.now c.args.index _ c.requires.index
