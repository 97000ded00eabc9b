use Rattle.std.proofs.Common.{refl}
use Rattle.token_print.proofs.SpelledNext.{slices_part, spelled_range}
use Rattle.token_print.proofs.joins.Joins.are_these.Goals as goal

pub are_same-requires-clause-found : goal.are_same-requires-clause-found
are_same-requires-clause-found c =
    slices_part c.args.self.now.layout.start.now c.args.self.now.layout.tokens.now c.args.stretch.first c.args.stretch.end c.requires.order.slices

pub returns-then-is_range : goal.returns-then-is_range
returns-then-is_range c = (
  λ t. spelled_range c.args.self.now.layout.start.now c.args.self.now.layout.tokens.now c.args.stretch.first c.args.stretch.end c.args.kept.now c.requires.rises
      c.requires.inside c.requires.count (c.is_range.ensures c.if-is_range.true),
  λ e. refl,
)
