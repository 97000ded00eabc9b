use Rattle.std.proofs.Common.{ℕ, ◌↔◌, take}
use Rattle.std.specs.List.{Contains}
use Rattle.chart_parser_prefix.specs.inner.Following.{IsTokenOfOne}
use Rattle.chart_parser_prefix.proofs.following.kinds_of.Given as goal

abbrev pub invariant-loop-symbol : goal.invariant-loop-symbol
invariant-loop-symbol l = (k : ℕ) → Contains l.kinds.items k ↔ IsTokenOfOne l.normal (take l.symbol-index l.symbols) k
