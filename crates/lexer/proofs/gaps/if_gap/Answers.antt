use Rattle.std.proofs.Common.{◌∙◌, sym, ap}
use Rattle.std.specs.Prelude.{◌&&◌}
use Rattle.grammar_tree.specs.Chars.{has}
use Rattle.lexer.proofs.Singles.{has_none}
use Rattle.lexer.proofs.gaps.if_gap.Goals as goal

pub returns : goal.returns
returns c d scalar = c.in_ok-gaps-2.ensures d scalar ∙ has_none d ∙ ap (λ b. b && has c.args.set.now d) (sym c.if-is_gap.false)
