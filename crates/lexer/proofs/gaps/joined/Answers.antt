use Rattle.std.proofs.Common.{ap, ◌∙◌}
use Rattle.std.specs.Prelude.{◌||◌}
use Rattle.grammar_tree.specs.Chars.{has}
use Rattle.lexer.proofs.gaps.joined.Goals as goal

pub returns-clause-gaps : goal.returns-clause-gaps
returns-clause-gaps c d scalar = c.in_ok-gaps.ensures d scalar ∙ ap (λ b. has c.args.lesser.now.gaps d || b) (c.in_ok-without.ensures d scalar)
