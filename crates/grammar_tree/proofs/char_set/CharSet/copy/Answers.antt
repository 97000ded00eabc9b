use Rattle.std.proofs.Common.{sym, subst, ◌∙◌}
use Rattle.grammar_tree.specs.Chars.{IsCharSet}
use Rattle.grammar_tree.proofs.char_set.CharSet.copy.Goals as goal

pub invariant_of-result : goal.invariant_of-result
invariant_of-result c = subst IsCharSet (sym c.in_ok-class.ensures) c.self.invariant

pub returns : goal.returns
returns c = c.in_ok-class.ensures ∙ c.self.view_is
