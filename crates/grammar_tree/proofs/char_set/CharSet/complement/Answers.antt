use Rattle.std.proofs.Common.{not, subst}
use Rattle.grammar_tree.specs.Chars.{HasExactlyChars, has}
use Rattle.grammar_tree.proofs.char_set.CharSet.complement.Goals as goal

pub returns : goal.returns
returns c = subst (λ v. HasExactlyChars c.in_ok-outside.outside (λ x. not (has v x))) c.self.view_is c.in_ok-outside.ensures
