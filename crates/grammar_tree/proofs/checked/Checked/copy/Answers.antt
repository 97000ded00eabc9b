use Rattle.std.proofs.Common.{map, sym, ap, ◌∙◌, subst}
use Rattle.grammar_tree.specs.Checked.{IsChecked}
use Rattle.grammar_tree.specs.GrammarView.{kind_of}
use Rattle.grammar_tree.proofs.EqualParts.{same_checked}
use Rattle.grammar_tree.proofs.checked.Checked.copy.Goals as goal

pub invariant_of-result : goal.invariant_of-result
invariant_of-result c =
    let same = same_checked c.self.inside.start c.in_ok-grammar.ensures (c.in_ok-kinds.ensures ∙ ap (map kind_of) c.deref.ensures.value) in
    subst IsChecked (sym same) c.self.invariant

pub returns : goal.returns
returns c =
    same_checked c.self.inside.start c.in_ok-grammar.ensures (c.in_ok-kinds.ensures ∙ ap (map kind_of) c.deref.ensures.value)
    ∙ c.self.view_is
