use Rattle.std.proofs.Common.{ap, subst}
use Rattle.std.specs.Str.{IsUtf8}
use Rattle.grammar_tree.specs.Written.{CheckedGrammar}
use Rattle.grammar_tree.specs.Checked.{IsChecked}
use Rattle.reduce_trees_mode.specs.Input.{TreeInput}
use Rattle.reduce_trees_mode.specs.InputOf.{input_of}
use Rattle.reduce_trees.proofs.parts.TreeParts.is_input.Goals as goal

pub returns-clause-is : goal.returns-clause-is
returns-clause-is g c =
    let parts = c.args.self.now in
    let input : TreeInput =
    input_of parts.start.grammar parts.formed parts.tree parts.start.bytes parts.tokens.items.items (g.F.Relation.admits parts.guard) parts.squeezes in
    let checked : IsChecked parts.start.grammar =
    record { well_formed = parts.formed; numbered = ap (λ (grammar : CheckedGrammar). grammar.kinds) parts.together.kinds; small = parts.together.small } in
    (c.parts_join.ensures input).is checked (subst IsUtf8 c.text-text.ensures c.text-text.utf8) c.nodes-nodes.ensures.whole.whole parts.together.joined
