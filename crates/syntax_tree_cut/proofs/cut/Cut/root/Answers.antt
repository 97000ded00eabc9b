use Rattle.std.proofs.Common.{◌<◌, List, length, sym, ap, ◌∙◌, subst, arith}
use Rattle.std.proofs.lemmas.Option.{none-some, same_Some}
use Rattle.syntax_tree.specs.Numbered.{number_of}
use Rattle.syntax_tree.specs.Nodes.{whole}
use Rattle.syntax_tree_cut.specs.declared.mark.Mark.{Mark}
use Rattle.syntax_tree_cut.specs.Cuts.{CutForm, IsOccupant, cut_tree}
use Rattle.syntax_tree_cut.specs.inner.Cuts.{ReplacementsRise}
use Rattle.syntax_tree_cut.proofs.CutCalls.{root_is}
use Rattle.syntax_tree_cut.proofs.CutFacts.{some_size}
use Rattle.syntax_tree_cut.proofs.Positions.{replacements_rise}
use Rattle.syntax_tree_cut.proofs.cut.Cut.root.Goals as goal

pub occupant-requires-clause-node : goal.occupant-requires-clause-node
occupant-requires-clause-node c =
    let some = some_size (whole c.args.tree.now) in
    let all = c.requires.for_each in
    subst (λ (l : List Mark). 0 < length l) (sym (c.as_slice.ensures.value ∙ ap (λ (f : CutForm). f.marks) c.self.view_is)) (omega (arith, some, all))

pub occupant-requires-clause-rise : goal.occupant-requires-clause-rise
occupant-requires-clause-rise c =
    subst (λ (l : List Mark). ReplacementsRise l) (sym (c.as_slice.ensures.value ∙ ap (λ (f : CutForm). f.marks) c.self.view_is))
    (replacements_rise c.args.tree.now c.tree_laws.ensures c.nodes-nodes.ensures.whole c.args.self.now c.requires)

pub unreachable-requires : goal.unreachable-requires
unreachable-requires c =
    none-some (number_of (cut_tree c.args.tree.now c.args.self.now))
    (sym c.in-None.is ∙ root_is c.args.tree.now c.tree_laws.ensures c.nodes-nodes.ensures.whole c.args.self.now c.requires c.occupant.result
    (subst (λ (l : List Mark). IsOccupant l 0 c.occupant.result) (c.as_slice.ensures.value ∙ ap (λ (f : CutForm). f.marks) c.self.view_is) c.occupant.ensures))

pub returns : goal.returns
returns c =
    same_Some c.in-Some.root (number_of (cut_tree c.args.tree.now c.args.self.now))
    (sym c.in-Some.is ∙ root_is c.args.tree.now c.tree_laws.ensures c.nodes-nodes.ensures.whole c.args.self.now c.requires c.occupant.result
    (subst (λ (l : List Mark). IsOccupant l 0 c.occupant.result) (c.as_slice.ensures.value ∙ ap (λ (f : CutForm). f.marks) c.self.view_is) c.occupant.ensures))
