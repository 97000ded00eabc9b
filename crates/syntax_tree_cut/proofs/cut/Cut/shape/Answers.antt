use Rattle.std.proofs.Common.{sym, ap, ◌∙◌, subst}
use Rattle.std.specs.Prelude.{IsSome}
use Rattle.std.specs.Option.{option_and_then, option_map}
use Rattle.std.proofs.lemmas.Option.{same_Some}
use Rattle.normal_form.specs.declared.normal.Sym.{Sym}
use Rattle.normal_form.specs.Form.{NormalForm}
use Rattle.syntax_tree.specs.Trees.{symbol_of}
use Rattle.syntax_tree_cut.specs.Shapes.{shape_of, shape_of_symbol}
use Rattle.syntax_tree_cut.proofs.CutFacts.{facts_of}
use Rattle.syntax_tree_cut.proofs.Questions.{left_shape}
use Rattle.syntax_tree_cut.proofs.cut.Cut.shape.Goals as goal

pub symbol_shape-requires : goal.symbol_shape-requires
symbol_shape-requires c =
    let it = facts_of c.args.tree.now c.tree_laws.ensures c.nodes-nodes.ensures.whole c.args.self.now c.requires.of c.args.node c.requires.left in
    let same = same_Some (symbol_of it.0) c.symbol.result (sym (ap (option_map symbol_of) it.1) ∙ c.symbol.ensures) in
    subst (λ (N : NormalForm). IsSome (shape_of_symbol N c.symbol.result)) (sym c.normal.ensures)
    (subst (λ (s : Sym). IsSome (shape_of_symbol c.args.tree.now.form s)) same
    (left_shape c.args.tree.now c.tree_laws.ensures c.nodes-nodes.ensures.whole c.args.self.now c.requires.of c.args.node it.0 it.1))

pub returns : goal.returns
returns c =
    let it = facts_of c.args.tree.now c.tree_laws.ensures c.nodes-nodes.ensures.whole c.args.self.now c.requires.of c.args.node c.requires.left in
    let same = same_Some (symbol_of it.0) c.symbol.result (sym (ap (option_map symbol_of) it.1) ∙ c.symbol.ensures) in
    ap (option_and_then (shape_of c.args.tree.now.form)) it.1
    ∙ ap (λ (s : Sym). shape_of_symbol c.args.tree.now.form s) same
    ∙ ap (λ (N : NormalForm). shape_of_symbol N c.symbol.result) (sym c.normal.ensures)
    ∙ c.symbol_shape.ensures
