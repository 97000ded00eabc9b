use Rattle.std.proofs.Common.{◌≡◌, length, sym, ◌∙◌, ap, subst}
use Rattle.std.specs.Prelude.{List, ℕ}
use Rattle.normal_form.specs.Form.{NormalForm}
use Rattle.syntax_tree.specs.Nodes.{AreNodesOf, SyntaxTree}
use Rattle.syntax_tree.specs.Preferred.{Preferred}
use Rattle.syntax_tree.specs.Trees.{PlainTree}
use Rattle.chart_parser.proofs.parser.preferred_tree.Goals as goal

pub new-requires-clause-nodes : goal.new-requires-clause-nodes
new-requires-clause-nodes c =
    let (t, preferred, are) = c.in_ok-nodes.ensures.tree in
    let form : c.args.chart.now.normal ≡ c.in_ok-copy.field-0 = c.requires.form ∙ sym c.in_ok-copy.ensures in
    (t, subst (λ (x : NormalForm). AreNodesOf x c.args.start c.in_ok-nodes.nodes.items t) form are)

pub returns : goal.returns
returns c =
    let (t, preferred, are) = c.in_ok-nodes.ensures.tree in
    let form : c.args.chart.now.normal ≡ c.in_ok-copy.field-0 = c.requires.form ∙ sym c.in_ok-copy.ensures in
    let whole-is = c.in_ok-tree.ensures.whole t (subst (λ (x : NormalForm). AreNodesOf x c.args.start c.in_ok-nodes.nodes.items t) form are) in
    let of-form = subst (λ (x : NormalForm). Preferred x c.args.chart.now.kinds c.args.start 0 (length c.args.kinds.now) t) c.requires.form preferred in
    let here = subst (λ (ks : List ℕ). Preferred c.args.normal.now ks c.args.start 0 (length c.args.kinds.now) t) c.requires.kinds of-form in
    record {
      form = ap (λ (x : SyntaxTree). x.form) c.in_ok-tree.ensures.parts ∙ c.in_ok-copy.ensures;
      same_start = ap (λ (x : SyntaxTree). x.start) c.in_ok-tree.ensures.parts;
      preferred = subst (λ (x : PlainTree). Preferred c.args.normal.now c.args.kinds.now c.args.start 0 (length c.args.kinds.now) x) (sym whole-is) here;
    }
