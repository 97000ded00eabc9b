use Rattle.std.proofs.Common.{List, sym, subst, arith}
use Rattle.syntax_tree.specs.declared.node.Node.{Node}
use Rattle.syntax_tree.specs.Nodes.{AreNodesOf, whole_of}
use Rattle.syntax_tree.specs.inner.Nodes.{AreAfters}
use Rattle.syntax_tree.proofs.Decoding.{decoded_whole, nodes_of_decoded}
use Rattle.syntax_tree.proofs.tree.Tree.new.Goals as goal

pub afters-requires : goal.afters-requires
afters-requires c =
    let P : List Node → Type 0 = λ l. AreNodesOf c.args.normal c.args.start l (whole_of l) in
    record {
      nodes = (
        c.args.normal,
        c.args.start,
        subst P (sym c.as_slice.ensures.value)
            (nodes_of_decoded c.args.normal c.args.start c.args.nodes.items c.requires.nodes.0 c.requires.nodes.1),
      );
      few = omega (arith, c.as_slice.ensures.len, c.requires.few);
    }

pub returns-clause-whole : goal.returns-clause-whole
returns-clause-whole c t is = decoded_whole c.args.normal c.args.start c.args.nodes.items t is

pub invariant_of-result : goal.invariant_of-result
invariant_of-result c =
    let P : List Node → Type 0 = λ l. AreAfters c.in_ok-after.after.items (whole_of l) in (
      nodes_of_decoded c.args.normal c.args.start c.args.nodes.items c.requires.nodes.0 c.requires.nodes.1,
      c.requires.few,
      subst P c.as_slice.ensures.value c.in_ok-after.ensures,
    )
