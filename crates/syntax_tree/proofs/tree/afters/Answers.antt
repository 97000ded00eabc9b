use Rattle.std.proofs.Common.{◌≡◌, ◌+◌, ◌-◌, ◌<◌, ℕ, List, length, get_or, sym, ◌∙◌, subst, arith, length-set}
use Rattle.std.proofs.lemmas.Option.{slice_get-get_or}
use Rattle.syntax_tree.specs.Trees.{PlainTrees}
use Rattle.syntax_tree.specs.Nodes.{whole_of}
use Rattle.syntax_tree.specs.inner.Nodes.{HaveAfters}
use Rattle.syntax_tree.proofs.Afters.{AreAftersFrom, children_at, more_afters, no_node, no_past}
use Rattle.syntax_tree.proofs.tree.afters.Goals as goal

pub loop-number-init : goal.loop-number-init
loop-number-init c =
    record {
      long = omega (arith, c.in_ok-after.ensures.len, c.in_ok-after.after.ok);
      are = no_past c.requires.nodes.0 c.requires.nodes.1 c.args.nodes.now c.requires.nodes.2 c.in_ok-after.after.items;
    }

pub after_children-requires : goal.after_children-requires
after_children-requires c =
    let nodes = c.args.nodes.now in
    let k = c.loop-number.number - 1 in
    let e : c.loop-number.number ≡ k + 1 = omega arith in
    let within : k < length nodes = omega arith in
    let P : ℕ → Type 0 = λ n. AreAftersFrom c.loop-number.after.items n (whole_of nodes) in
    let it =
    children_at c.requires.nodes.0 c.requires.nodes.1 nodes c.requires.nodes.2 c.loop-number.after.items k (get_or nodes k no_node)
    (slice_get-get_or nodes k no_node within) (subst P e c.loop-number.invariant.are) in
    let Q : List ℕ → Type 0 = λ l. HaveAfters l (k + 1) it.0 in
    (it.0, it.1, subst Q (sym c.as_slice.ensures.value) it.2)

pub loop-number-preserved : goal.loop-number-preserved
loop-number-preserved c =
    let nodes = c.args.nodes.now in
    let after = c.loop-number.after.items in
    let k = c.loop-number.number - 1 in
    let e : c.loop-number.number ≡ k + 1 = omega arith in
    let within : k < length nodes = omega arith in
    let long : length after ≡ length nodes = c.loop-number.invariant.long in
    let P : ℕ → Type 0 = λ n. AreAftersFrom after n (whole_of nodes) in
    let Q : (ts : PlainTrees) → List ℕ → Type 0 = λ ts l. HaveAfters l (k + 1) ts in
    record {
      long = length-set after k c.after_children.result ∙ long;
      are =
          more_afters c.requires.nodes.0 c.requires.nodes.1 nodes c.requires.nodes.2 after k c.after_children.result (get_or nodes k no_node)
          (slice_get-get_or nodes k no_node within) (omega (arith, within, long))
          (λ ts n have. c.after_children.ensures ts n (subst (Q ts) (sym c.as_slice.ensures.value) have)) (subst P e c.loop-number.invariant.are);
    }
