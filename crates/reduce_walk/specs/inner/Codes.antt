-- Parsed trees, plain trees, and trials of these have codes, so that a type can be seen as one.
use Rattle.std.specs.Prelude.{◌≡◌, ℕ, List, Option, refl}
use Rattle.std.proofs.Common.{sym, ap, subst, ◌∙◌}
use Rattle.std.specs.Coded.{code_by, coded×, coded_ℕ, coded_list, coded_option}
use base.Stored.{Gv, gnil, gnum, gcons, num, Coded}
use Rattle.normal_form.specs.declared.normal.Sym.{Sym}
use Rattle.normal_form.specs.Form.{NormalForm}
use Rattle.normal_form.specs.inner.Code.{normal_coded, symbol_coded}
use Rattle.syntax_tree.specs.declared.node.Node.{Node}
use Rattle.syntax_tree.specs.Nodes.{SyntaxTree}
use Rattle.syntax_tree.specs.Trees.{PlainTree, PlainTrees}
use Rattle.reduce_rounds.specs.Trials.{Trials, Done, Try}

abbrev mutual
  tree_code : PlainTree → Gv
  tree_code (PlainTree.leaf n k i) = gcons gnil (gcons (gnum n) (gcons (gnum k) (gnum i)))
  tree_code (PlainTree.node n r a ts) = gcons (gcons (gnum n) (gcons (gnum r) (gnum a))) (trees_code ts)

  trees_code : PlainTrees → Gv
  trees_code PlainTrees.none = gnil
  trees_code (PlainTrees.next t ts) = gcons (tree_code t) (trees_code ts)

abbrev first : Gv → Gv
first gnil = gnil
first (gnum n) = gnil
first (gcons a b) = a

abbrev rest : Gv → Gv
rest gnil = gnil
rest (gnum n) = gnil
rest (gcons a b) = b

abbrev pick_tree : Gv → Gv → PlainTrees → PlainTree
pick_tree gnil b ts = PlainTree.leaf (num (first b)) (num (first (rest b))) (num (rest (rest b)))
pick_tree (gnum n) b ts = PlainTree.node n 0 0 ts
pick_tree (gcons x y) b ts = PlainTree.node (num x) (num (first y)) (num (rest y)) ts

abbrev mutual
  tree_back : Gv → PlainTree
  tree_back gnil = PlainTree.node 0 0 0 PlainTrees.none
  tree_back (gnum n) = PlainTree.node 0 0 0 PlainTrees.none
  tree_back (gcons a b) = pick_tree a b (trees_back b)

  trees_back : Gv → PlainTrees
  trees_back gnil = PlainTrees.none
  trees_back (gnum n) = PlainTrees.none
  trees_back (gcons a b) = PlainTrees.next (tree_back a) (trees_back b)

mutual
  tree_same : (t : PlainTree) → tree_back (tree_code t) ≡ t
  tree_same (PlainTree.leaf n k i) = refl
  tree_same (PlainTree.node n r a ts) = ap (PlainTree.node n r a) (trees_same ts)

  trees_same : (ts : PlainTrees) → trees_back (trees_code ts) ≡ ts
  trees_same PlainTrees.none = refl
  trees_same (PlainTrees.next t ts) = ap (λ u. PlainTrees.next u (trees_back (trees_code ts))) (tree_same t) ∙ ap (PlainTrees.next t) (trees_same ts)

pub tree_injective : (t u : PlainTree) → tree_code t ≡ tree_code u → t ≡ u
tree_injective t u e = sym (tree_same t) ∙ ap tree_back e ∙ tree_same u

abbrev pub tree_coded : Coded PlainTree
tree_coded = record { code = tree_code; inj = tree_injective }

abbrev IsPair : Gv → Type 0
IsPair gnil = ⊥
IsPair (gnum n) = ⊥
IsPair (gcons a b) = Unit {0}

module _ {T : Type 0} (c : Coded T) where
  abbrev trials_code : Trials T → Gv
  trials_code Done = gnil
  trials_code (Try state at_yes at_no) = gcons (c.code state) (gcons (trials_code at_yes) (trials_code at_no))

  pub trials_injective : (x y : Trials T) → trials_code x ≡ trials_code y → x ≡ y
  trials_injective Done Done e = refl
  trials_injective Done (Try state at_yes at_no) e = absurd (subst IsPair (sym e) tt)
  trials_injective (Try state at_yes at_no) Done e = absurd (subst IsPair e tt)
  trials_injective (Try state at_yes at_no) (Try state' at_yes' at_no') e =
      ap (λ x. Try x at_yes at_no) (c.inj state state' (ap first e))
      ∙ ap (λ x. Try state' x at_no) (trials_injective at_yes at_yes' (ap (λ g. first (rest g)) e))
      ∙ ap (λ x. Try state' at_yes' x) (trials_injective at_no at_no' (ap (λ g. rest (rest g)) e))

  abbrev pub trials_coded : Coded (Trials T)
  trials_coded = record { code = trials_code; inj = trials_injective }

abbrev node_coded : Coded Node
node_coded =
    code_by (Sym × (Sym × (ℕ × (ℕ × (Option ℕ × (ℕ × ℕ))))))
    (coded× symbol_coded (coded× symbol_coded (coded× coded_ℕ (coded× coded_ℕ (coded× (coded_option coded_ℕ) (coded× coded_ℕ coded_ℕ))))))
    (λ x. (x.sym, (x.slot, (x.alt, (x.children, (x.parent, (x.first, x.end)))))))
    (λ p. record { sym = p.0; slot = p.1.0; alt = p.1.1.0; children = p.1.1.1.0; parent = p.1.1.1.1.0; first = p.1.1.1.1.1.0; end = p.1.1.1.1.1.1 }) (λ _. refl)

abbrev pub syntax_tree_coded : Coded SyntaxTree
syntax_tree_coded =
    code_by (NormalForm × (Sym × List Node)) (coded× normal_coded (coded× symbol_coded (coded_list node_coded)))
    (λ t. (t.form, (t.start, t.nodes))) (λ p. record { form = p.0; start = p.1.0; nodes = p.1.1 }) (λ _. refl)
