-- The tree and the queue after a visit of a node.
use Rattle.std.proofs.Common.{◌≡◌, inl, inr, ℕ, ◌+◌, ◌<◌, List, Option, Some, None, nat_eq, refl, sym, ap, ◌∙◌, arith}
use Rattle.std.specs.List.{AllByRecursion}
use Rattle.std.specs.Option.{option_map}
use Rattle.std.proofs.lemmas.Bool.{cases_Bool, cond-false, cond-true}
use Rattle.std.proofs.lemmas.Option.{same_Some}
use Rattle.normal_form.specs.declared.normal.Sym.{Sym}
use Rattle.normal_form.specs.Form.{NormalForm}
use Rattle.node_queue.specs.Waiting.{Waiting}
use Rattle.syntax_tree.specs.Trees.{PlainTree, PlainTrees, size, size_all}
use Rattle.syntax_tree.specs.Valid.{IsTreeFor, IsValid, slot_at}
use Rattle.syntax_tree.specs.Numbered.{NumbersRise, subtree, subtree_among, with_subtree, with_subtree_among}
use Rattle.syntax_tree.specs.Left.{IsRemainderOf}
use Rattle.syntax_tree.proofs.Lent.{AreWithin, IsWithin, all_outside, found, found_among, lack_with, lacks_with, none_lacks, or_some}
use Rattle.syntax_tree.proofs.Lent.{outside, within_from, part, reflexive, are_left, fit, nodes_left, other_nodes}
use Rattle.reduce_perses.specs.Queued.{AreApart, IsEntryIn, IsInRound, IsQueueOf, nodes_in, with_trees}
use Rattle.reduce_perses.proofs.NodeFacts.{is_some, node_deeper, node_itself, node_rises}
use Rattle.reduce_perses.proofs.Queues.{AreIn, IsApartFrom, IsOpenFor, IsSameAt, all_both, all_map, nodes_more, nodes_same, queue_more, queue_same}

not_some : {A : Type 0} (o : Option A) → ((x : A) → o ≡ Some x → ⊥) → o ≡ None
not_some None never = refl
not_some (Some x) never = absurd (never x refl)

mutual
  -- a node in its own position changes nothing
  same_within : (low high q : ℕ) (t v : PlainTree) → IsWithin low high t → subtree q t ≡ Some v → with_subtree q v t ≡ t
  same_within low high q (PlainTree.leaf n k i) v within e = elim (cases_Bool (nat_eq n q)) [
    | inl is ↦ cond-true (nat_eq n q) v (PlainTree.leaf n k i) is
        ∙ sym (same_Some (PlainTree.leaf n k i) v (sym (cond-true (nat_eq n q) (Some (PlainTree.leaf n k i)) None is) ∙ e))
    | inr is ↦ cond-false (nat_eq n q) v (PlainTree.leaf n k i) is
  ]
  same_within low high q (PlainTree.node n r a ts) v within e = elim (cases_Bool (nat_eq n q)) [
    | inl is ↦
        cond-true (nat_eq n q) v (PlainTree.node n r a (with_subtree_among q v ts)) is
        ∙ sym (same_Some (PlainTree.node n r a ts) v (sym (cond-true (nat_eq n q) (Some (PlainTree.node n r a ts)) (subtree_among q ts) is) ∙ e))
    | inr is ↦
        cond-false (nat_eq n q) v (PlainTree.node n r a (with_subtree_among q v ts)) is
        ∙ ap (λ us. PlainTree.node n r a us) (same_among (n + 1) high q ts v within.1
        (sym (cond-false (nat_eq n q) (Some (PlainTree.node n r a ts)) (subtree_among q ts) is) ∙ e))
  ]

  same_among : (low high q : ℕ) (ts : PlainTrees) (v : PlainTree) → AreWithin low high ts → subtree_among q ts ≡ Some v → with_subtree_among q v ts ≡ ts
  same_among low high q PlainTrees.none v within e = refl
  same_among low high q (PlainTrees.next t ts) v within e = elim (or_some (subtree q t) (subtree_among q ts) v e) [
    | inl first ↦
        ap (λ u. PlainTrees.next u (with_subtree_among q v ts)) (same_within low within.0 q t v within.1 first)
        ∙ ap (λ us. PlainTrees.next t us) (lack_with q v ts (all_outside within.0 high q ts within.2 (inl (found low within.0 q t v within.1 first).below)))
    | inr later ↦
        ap (λ u. PlainTrees.next u (with_subtree_among q v ts))
        (lacks_with q v t (outside low within.0 q t within.1 (inr (found_among within.0 high q ts v within.2 later.1).above)))
        ∙ ap (λ us. PlainTrees.next t us) (same_among within.0 high q ts v within.2 later.1)
  ]

pub same_with : (q : ℕ) (t v : PlainTree) → NumbersRise t → subtree q t ≡ Some v → with_subtree q v t ≡ t
same_with q t v rise e = let within = within_from t rise in same_within 0 within.0 q t v within.1 e

-- Nothing in the node that the entry is of is in the tree v.
abbrev pub IsApartFromNode : PlainTree → PlainTree → Waiting → Type 0
IsApartFromNode t v entry = (u : PlainTree) → subtree entry.node t ≡ Some u → AreApart v u

-- A tree in a round, in which the node q, the tree v in the slot x, has just been taken out of the queue.
pub record IsVisited (N : NormalForm) (s : Sym) (t : PlainTree) (q : ℕ) (x : Sym) (v : PlainTree) (later : List Waiting) : Type 0 where
  pub tree : IsTreeFor N s t
  pub rise : NumbersRise t
  pub node_is : subtree q t ≡ Some v
  pub slot_is : slot_at N s q t ≡ Some x
  pub valid : IsValid N x v
  pub queue_is : IsQueueOf t later
  pub apart : AllByRecursion (IsApartFromNode t v) later

-- A round goes on from this tree and queue, with fewer nodes that wait than there were before the visit.
pub record GoesTo (N : NormalForm) (s : Sym) (t v : PlainTree) (later : List Waiting) (u : PlainTree) (queue : List Waiting) : Type 0 where
  pub round : IsInRound N s u queue
  pub left : IsRemainderOf t u
  pub fewer : nodes_in u queue < size v + nodes_in t later

module _ (N : NormalForm) (s : Sym) (t : PlainTree) (q : ℕ) (x : Sym) (v : PlainTree) (later : List Waiting) (is : IsVisited N s t q x v later) where
  pub v_rises : NumbersRise v
  v_rises = node_rises q t v is.rise is.node_is

  module _ (w : PlainTree) (left : IsRemainderOf v w) where
    same_at : (entry : Waiting) → IsApartFromNode t v entry → IsEntryIn t entry → IsSameAt t (with_subtree q w t) entry
    same_at entry apart e =
        let itself = node_itself entry.node t e.node is.rise e.node_is in
        let not_in_v : subtree entry.node v ≡ None = not_some (subtree entry.node v) (λ y at. apart e.node e.node_is entry.node y e.node at itself) in
        let not_in_u : subtree q e.node ≡ None = not_some (subtree q e.node) (λ y at. apart e.node e.node_is q v y (node_itself q t v is.rise is.node_is) at) in
        let other = other_nodes N s x q t v w is.tree.valid is.rise is.node_is is.slot_is left in
        other.node_out entry.node not_in_v ∙ ap (option_map (with_subtree q w)) e.node_is
        ∙ ap (λ y. Some y) (lacks_with q w e.node (none_lacks q e.node not_in_u)) ∙ sym e.node_is

    all_same : AllByRecursion (IsSameAt t (with_subtree q w t)) later
    all_same = all_both (IsApartFromNode t v) (IsEntryIn t) (IsSameAt t (with_subtree q w t)) later same_at is.apart is.queue_is.entries

    was_in_v : (p : ℕ) (y : PlainTree) → subtree p w ≡ Some y → (z : PlainTree) × (subtree p v ≡ Some z)
    was_in_v p y e = let it = nodes_left v w y p v_rises left e in (it.0, it.1)

    pub in_changed : (p : ℕ) (y : PlainTree) → subtree p w ≡ Some y → subtree p (with_subtree q w t) ≡ Some y
    in_changed p y e =
        let was = was_in_v p y e in
        let other = other_nodes N s x q t v w is.tree.valid is.rise is.node_is is.slot_is left in
        other.node_in p (is_some (subtree p v) was.0 was.1) ∙ e

    apart_changed : (us : PlainTrees) → AreIn w us → (entry : Waiting) → IsApartFromNode t v entry → IsSameAt t (with_subtree q w t) entry
        → IsApartFrom (with_subtree q w t) us entry
    apart_changed us inside entry apart same u e p y z ey ez =
        let was = was_in_v p z (inside p z ez) in
        apart u (sym same ∙ e) p was.0 y was.1 ey

    -- w takes the node's position, and of the trees us in it those wait that can
    pub goes_changed : (us : PlainTrees) (low high : ℕ) → IsValid N x w → AreWithin low high us → AreIn w us → size_all us < size v
        → GoesTo N s t v later (with_subtree q w t) (with_trees us later)
    goes_changed us low high valid within inside small =
        let left_all = are_left t q v w is.rise is.node_is left in
        let part_all = part t (with_subtree q w t) left_all in
        let in_all = λ (p : ℕ) (y : PlainTree) (e : subtree_among p us ≡ Some y). in_changed p y (inside p y e) in
        let open_for : IsOpenFor (with_subtree q w t) us later = record {
          queue_is = queue_same t (with_subtree q w t) later all_same is.queue_is;
          apart =
              all_both (IsApartFromNode t v) (IsSameAt t (with_subtree q w t)) (IsApartFrom (with_subtree q w t) us) later
              (apart_changed us inside) is.apart all_same;
        } in
        let more = nodes_more (with_subtree q w t) low high us later within in_all in
        let same = nodes_same t (with_subtree q w t) later all_same in
        record {
          round = record {
            tree = record { valid = fit N s x q t v w is.tree.valid is.rise is.node_is is.slot_is valid; rising = part_all.leaves_rise is.tree.rising };
            rise = part_all.numbers_rise is.rise;
            queue_is = queue_more (with_subtree q w t) low high us later within in_all open_for;
          };
          left = left_all;
          fewer = omega (arith, more, same, small);
        }

  -- the tree stays, and of the trees us in the node those wait that can
  pub goes_on : (us : PlainTrees) (low high : ℕ) → AreWithin low high us → AreIn v us → size_all us < size v → GoesTo N s t v later t (with_trees us later)
  goes_on us low high within inside small =
      let in_all = λ (p : ℕ) (y : PlainTree) (e : subtree_among p us ≡ Some y). node_deeper q p t v y is.rise is.node_is (inside p y e) in
      let open_for : IsOpenFor t us later = record {
        queue_is = is.queue_is;
        apart = all_map (IsApartFromNode t v) (IsApartFrom t us) later (λ entry apart u e p y z ey ez. apart u e p z y (inside p z ez) ey) is.apart;
      } in
      let more = nodes_more t low high us later within in_all in
      record {
        round = record { tree = is.tree; rise = is.rise; queue_is = queue_more t low high us later within in_all open_for };
        left = reflexive t;
        fewer = omega (arith, more, small);
      }
