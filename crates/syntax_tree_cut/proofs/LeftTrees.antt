-- What marks leave of a tree.
use Rattle.std.proofs.Common.{◌≡◌, ◌⊎◌, inl, inr, ℕ, ◌+◌, ◌<◌, ◌≤◌, List, Option, Some, None, refl, sym, ap, ◌∙◌, subst, arith}
use Rattle.std.proofs.lemmas.Bool.{cases_eq}
use Rattle.std.proofs.lemmas.Option.{none-some, same_Some}
use Rattle.syntax_tree.specs.Trees.{PlainTree, PlainTrees}
use Rattle.syntax_tree.specs.Numbered.{number_of, subtree, subtree_among}
use Rattle.syntax_tree.specs.Left.{IsRemainderOf, AreRemaindersOf, IsRemainderOfSome, leaf_left, node_left}
use Rattle.syntax_tree.specs.Left.{below_left, none_left, kept, left_out, of_first, of_later}
use Rattle.syntax_tree_cut.specs.declared.mark.Mark.{Mark}
use Rattle.syntax_tree_cut.specs.declared.mark.Mark.TheVariants.{Kept, Deleted, Replaced}
use Rattle.syntax_tree_cut.specs.Cuts.{by_mark, left_among, left_at, left_of_each, mark_at, or_next}
use Rattle.syntax_tree_cut.proofs.Rising.{Rises, RiseAll, bounds_rise, cases_option, cases_or, found_among_within, found_within, number_within, or_first}
use Rattle.syntax_tree_cut.proofs.Rising.{or_none, or_second, rise_wider, rises_wider, subtree_among_within, subtree_below, subtree_own, subtree_within}
use Rattle.syntax_tree_cut.proofs.Rising.{when_equal, when_not}

-- What a mark leaves, where it leaves something.
pub cases_mark : (m : Mark) (t : PlainTree) (f : ℕ → Option PlainTree) (v : PlainTree) → by_mark m t f ≡ Some v →
    ((m ≡ Kept) × (t ≡ v)) ⊎ ((by : ℕ) × (m ≡ Replaced by) × (f by ≡ Some v))
cases_mark Kept t f v e = inl (refl, same_Some t v e)
cases_mark Deleted t f v e = absurd (none-some v e)
cases_mark (Replaced by) t f v e = inr (by, refl, e)

module _ (marks : List Mark) where
  pub leaf_own : (b n k i : ℕ) → n ≡ b → left_at marks b (PlainTree.leaf n k i) ≡ by_mark (mark_at marks n) (PlainTree.leaf n k i) (λ by. None)
  leaf_own b n k i e = when_equal n b (by_mark (mark_at marks n) (PlainTree.leaf n k i) (λ by. None)) None e

  pub leaf_other : (b n k i : ℕ) → (n ≡ b → ⊥) → left_at marks b (PlainTree.leaf n k i) ≡ None
  leaf_other b n k i e = when_not n b (by_mark (mark_at marks n) (PlainTree.leaf n k i) (λ by. None)) None e

  pub node_own : (b n r a : ℕ) (ts : PlainTrees) → n ≡ b
      → left_at marks b (PlainTree.node n r a ts) ≡ by_mark (mark_at marks n) (PlainTree.node n r a (left_of_each marks ts)) (λ by. left_among marks by ts)
  node_own b n r a ts e =
      when_equal n b (by_mark (mark_at marks n) (PlainTree.node n r a (left_of_each marks ts)) (λ by. left_among marks by ts)) (left_among marks b ts) e

  pub node_other : (b n r a : ℕ) (ts : PlainTrees) → (n ≡ b → ⊥) → left_at marks b (PlainTree.node n r a ts) ≡ left_among marks b ts
  node_other b n r a ts e =
      when_not n b (by_mark (mark_at marks n) (PlainTree.node n r a (left_of_each marks ts)) (λ by. left_among marks by ts)) (left_among marks b ts) e

  -- where something is left at the position of a node, the node is in the tree
  mutual
    pub left_there : (b : ℕ) (t v : PlainTree) → left_at marks b t ≡ Some v → (u : PlainTree) × (subtree b t ≡ Some u)
    left_there b (PlainTree.leaf n k i) v e =
        elim (cases_eq n b) [
          | inl same ↦ (PlainTree.leaf n k i, subtree_own b (PlainTree.leaf n k i) same)
          | inr other ↦ absurd (none-some v (sym (leaf_other b n k i other) ∙ e))
        ]
    left_there b (PlainTree.node n r a ts) v e =
        elim (cases_eq n b) [
          | inl same ↦ (PlainTree.node n r a ts, subtree_own b (PlainTree.node n r a ts) same)
          | inr other ↦ let deeper = left_among_there b ts v (sym (node_other b n r a ts other) ∙ e) in (deeper.0, subtree_below b n r a ts other ∙ deeper.1)
        ]

    pub left_among_there : (b : ℕ) (ts : PlainTrees) (v : PlainTree) → left_among marks b ts ≡ Some v → (u : PlainTree) × (subtree_among b ts ≡ Some u)
    left_among_there b PlainTrees.none v e = absurd (none-some v e)
    left_among_there b (PlainTrees.next t ts) v e =
        elim (cases_or (left_at marks b t) (left_among marks b ts) v e) [
          | inl first ↦ let one = left_there b t v first in (one.0, or_first (subtree b t) (subtree_among b ts) one.0 one.1)
          | inr both ↦
              let more = left_among_there b ts v both.1 in
              elim (cases_option (subtree b t)) [
                | inl some ↦ (some.0, or_first (subtree b t) (subtree_among b ts) some.0 some.1)
                | inr none ↦ (more.0, or_second (subtree b t) (subtree_among b ts) none ∙ more.1)
              ]
        ]

  pub left_within : (low high : ℕ) (t : PlainTree) → Rises low high t → (b : ℕ) (v : PlainTree) → left_at marks b t ≡ Some v → (low ≤ b) × (b < high)
  left_within low high t h b v e = let there = left_there b t v e in found_within low high t h b there.0 there.1

  pub left_among_within : (low high : ℕ) (ts : PlainTrees) → RiseAll low high ts → (b : ℕ) (v : PlainTree) → left_among marks b ts ≡ Some v → (low ≤ b)
      × (b < high)
  left_among_within low high ts h b v e = let there = left_among_there b ts v e in found_among_within low high ts h b there.0 there.1

  pub none_left_at : (low high : ℕ) (t : PlainTree) → Rises low high t → (b : ℕ) → (b < low) ⊎ (high ≤ b) → left_at marks b t ≡ None
  none_left_at low high t h b out =
      elim (cases_option (left_at marks b t)) [
        | inl some ↦ let is =
            left_within low high t h b some.0 some.1 in absurd (elim out [ inl below ↦ omega (arith, is.0, below) | inr above ↦ omega (arith, is.1, above) ])
        | inr none ↦ none
      ]

  pub none_left_among : (low high : ℕ) (ts : PlainTrees) → RiseAll low high ts → (b : ℕ) → (b < low) ⊎ (high ≤ b) → left_among marks b ts ≡ None
  none_left_among low high ts h b out =
      elim (cases_option (left_among marks b ts)) [
        | inl some ↦ let is =
            left_among_within low high ts h b some.0 some.1 in
            absurd (elim out [ inl below ↦ omega (arith, is.0, below) | inr above ↦ omega (arith, is.1, above) ])
        | inr none ↦ none
      ]

  -- A node that is left has the mark Kept, and is what is left at its own position.
  abbrev pub IsOwn : ℕ → PlainTree → Option PlainTree → Type 0
  IsOwn q u o = (o ≡ Some u) × (mark_at marks q ≡ Kept)

  own_leaf : (n k i q : ℕ) (u : PlainTree) → mark_at marks n ≡ Kept → subtree q (PlainTree.leaf n k i) ≡ Some u
      → IsOwn q u (left_at marks q (PlainTree.leaf n k i))
  own_leaf n k i q u m f =
      elim (cases_eq n q) [
        | inl found ↦ (
          leaf_own q n k i found ∙ ap (λ (x : Mark). by_mark x (PlainTree.leaf n k i) (λ by. None)) m ∙ sym (subtree_own q (PlainTree.leaf n k i) found) ∙ f,
          subst (λ x. mark_at marks x ≡ Kept) found m,
        )
        | inr other ↦ absurd (none-some u (sym (when_not n q (Some (PlainTree.leaf n k i)) None other) ∙ f))
      ]

  up_left : (n r a : ℕ) (ts : PlainTrees) (q : ℕ) (u : PlainTree) → (n ≡ q → ⊥) → IsOwn q u (left_among marks q ts)
      → IsOwn q u (left_at marks q (PlainTree.node n r a ts))
  up_left n r a ts q u other own = (node_other q n r a ts other ∙ own.0, own.1)

  up_from : (low high n r a : ℕ) (ts : PlainTrees) → Rises low high (PlainTree.node n r a ts) → (q : ℕ) (u : PlainTree) → IsOwn q u (left_among marks q ts)
      → IsOwn q u (left_at marks q (PlainTree.node n r a ts))
  up_from low high n r a ts h q u own =
      let is = left_among_within (n + 1) high ts h.1 q u own.0 in
      up_left n r a ts q u (λ (e : n ≡ q). omega (arith, e, is)) own

  first_own : (low high : ℕ) (t : PlainTree) (ts : PlainTrees) → RiseAll low high (PlainTrees.next t ts) → (q : ℕ) (u : PlainTree)
      → IsOwn q u (left_at marks q t) → IsOwn q u (left_among marks q (PlainTrees.next t ts))
  first_own low high t ts h q u own = (or_first (left_at marks q t) (left_among marks q ts) u own.0, own.1)

  later_own : (low high : ℕ) (t : PlainTree) (ts : PlainTrees) → RiseAll low high (PlainTrees.next t ts) → (q : ℕ) (u : PlainTree)
      → IsOwn q u (left_among marks q ts) → IsOwn q u (left_among marks q (PlainTrees.next t ts))
  later_own low high t ts h q u own =
      let is = left_among_within h.0 high ts h.2 q u own.0 in
      (or_second (left_at marks q t) (left_among marks q ts) (none_left_at low h.0 t h.1 q (inr is.0)) ∙ own.0, own.1)

  mutual
    pub own_left : (low high : ℕ) (t : PlainTree) → Rises low high t → (b q : ℕ) (v u : PlainTree) → left_at marks b t ≡ Some v → subtree q v ≡ Some u
        → IsOwn q u (left_at marks q t)
    own_left low high (PlainTree.leaf n k i) h b q v u e f =
        elim (cases_eq n b) [
          | inl same ↦ elim (cases_mark (mark_at marks n) (PlainTree.leaf n k i) (λ by. None) v (sym (leaf_own b n k i same) ∙ e)) [
            | inl here ↦ own_leaf n k i q u here.0 (subst (λ x. subtree q x ≡ Some u) (sym here.1) f)
            | inr by ↦ absurd (none-some v by.2)
          ]
          | inr other ↦ absurd (none-some v (sym (leaf_other b n k i other) ∙ e))
        ]
    own_left low high (PlainTree.node n r a ts) h b q v u e f =
        elim (cases_eq n b) [
          | inl same ↦ elim (cases_mark (mark_at marks n) (PlainTree.node n r a (left_of_each marks ts)) (λ by. left_among marks by ts) v
              (sym (node_own b n r a ts same) ∙ e)) [
                | inl here ↦
                    let g : subtree q (PlainTree.node n r a (left_of_each marks ts)) ≡ Some u = subst (λ x. subtree q x ≡ Some u) (sym here.1) f in
                    elim (cases_eq n q) [
                      | inl found ↦ (
                        node_own q n r a ts found ∙ ap (λ (m : Mark). by_mark m (PlainTree.node n r a (left_of_each marks ts)) (λ by. left_among marks by ts))
                            here.0
                            ∙ sym (subtree_own q (PlainTree.node n r a (left_of_each marks ts)) found) ∙ g,
                        subst (λ x. mark_at marks x ≡ Kept) found here.0,
                      )
                      | inr deeper ↦ up_left n r a ts q u deeper
                          (own_of_each (n + 1) high ts h.1 q u (sym (subtree_below q n r a (left_of_each marks ts) deeper) ∙ g))
                    ]
                | inr by ↦ up_from low high n r a ts h q u (own_among (n + 1) high ts h.1 by.0 q v u by.2 f)
              ]
          | inr other ↦ up_from low high n r a ts h q u (own_among (n + 1) high ts h.1 b q v u (sym (node_other b n r a ts other) ∙ e) f)
        ]

    pub own_among : (low high : ℕ) (ts : PlainTrees) → RiseAll low high ts → (b q : ℕ) (v u : PlainTree) → left_among marks b ts ≡ Some v → subtree q v ≡ Some u
        → IsOwn q u (left_among marks q ts)
    own_among low high PlainTrees.none h b q v u e f = absurd (none-some v e)
    own_among low high (PlainTrees.next t ts) h b q v u e f =
        elim (cases_or (left_at marks b t) (left_among marks b ts) v e) [
          | inl first ↦ first_own low high t ts h q u (own_left low h.0 t h.1 b q v u first f)
          | inr both ↦ later_own low high t ts h q u (own_among h.0 high ts h.2 b q v u both.1 f)
        ]

    pub own_of_each : (low high : ℕ) (ts : PlainTrees) → RiseAll low high ts → (q : ℕ) (u : PlainTree) → subtree_among q (left_of_each marks ts) ≡ Some u
        → IsOwn q u (left_among marks q ts)
    own_of_each low high PlainTrees.none h q u f = absurd (none-some u f)
    own_of_each low high (PlainTrees.next t ts) h q u f =
        elim (cases_option (left_at marks (number_of t) t)) [
          | inl some ↦
              let g : subtree_among q (PlainTrees.next some.0 (left_of_each marks ts)) ≡ Some u =
              subst (λ (o : Option PlainTree). subtree_among q (or_next o (left_of_each marks ts)) ≡ Some u) some.1 f in
              elim (cases_or (subtree q some.0) (subtree_among q (left_of_each marks ts)) u g) [
                | inl first ↦ first_own low high t ts h q u (own_left low h.0 t h.1 (number_of t) q some.0 u some.1 first)
                | inr both ↦ later_own low high t ts h q u (own_of_each h.0 high ts h.2 q u both.1)
              ]
          | inr none ↦
              let g : subtree_among q (left_of_each marks ts) ≡ Some u =
              subst (λ (o : Option PlainTree). subtree_among q (or_next o (left_of_each marks ts)) ≡ Some u) none f in
              later_own low high t ts h q u (own_of_each h.0 high ts h.2 q u g)
        ]

  -- in what is left the numbers rise too
  mutual
    pub left_rises : (low high : ℕ) (t : PlainTree) → Rises low high t → (b : ℕ) (v : PlainTree) → left_at marks b t ≡ Some v → Rises low high v
    left_rises low high (PlainTree.leaf n k i) h b v e =
        elim (cases_eq n b) [
          | inl same ↦ elim (cases_mark (mark_at marks n) (PlainTree.leaf n k i) (λ by. None) v (sym (leaf_own b n k i same) ∙ e)) [
            | inl here ↦ subst (λ x. Rises low high x) here.1 h
            | inr by ↦ absurd (none-some v by.2)
          ]
          | inr other ↦ absurd (none-some v (sym (leaf_other b n k i other) ∙ e))
        ]
    left_rises low high (PlainTree.node n r a ts) h b v e =
        elim (cases_eq n b) [
          | inl same ↦ elim (cases_mark (mark_at marks n) (PlainTree.node n r a (left_of_each marks ts))
              (λ by. left_among marks by ts) v (sym (node_own b n r a ts same) ∙ e)) [
                | inl here ↦ subst (λ x. Rises low high x) here.1 (h.0, each_rises (n + 1) high ts h.1)
                | inr by ↦ rises_wider (n + 1) high low high v (omega (arith, h.0)) (omega arith) (among_rises (n + 1) high ts h.1 by.0 v by.2)
              ]
          | inr other ↦ rises_wider (n + 1) high low high v (omega (arith, h.0)) (omega arith)
              (among_rises (n + 1) high ts h.1 b v (sym (node_other b n r a ts other) ∙ e))
        ]

    pub among_rises : (low high : ℕ) (ts : PlainTrees) → RiseAll low high ts → (b : ℕ) (v : PlainTree) → left_among marks b ts ≡ Some v → Rises low high v
    among_rises low high PlainTrees.none h b v e = absurd (none-some v e)
    among_rises low high (PlainTrees.next t ts) h b v e =
        elim (cases_or (left_at marks b t) (left_among marks b ts) v e) [
          | inl first ↦ rises_wider low h.0 low high v (omega arith) (bounds_rise h.0 high ts h.2) (left_rises low h.0 t h.1 b v first)
          | inr both ↦ let own =
              number_within low h.0 t h.1 in rises_wider h.0 high low high v (omega (arith, own)) (omega arith) (among_rises h.0 high ts h.2 b v both.1)
        ]

    pub each_rises : (low high : ℕ) (ts : PlainTrees) → RiseAll low high ts → RiseAll low high (left_of_each marks ts)
    each_rises low high PlainTrees.none h = h
    each_rises low high (PlainTrees.next t ts) h =
        elim (cases_option (left_at marks (number_of t) t)) [
          | inl some ↦ subst (λ (o : Option PlainTree). RiseAll low high (or_next o (left_of_each marks ts))) (sym some.1)
              (h.0, left_rises low h.0 t h.1 (number_of t) some.0 some.1, each_rises h.0 high ts h.2)
          | inr none ↦
              let own = number_within low h.0 t h.1 in
              subst (λ (o : Option PlainTree). RiseAll low high (or_next o (left_of_each marks ts))) (sym none)
              (rise_wider h.0 high low high (left_of_each marks ts) (omega (arith, own)) (omega arith) (each_rises h.0 high ts h.2))
        ]

  -- what marks leave is what edits can leave
  mutual
    pub part_left : (b : ℕ) (t v : PlainTree) → left_at marks b t ≡ Some v → IsRemainderOf t v
    part_left b (PlainTree.leaf n k i) v e =
        elim (cases_eq n b) [
          | inl same ↦ elim (cases_mark (mark_at marks n) (PlainTree.leaf n k i) (λ by. None) v (sym (leaf_own b n k i same) ∙ e)) [
            | inl here ↦ subst (λ x. IsRemainderOf (PlainTree.leaf n k i) x) here.1 (leaf_left n k i)
            | inr by ↦ absurd (none-some v by.2)
          ]
          | inr other ↦ absurd (none-some v (sym (leaf_other b n k i other) ∙ e))
        ]
    part_left b (PlainTree.node n r a ts) v e =
        elim (cases_eq n b) [
          | inl same ↦ elim (cases_mark (mark_at marks n)
              (PlainTree.node n r a (left_of_each marks ts)) (λ by. left_among marks by ts) v (sym (node_own b n r a ts same) ∙ e)) [
                | inl here ↦ subst (λ x. IsRemainderOf (PlainTree.node n r a ts) x) here.1 (node_left n r a ts (left_of_each marks ts) (part_of_each ts))
                | inr by ↦ below_left n r a ts v (part_among by.0 ts v by.2)
              ]
          | inr other ↦ below_left n r a ts v (part_among b ts v (sym (node_other b n r a ts other) ∙ e))
        ]

    pub part_among : (b : ℕ) (ts : PlainTrees) (v : PlainTree) → left_among marks b ts ≡ Some v → IsRemainderOfSome ts v
    part_among b PlainTrees.none v e = absurd (none-some v e)
    part_among b (PlainTrees.next t ts) v e =
        elim (cases_or (left_at marks b t) (left_among marks b ts) v e) [
          | inl first ↦ of_first t ts v (part_left b t v first)
          | inr both ↦ of_later t ts v (part_among b ts v both.1)
        ]

    pub part_of_each : (ts : PlainTrees) → AreRemaindersOf ts (left_of_each marks ts)
    part_of_each PlainTrees.none = none_left
    part_of_each (PlainTrees.next t ts) =
        elim (cases_option (left_at marks (number_of t) t)) [
          | inl some ↦ subst (λ (o : Option PlainTree). AreRemaindersOf (PlainTrees.next t ts) (or_next o (left_of_each marks ts))) (sym some.1)
              (kept t some.0 ts (left_of_each marks ts) (part_left (number_of t) t some.0 some.1) (part_of_each ts))
          | inr none ↦ subst (λ (o : Option PlainTree). AreRemaindersOf (PlainTrees.next t ts) (or_next o (left_of_each marks ts))) (sym none)
              (left_out t ts (left_of_each marks ts) (part_of_each ts))
        ]

  -- below a node only what is below it counts
  mutual
    pub left_below : (low high : ℕ) (t : PlainTree) → Rises low high t → (p c : ℕ) (x y : PlainTree) → subtree p t ≡ Some x → subtree c x ≡ Some y
        → left_at marks c t ≡ left_at marks c x
    left_below low high (PlainTree.leaf n k i) h p c x y e f =
        elim (cases_eq n p) [
          | inl same ↦
              let is : PlainTree.leaf n k i ≡ x = same_Some (PlainTree.leaf n k i) x (sym (subtree_own p (PlainTree.leaf n k i) same) ∙ e) in
              ap (left_at marks c) is
          | inr other ↦ absurd (none-some x (sym (when_not n p (Some (PlainTree.leaf n k i)) None other) ∙ e))
        ]
    left_below low high (PlainTree.node n r a ts) h p c x y e f =
        elim (cases_eq n p) [
          | inl same ↦
              let is : PlainTree.node n r a ts ≡ x = same_Some (PlainTree.node n r a ts) x (sym (subtree_own p (PlainTree.node n r a ts) same) ∙ e) in
              ap (left_at marks c) is
          | inr other ↦
              let deeper : subtree_among p ts ≡ Some x = sym (subtree_below p n r a ts other) ∙ e in
              let at = subtree_among_within (n + 1) high ts h.1 p x deeper in
              let within = found_within p high x at.1 c y f in
              node_other c n r a ts (λ (g : n ≡ c). omega (arith, g, at.2, within)) ∙ left_among_below (n + 1) high ts h.1 p c x y deeper f
        ]

    pub left_among_below : (low high : ℕ) (ts : PlainTrees) → RiseAll low high ts → (p c : ℕ) (x y : PlainTree) → subtree_among p ts ≡ Some x
        → subtree c x ≡ Some y → left_among marks c ts ≡ left_at marks c x
    left_among_below low high PlainTrees.none h p c x y e f = absurd (none-some x e)
    left_among_below low high (PlainTrees.next t ts) h p c x y e f =
        elim (cases_or (subtree p t) (subtree_among p ts) x e) [
          | inl first ↦
              let at = subtree_within low h.0 t h.1 p x first in
              let within = found_within p h.0 x at.1 c y f in
              or_none (left_at marks c t) (left_among marks c ts) (none_left_among h.0 high ts h.2 c (inl within.1)) ∙ left_below low h.0 t h.1 p c x y first f
          | inr both ↦
              let at = subtree_among_within h.0 high ts h.2 p x both.1 in
              let within = found_within p high x at.1 c y f in
              or_second (left_at marks c t) (left_among marks c ts) (none_left_at low h.0 t h.1 c (inr (omega (arith, at.2, within))))
              ∙ left_among_below h.0 high ts h.2 p c x y both.1 f
        ]

  -- marks that are all Kept leave the whole tree
  module _ (all : (q : ℕ) → mark_at marks q ≡ Kept) where
    mutual
      pub whole_left : (t : PlainTree) → left_at marks (number_of t) t ≡ Some t
      whole_left (PlainTree.leaf n k i) = leaf_own n n k i refl ∙ ap (λ (m : Mark). by_mark m (PlainTree.leaf n k i) (λ by. None)) (all n)
      whole_left (PlainTree.node n r a ts) =
          node_own n n r a ts refl ∙ ap (λ (m : Mark). by_mark m (PlainTree.node n r a (left_of_each marks ts)) (λ by. left_among marks by ts)) (all n)
          ∙ ap (λ (us : PlainTrees). Some (PlainTree.node n r a us)) (whole_of_each ts)

      pub whole_of_each : (ts : PlainTrees) → left_of_each marks ts ≡ ts
      whole_of_each PlainTrees.none = refl
      whole_of_each (PlainTrees.next t ts) =
          ap (λ (o : Option PlainTree). or_next o (left_of_each marks ts)) (whole_left t) ∙ ap (λ (us : PlainTrees). PlainTrees.next t us) (whole_of_each ts)
