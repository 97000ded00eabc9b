-- A child of a node deleted.
use Rattle.std.proofs.Common.{◌≡◌, ◌⊎◌, inl, inr, ℕ, zero, suc, ◌+◌, ◌<◌, ◌≤◌, List, [], ◌∷◌, ◌++◌, Option, Some, None, length}
use Rattle.std.proofs.Common.{slice_get, refl, sym, ap, ◌∙◌, subst, arith, append_assoc, length-append}
use Rattle.std.specs.Prelude.{replicate}
use Rattle.std.specs.List.{Contains}
use Rattle.std.specs.Option.{option_map_or}
use Rattle.std.proofs.lemmas.Bool.{cases_eq}
use Rattle.std.proofs.lemmas.Option.{none-some, same_Some}
use Rattle.normal_form.specs.declared.normal.Sym.{Sym}
use Rattle.normal_form.specs.Form.{RuleForm, NormalForm}
use Rattle.syntax_tree.specs.Trees.{PlainTree, PlainTrees, count, leaves, of_leaves_all, weight, weight_all}
use Rattle.syntax_tree.specs.Numbered.{number_of, roots, subtree, subtree_among, with_subtree, with_subtree_among}
use Rattle.syntax_tree.specs.Valid.{slot_among, slot_at, slots_of, slots_of_form}
use Rattle.syntax_tree.specs.Edits.{LeavesOut, first, later}
use Rattle.syntax_tree_cut.specs.Cuts.{or_next, without}
use Rattle.syntax_tree_cut.proofs.Rising.{Rises, RiseAll, bounds_rise, cases_option, cases_or, found_among_within, found_within, not_found, number_within}
use Rattle.syntax_tree_cut.proofs.Rising.{or_first, or_second, subtree_among_within, subtree_below, subtree_own, subtree_within, when_equal, when_not}
use Rattle.syntax_tree_cut.proofs.EditedTrees.{apart, edited, edited_all, edited_all_outside, edited_outside}

-- a tree without the number stays
mutual
  pub with_outside : (q : ℕ) (w : PlainTree) (low high : ℕ) (t : PlainTree) → Rises low high t → (q < low) ⊎ (high ≤ q) → with_subtree q w t ≡ t
  with_outside q w low high (PlainTree.leaf n k i) h out = when_not n q w (PlainTree.leaf n k i) (apart q low high (PlainTree.leaf n k i) h out)
  with_outside q w low high (PlainTree.node n r a ts) h out =
      when_not n q w (PlainTree.node n r a (with_subtree_among q w ts)) (apart q low high (PlainTree.node n r a ts) h out)
      ∙ ap (λ (us : PlainTrees). PlainTree.node n r a us)
      (with_all_outside q w (n + 1) high ts h.1 (elim out [ inl below ↦ inl (omega (arith, below, h.0)) | inr above ↦ inr above ]))

  pub with_all_outside : (q : ℕ) (w : PlainTree) (low high : ℕ) (ts : PlainTrees) → RiseAll low high ts → (q < low) ⊎ (high ≤ q)
      → with_subtree_among q w ts ≡ ts
  with_all_outside q w low high PlainTrees.none h out = refl
  with_all_outside q w low high (PlainTrees.next t ts) h out =
      let own = number_within low h.0 t h.1 in
      let rest = bounds_rise h.0 high ts h.2 in
      ap (λ (x : PlainTree). PlainTrees.next x (with_subtree_among q w ts))
      (with_outside q w low h.0 t h.1 (elim out [ inl below ↦ inl below | inr above ↦ inr (omega (arith, above, rest)) ]))
      ∙ ap (λ (us : PlainTrees). PlainTrees.next t us)
      (with_all_outside q w h.0 high ts h.2 (elim out [ inl below ↦ inl (omega (arith, below, own)) | inr above ↦ inr above ]))

-- the same node at its own position changes nothing
mutual
  pub with_itself : (low high : ℕ) (t : PlainTree) → Rises low high t → (q : ℕ) (v : PlainTree) → subtree q t ≡ Some v → with_subtree q v t ≡ t
  with_itself low high (PlainTree.leaf n k i) h q v e =
      elim (cases_eq n q) [
        | inl same ↦ when_equal n q v (PlainTree.leaf n k i) same
            ∙ sym (same_Some (PlainTree.leaf n k i) v (sym (subtree_own q (PlainTree.leaf n k i) same) ∙ e))
        | inr other ↦ when_not n q v (PlainTree.leaf n k i) other
      ]
  with_itself low high (PlainTree.node n r a ts) h q v e =
      elim (cases_eq n q) [
        | inl same ↦ when_equal n q v (PlainTree.node n r a (with_subtree_among q v ts)) same
            ∙ sym (same_Some (PlainTree.node n r a ts) v (sym (subtree_own q (PlainTree.node n r a ts) same) ∙ e))
        | inr other ↦
            when_not n q v (PlainTree.node n r a (with_subtree_among q v ts)) other
            ∙ ap (λ (us : PlainTrees). PlainTree.node n r a us) (with_all_itself (n + 1) high ts h.1 q v (sym (subtree_below q n r a ts other) ∙ e))
      ]

  pub with_all_itself : (low high : ℕ) (ts : PlainTrees) → RiseAll low high ts → (q : ℕ) (v : PlainTree) → subtree_among q ts ≡ Some v
      → with_subtree_among q v ts ≡ ts
  with_all_itself low high PlainTrees.none h q v e = refl
  with_all_itself low high (PlainTrees.next t ts) h q v e =
      elim (cases_or (subtree q t) (subtree_among q ts) v e) [
        | inl found ↦
            let within = found_within low h.0 t h.1 q v found in
            ap (λ (x : PlainTree). PlainTrees.next x (with_subtree_among q v ts)) (with_itself low h.0 t h.1 q v found)
            ∙ ap (λ (us : PlainTrees). PlainTrees.next t us) (with_all_outside q v h.0 high ts h.2 (inl within.1))
        | inr both ↦
            let within = found_among_within h.0 high ts h.2 q v both.1 in
            ap (λ (x : PlainTree). PlainTrees.next x (with_subtree_among q v ts)) (with_outside q v low h.0 t h.1 (inr within.0))
            ∙ ap (λ (us : PlainTrees). PlainTrees.next t us) (with_all_itself h.0 high ts h.2 q v both.1)
      ]

-- a child is the first one or a later one
pub cases_child : (t : PlainTree) (ts : PlainTrees) (q : ℕ) → Contains (roots (PlainTrees.next t ts)) q → (number_of t ≡ q) ⊎ Contains (roots ts) q
cases_child t ts q (zero, lt, e) = inl e
cases_child t ts q (suc k, lt, e) = inr (k, omega (arith, lt), e)

pub no_child : (q : ℕ) → Contains (roots PlainTrees.none) q → ⊥
no_child q (k, lt, e) = omega (arith, lt)

pub child_within : (low high : ℕ) (ts : PlainTrees) → RiseAll low high ts → (q : ℕ) → Contains (roots ts) q → (low ≤ q) × (q < high)
child_within low high PlainTrees.none h q has = absurd (no_child q has)
child_within low high (PlainTrees.next t ts) h q has =
    let own = number_within low h.0 t h.1 in
    elim (cases_child t ts q has) [
      | inl same ↦ let rest = bounds_rise h.0 high ts h.2 in (omega (arith, own, same), omega (arith, own, same, rest))
      | inr more ↦ let within = child_within h.0 high ts h.2 q more in (omega (arith, own, within), within.1)
    ]

-- a child is found by its number
pub child_found : (low high : ℕ) (ts : PlainTrees) → RiseAll low high ts → (q : ℕ) → Contains (roots ts) q → (c : PlainTree) × (subtree_among q ts ≡ Some c)
child_found low high PlainTrees.none h q has = absurd (no_child q has)
child_found low high (PlainTrees.next t ts) h q has =
    elim (cases_child t ts q has) [
      | inl same ↦ (t, or_first (subtree q t) (subtree_among q ts) t (subtree_own q t same))
      | inr more ↦
          let it = child_found h.0 high ts h.2 q more in
          let within = child_within h.0 high ts h.2 q more in
          (it.0, or_second (subtree q t) (subtree_among q ts) (not_found low h.0 t h.1 q (inr within.0)) ∙ it.1)
    ]

pub edited_own : (q : ℕ) (o : Option PlainTree) (t : PlainTree) → number_of t ≡ q → edited q o t ≡ o
edited_own q o (PlainTree.leaf n k i) e = when_equal n q o (Some (PlainTree.leaf n k i)) e
edited_own q o (PlainTree.node n r a ts) e = when_equal n q o (Some (PlainTree.node n r a (edited_all q o ts))) e

-- children without one of them
pub children_edited : (low high : ℕ) (ts : PlainTrees) → RiseAll low high ts → (q : ℕ) → Contains (roots ts) q → edited_all q None ts ≡ without q ts
children_edited low high PlainTrees.none h q has = absurd (no_child q has)
children_edited low high (PlainTrees.next t ts) h q has =
    elim (cases_child t ts q has) [
      | inl same ↦
          let own = number_within low h.0 t h.1 in
          ap (λ (x : Option PlainTree). or_next x (edited_all q None ts)) (edited_own q None t same)
          ∙ edited_all_outside q None h.0 high ts h.2 (inl (omega (arith, own, same)))
          ∙ sym (when_equal (number_of t) q ts (PlainTrees.next t (without q ts)) same)
      | inr more ↦
          let within = child_within h.0 high ts h.2 q more in
          let own = number_within low h.0 t h.1 in
          ap (λ (x : Option PlainTree). or_next x (edited_all q None ts)) (edited_outside q None low h.0 t h.1 (inr within.0))
          ∙ ap (λ (us : PlainTrees). PlainTrees.next t us) (children_edited h.0 high ts h.2 q more)
          ∙ sym (when_not (number_of t) q ts (PlainTrees.next t (without q ts)) (λ (e : number_of t ≡ q). omega (arith, e, own, within)))
    ]

leaf_not_node : (n k i p r a : ℕ) (us : PlainTrees) → PlainTree.leaf n k i ≡ PlainTree.node p r a us → ⊥
leaf_not_node n k i p r a us e = cc

own_deleted : (low high p q r a : ℕ) (us : PlainTrees) → Rises low high (PlainTree.node p r a us) → Contains (roots us) q →
    edited q None (PlainTree.node p r a us) ≡ Some (with_subtree p (PlainTree.node p r a (without q us)) (PlainTree.node p r a us))
own_deleted low high p q r a us h has =
    let within = child_within (p + 1) high us h.1 q has in
    when_not p q None (Some (PlainTree.node p r a (edited_all q None us))) (λ (e : p ≡ q). omega (arith, e, within))
    ∙ ap (λ (vs : PlainTrees). Some (PlainTree.node p r a vs)) (children_edited (p + 1) high us h.1 q has)
    ∙ ap (λ (x : PlainTree). Some x)
    (sym (when_equal p p (PlainTree.node p r a (without q us)) (PlainTree.node p r a (with_subtree_among p (PlainTree.node p r a (without q us)) us)) refl))

module _ (p q r a : ℕ) (us : PlainTrees) (has : Contains (roots us) q) where
  mutual
    -- the tree without the child of a node is the tree with the node without the child
    pub child_deleted : (low high : ℕ) (t : PlainTree) → Rises low high t → subtree p t ≡ Some (PlainTree.node p r a us)
        → edited q None t ≡ Some (with_subtree p (PlainTree.node p r a (without q us)) t)
    child_deleted low high (PlainTree.leaf n k i) h e =
        elim (cases_eq n p) [
          | inl same ↦ absurd (leaf_not_node n k i p r a us
              (same_Some (PlainTree.leaf n k i) (PlainTree.node p r a us) (sym (subtree_own p (PlainTree.leaf n k i) same) ∙ e)))
          | inr other ↦ absurd (none-some (PlainTree.node p r a us) (sym (when_not n p (Some (PlainTree.leaf n k i)) None other) ∙ e))
        ]
    child_deleted low high (PlainTree.node n r' a' ts) h e =
        elim (cases_eq n p) [
          | inl same ↦
              let is : PlainTree.node n r' a' ts ≡ PlainTree.node p r a us =
              same_Some (PlainTree.node n r' a' ts) (PlainTree.node p r a us) (sym (subtree_own p (PlainTree.node n r' a' ts) same) ∙ e) in
              subst (λ x. edited q None x ≡ Some (with_subtree p (PlainTree.node p r a (without q us)) x)) (sym is)
              (own_deleted low high p q r a us (subst (λ x. Rises low high x) is h) has)
          | inr other ↦
              let deeper : subtree_among p ts ≡ Some (PlainTree.node p r a us) = sym (subtree_below p n r' a' ts other) ∙ e in
              let at = subtree_among_within (n + 1) high ts h.1 p (PlainTree.node p r a us) deeper in
              let within = child_within (p + 1) high us at.1.1 q has in
              when_not n q None (Some (PlainTree.node n r' a' (edited_all q None ts))) (λ (f : n ≡ q). omega (arith, f, within, at.2))
              ∙ ap (λ (vs : PlainTrees). Some (PlainTree.node n r' a' vs)) (child_deleted_among (n + 1) high ts h.1 deeper)
              ∙ ap (λ (x : PlainTree). Some x)
              (sym (when_not n p (PlainTree.node p r a (without q us))
              (PlainTree.node n r' a' (with_subtree_among p (PlainTree.node p r a (without q us)) ts)) other))
        ]

    pub child_deleted_among : (low high : ℕ) (ts : PlainTrees) → RiseAll low high ts → subtree_among p ts ≡ Some (PlainTree.node p r a us)
        → edited_all q None ts ≡ with_subtree_among p (PlainTree.node p r a (without q us)) ts
    child_deleted_among low high PlainTrees.none h e = absurd (none-some (PlainTree.node p r a us) e)
    child_deleted_among low high (PlainTrees.next t ts) h e =
        elim (cases_or (subtree p t) (subtree_among p ts) (PlainTree.node p r a us) e) [
          | inl found ↦
              let at = subtree_within low h.0 t h.1 p (PlainTree.node p r a us) found in
              let within = child_within (p + 1) h.0 us at.1.1 q has in
              ap (λ (x : Option PlainTree). or_next x (edited_all q None ts)) (child_deleted low h.0 t h.1 found)
              ∙ ap (λ (vs : PlainTrees). PlainTrees.next (with_subtree p (PlainTree.node p r a (without q us)) t) vs)
              (edited_all_outside q None h.0 high ts h.2 (inl within.1)
              ∙ sym (with_all_outside p (PlainTree.node p r a (without q us)) h.0 high ts h.2 (inl (omega (arith, within)))))
          | inr both ↦
              let at = subtree_among_within h.0 high ts h.2 p (PlainTree.node p r a us) both.1 in
              let within = child_within (p + 1) high us at.1.1 q has in
              ap (λ (x : Option PlainTree). or_next x (edited_all q None ts)) (edited_outside q None low h.0 t h.1 (inr (omega (arith, within, at.2))))
              ∙ ap (λ (vs : PlainTrees). PlainTrees.next t vs) (child_deleted_among h.0 high ts h.2 both.1)
              ∙ ap (λ (x : PlainTree). PlainTrees.next x (with_subtree_among p (PlainTree.node p r a (without q us)) ts))
              (sym (with_outside p (PlainTree.node p r a (without q us)) low h.0 t h.1 (inr at.2)))
        ]

-- one of the trees is left out
pub without_leaves_out : (q : ℕ) (ts : PlainTrees) → Contains (roots ts) q → LeavesOut ts (without q ts)
without_leaves_out q PlainTrees.none has = absurd (no_child q has)
without_leaves_out q (PlainTrees.next t ts) has =
    elim (cases_eq (number_of t) q) [
      | inl same ↦ subst (λ us. LeavesOut (PlainTrees.next t ts) us) (sym (when_equal (number_of t) q ts (PlainTrees.next t (without q ts)) same)) (first t ts)
      | inr other ↦
          let more : Contains (roots ts) q = elim (cases_child t ts q has) [ inl same ↦ absurd (other same) | inr more ↦ more ] in
          subst (λ us. LeavesOut (PlainTrees.next t ts) us) (sym (when_not (number_of t) q ts (PlainTrees.next t (without q ts)) other))
          (later t ts (without q ts) (without_leaves_out q ts more))
    ]

pub left_out_count : (ts us : PlainTrees) → LeavesOut ts us → count ts ≡ count us + 1
left_out_count ts us (first t ts') = omega arith
left_out_count ts us (later t ts' us' rest) = let e = left_out_count ts' us' rest in omega (arith, e)

pub some_first : (ts : PlainTrees) → 1 ≤ count ts → (u : PlainTree) × (us : PlainTrees) × (ts ≡ PlainTrees.next u us)
some_first PlainTrees.none h = absurd (omega (arith, h))
some_first (PlainTrees.next t ts) h = (t, ts, refl)

-- their leaves
pub leaves_without : (low high : ℕ) (ts : PlainTrees) → RiseAll low high ts → (q : ℕ) → Contains (roots ts) q → (c : PlainTree) → subtree_among q ts ≡ Some c →
    (front : List ℕ) × (back : List ℕ) × (of_leaves_all (λ k i. i) ts ≡ front ++ (leaves c ++ back)) × (of_leaves_all (λ k i. i) (without q ts) ≡ front ++ back)
leaves_without low high PlainTrees.none h q has c e = absurd (no_child q has)
leaves_without low high (PlainTrees.next t ts) h q has c e =
    elim (cases_eq (number_of t) q) [
      | inl same ↦
          let is : t ≡ c = same_Some t c (sym (or_first (subtree q t) (subtree_among q ts) t (subtree_own q t same)) ∙ e) in (
            [],
            of_leaves_all (λ k i. i) ts,
            ap (λ (x : PlainTree). leaves x ++ of_leaves_all (λ k i. i) ts) is,
            ap (λ (us : PlainTrees). of_leaves_all (λ k i. i) us) (when_equal (number_of t) q ts (PlainTrees.next t (without q ts)) same),
          )
      | inr other ↦
          let more : Contains (roots ts) q = elim (cases_child t ts q has) [ inl same ↦ absurd (other same) | inr more ↦ more ] in
          let within = child_within h.0 high ts h.2 q more in
          let found : subtree_among q ts ≡ Some c = sym (or_second (subtree q t) (subtree_among q ts) (not_found low h.0 t h.1 q (inr within.0))) ∙ e in
          let rest = leaves_without h.0 high ts h.2 q more c found in (
            leaves t ++ rest.0,
            rest.1,
            ap (λ (xs : List ℕ). leaves t ++ xs) rest.2 ∙ sym (append_assoc (leaves t) rest.0 (leaves c ++ rest.1)),
            ap (λ (us : PlainTrees). of_leaves_all (λ k i. i) us) (when_not (number_of t) q ts (PlainTrees.next t (without q ts)) other)
                ∙ ap (λ (xs : List ℕ). leaves t ++ xs) rest.3 ∙ sym (append_assoc (leaves t) rest.0 rest.1),
          )
    ]

length_both : (xs ys : List ℕ) (m n : ℕ) → length xs ≡ m → length ys ≡ n → length (xs ++ ys) ≡ m + n
length_both xs ys m n e f = length-append xs ys ∙ ap (λ (x : ℕ). x + length ys) e ∙ ap (λ (x : ℕ). m + x) f

-- how many leaves there are
mutual
  pub leaves_count : (t : PlainTree) → length (leaves t) ≡ weight t
  leaves_count (PlainTree.leaf n k i) = refl
  leaves_count (PlainTree.node n r a ts) = leaves_count_all ts

  pub leaves_count_all : (ts : PlainTrees) → length (of_leaves_all (λ k i. i) ts) ≡ weight_all ts
  leaves_count_all PlainTrees.none = refl
  leaves_count_all (PlainTrees.next t ts) =
      length_both (leaves t) (of_leaves_all (λ k i. i) ts) (weight t) (weight_all ts) (leaves_count t) (leaves_count_all ts)

module _ (N : NormalForm) where
  -- a node with a slot is in the tree
  mutual
    pub slot_there : (s : Sym) (q : ℕ) (t : PlainTree) (x : Sym) → slot_at N s q t ≡ Some x → (u : PlainTree) × (subtree q t ≡ Some u)
    slot_there s q (PlainTree.leaf n k i) x e =
        elim (cases_eq n q) [
          | inl same ↦ (PlainTree.leaf n k i, subtree_own q (PlainTree.leaf n k i) same)
          | inr other ↦ absurd (none-some x (sym (when_not n q (Some s) None other) ∙ e))
        ]
    slot_there s q (PlainTree.node n r a ts) x e =
        elim (cases_eq n q) [
          | inl same ↦ (PlainTree.node n r a ts, subtree_own q (PlainTree.node n r a ts) same)
          | inr other ↦
              let deeper = slot_among_there (slots_of N r a ts) q ts x (sym (when_not n q (Some s) (slot_among N (slots_of N r a ts) q ts) other) ∙ e) in
              (deeper.0, subtree_below q n r a ts other ∙ deeper.1)
        ]

    pub slot_among_there : (ss : List Sym) (q : ℕ) (ts : PlainTrees) (x : Sym) → slot_among N ss q ts ≡ Some x → (u : PlainTree) × (subtree_among q ts ≡ Some u)
    slot_among_there ss q PlainTrees.none x e = absurd (none-some x e)
    slot_among_there [] q (PlainTrees.next t ts) x e = absurd (none-some x e)
    slot_among_there (s ∷ ss) q (PlainTrees.next t ts) x e =
        elim (cases_or (slot_at N s q t) (slot_among N ss q ts) x e) [
          | inl found ↦ let one = slot_there s q t x found in (one.0, or_first (subtree q t) (subtree_among q ts) one.0 one.1)
          | inr both ↦
              let more = slot_among_there ss q ts x both.1 in
              elim (cases_option (subtree q t)) [
                | inl some ↦ (some.0, or_first (subtree q t) (subtree_among q ts) some.0 some.1)
                | inr none ↦ (more.0, or_second (subtree q t) (subtree_among q ts) none ∙ more.1)
              ]
        ]

  pub no_slot : (s : Sym) (q low high : ℕ) (t : PlainTree) → Rises low high t → (q < low) ⊎ (high ≤ q) → slot_at N s q t ≡ None
  no_slot s q low high t h out =
      elim (cases_option (slot_at N s q t)) [
        | inl some ↦
            let there = slot_there s q t some.0 some.1 in
            let is = found_within low high t h q there.0 there.1 in
            absurd (elim out [ inl below ↦ omega (arith, is.0, below) | inr above ↦ omega (arith, is.1, above) ])
        | inr none ↦ none
      ]

  -- elements that are still in a list have the slots that they had
  pub slots_without : (y : Sym) (low high : ℕ) (ts : PlainTrees) → RiseAll low high ts → (p q : ℕ) (x : Sym)
      → slot_among N (replicate (count (without p ts)) y) q (without p ts) ≡ Some x → slot_among N (replicate (count ts) y) q ts ≡ Some x
  slots_without y low high PlainTrees.none h p q x e = absurd (none-some x e)
  slots_without y low high (PlainTrees.next t ts) h p q x e =
      elim (cases_eq (number_of t) p) [
        | inl same ↦
            let f : slot_among N (replicate (count ts) y) q ts ≡ Some x =
            subst (λ us. slot_among N (replicate (count us) y) q us ≡ Some x) (when_equal (number_of t) p ts (PlainTrees.next t (without p ts)) same) e in
            let there = slot_among_there (replicate (count ts) y) q ts x f in
            let is = found_among_within h.0 high ts h.2 q there.0 there.1 in
            or_second (slot_at N y q t) (slot_among N (replicate (count ts) y) q ts) (no_slot y q low h.0 t h.1 (inr is.0)) ∙ f
        | inr other ↦
            let f : slot_among N (replicate (count (PlainTrees.next t (without p ts))) y) q (PlainTrees.next t (without p ts)) ≡ Some x =
            subst (λ us. slot_among N (replicate (count us) y) q us ≡ Some x) (when_not (number_of t) p ts (PlainTrees.next t (without p ts)) other) e in
            elim (cases_or (slot_at N y q t) (slot_among N (replicate (count (without p ts)) y) q (without p ts)) x f) [
              | inl found ↦ or_first (slot_at N y q t) (slot_among N (replicate (count ts) y) q ts) x found
              | inr both ↦ or_second (slot_at N y q t) (slot_among N (replicate (count ts) y) q ts) both.0 ∙ slots_without y h.0 high ts h.2 p q x both.1
            ]
      ]

  -- the node of a list or optional has for each child the one slot
  pub slots_are : (form : RuleForm) (y : Sym) (r a : ℕ) → slice_get N.rules r ≡ Some form
      → ((children : ℕ) → slots_of_form form a children ≡ replicate children y) → (ts : PlainTrees) → slots_of N r a ts ≡ replicate (count ts) y
  slots_are form y r a rule each ts = ap (λ (o : Option RuleForm). option_map_or (λ f. slots_of_form f a (count ts)) o []) rule ∙ each (count ts)

  pub node_slots : (x y : Sym) (p r a : ℕ) (ts us : PlainTrees) → slots_of N r a ts ≡ replicate (count ts) y → slots_of N r a us ≡ replicate (count us) y →
      ((q : ℕ) (s : Sym) → slot_among N (replicate (count us) y) q us ≡ Some s → slot_among N (replicate (count ts) y) q ts ≡ Some s) →
      (q : ℕ) (s : Sym) → slot_at N x q (PlainTree.node p r a us) ≡ Some s → slot_at N x q (PlainTree.node p r a ts) ≡ Some s
  node_slots x y p r a ts us of_ts of_us keep q s e =
      elim (cases_eq p q) [
        | inl same ↦ when_equal p q (Some x) (slot_among N (slots_of N r a ts) q ts) same
            ∙ sym (when_equal p q (Some x) (slot_among N (slots_of N r a us) q us) same) ∙ e
        | inr other ↦
            let f : slot_among N (replicate (count us) y) q us ≡ Some s =
            ap (λ (ss : List Sym). slot_among N ss q us) (sym of_us) ∙ sym (when_not p q (Some x) (slot_among N (slots_of N r a us) q us) other) ∙ e in
            when_not p q (Some x) (slot_among N (slots_of N r a ts) q ts) other ∙ ap (λ (ss : List Sym). slot_among N ss q ts) of_ts ∙ keep q s f
      ]
