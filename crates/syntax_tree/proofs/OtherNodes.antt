-- The nodes of a tree after another tree has taken the position of one of them.
use Rattle.std.proofs.Common.{◌≡◌, inl, inr, ℕ, suc, ◌+◌, ◌≤◌, false, List, [], Option, Some, None, IsSome, nat_eq, slice_get, refl, sym, ap, ◌∙◌, arith}
use Rattle.std.specs.Option.{option_map, option_map_or, option_or}
use Rattle.std.proofs.lemmas.Bool.{cases_Bool, cond-false, cond-true, false≢true, ne_eqb}
use Rattle.normal_form.specs.declared.normal.Sym.{Sym}
use Rattle.normal_form.specs.Form.{NormalForm}
use Rattle.syntax_tree.specs.Trees.{PlainTree, PlainTrees, count}
use Rattle.syntax_tree.specs.Valid.{slot_at, slot_among, slots_of, slots_of_form}
use Rattle.syntax_tree.specs.Numbered.{number_of, subtree, subtree_among, with_subtree}
use Rattle.syntax_tree.specs.EditLaws.{OtherNodesStay}
use Rattle.syntax_tree.proofs.Within.{AllLack, AreWithin, IsWithin, Lacks, all_outside, bounds, bounds_all, found, found_among, lack_slot}
use Rattle.syntax_tree.proofs.Within.{lack_subtree, lacks_slot, lacks_subtree, lacks_with, none_lacks, or_none, outside, within_from}
use Rattle.syntax_tree.proofs.KeptLeaves.{left_lacks}
use Rattle.syntax_tree.proofs.InSlots.{IsExchangedIn, AreExchangedIn, at_child, at_first, are_at_number, at_later, at_number, at_root, exchanged}

or_map : {A B : Type 0} (f : A → B) (o p : Option A) → option_map f (option_or o p) ≡ option_or (option_map f o) (option_map f p)
or_map f None p = refl
or_map f (Some x) p = refl

mutual
  -- nothing in a tree that lacks the number changes
  lacks_inside : (q p : ℕ) (w t : PlainTree) → Lacks q t → subtree p t ≡ option_map (with_subtree q w) (subtree p t)
  lacks_inside q p w (PlainTree.leaf n k i) e = elim (cases_Bool (nat_eq n p)) [
    | inl is ↦
        cond-true (nat_eq n p) (Some (PlainTree.leaf n k i)) None is ∙ ap (λ u. Some u) (sym (lacks_with q w (PlainTree.leaf n k i) e))
        ∙ ap (option_map (with_subtree q w)) (sym (cond-true (nat_eq n p) (Some (PlainTree.leaf n k i)) None is))
    | inr is ↦ cond-false (nat_eq n p) (Some (PlainTree.leaf n k i)) None is
        ∙ ap (option_map (with_subtree q w)) (sym (cond-false (nat_eq n p) (Some (PlainTree.leaf n k i)) None is))
  ]
  lacks_inside q p w (PlainTree.node n r a ts) e = elim (cases_Bool (nat_eq n p)) [
    | inl is ↦
        cond-true (nat_eq n p) (Some (PlainTree.node n r a ts)) (subtree_among p ts) is ∙ ap (λ u. Some u) (sym (lacks_with q w (PlainTree.node n r a ts) e))
        ∙ ap (option_map (with_subtree q w)) (sym (cond-true (nat_eq n p) (Some (PlainTree.node n r a ts)) (subtree_among p ts) is))
    | inr is ↦
        cond-false (nat_eq n p) (Some (PlainTree.node n r a ts)) (subtree_among p ts) is ∙ lack_inside q p w ts e.1
        ∙ ap (option_map (with_subtree q w)) (sym (cond-false (nat_eq n p) (Some (PlainTree.node n r a ts)) (subtree_among p ts) is))
  ]

  lack_inside : (q p : ℕ) (w : PlainTree) (ts : PlainTrees) → AllLack q ts → subtree_among p ts ≡ option_map (with_subtree q w) (subtree_among p ts)
  lack_inside q p w PlainTrees.none e = refl
  lack_inside q p w (PlainTrees.next t ts) e =
      ap (λ o. option_or o (subtree_among p ts)) (lacks_inside q p w t e.0)
      ∙ ap (λ o. option_or (option_map (with_subtree q w) (subtree p t)) o) (lack_inside q p w ts e.1)
      ∙ sym (or_map (with_subtree q w) (subtree p t) (subtree_among p ts))

module _ (N : NormalForm) (x : Sym) (v w : PlainTree) where
  same_count : (ss : List Sym) (ts us : PlainTrees) → AreExchangedIn N x v w ss ts us → count us ≡ count ts
  same_count ss ts us (at_first s ss' t u ts' d) = refl
  same_count ss ts us (at_later s ss' t ts' us' d) = ap suc (same_count ss' ts' us' d)

  same_slots : (ss : List Sym) (r a : ℕ) (ts us : PlainTrees) → AreExchangedIn N x v w ss ts us → slots_of N r a us ≡ slots_of N r a ts
  same_slots ss r a ts us d = ap (λ (n : ℕ). option_map_or (λ form. slots_of_form form a n) (slice_get N.rules r) []) (same_count ss ts us d)

  -- Where v is.
  pub record IsInside (low high : ℕ) : Type 0 where
    pub from : ℕ
    pub end : ℕ
    pub within : IsWithin from end v
    pub low_from : low ≤ from
    pub end_high : end ≤ high

  mutual
    is_inside : (low high : ℕ) (s : Sym) (t u : PlainTree) → IsWithin low high t → IsExchangedIn N x v w s t u → IsInside low high
    is_inside low high s t u within at_root = record { from = low; end = high; within = within; low_from = omega arith; end_high = omega arith }
    is_inside low high s t u within (at_child s' n r a ts us d) =
        let it = are_inside (n + 1) high (slots_of N r a ts) ts us within.1 d in
        record { from = it.from; end = it.end; within = it.within; low_from = omega (arith, it.low_from, within.0); end_high = it.end_high }

    are_inside : (low high : ℕ) (ss : List Sym) (ts us : PlainTrees) → AreWithin low high ts → AreExchangedIn N x v w ss ts us → IsInside low high
    are_inside low high ss ts us within (at_first s ss' t u ts' d) =
        let it = is_inside low within.0 s t u within.1 d in
        record {
          from = it.from;
          end = it.end;
          within = it.within;
          low_from = it.low_from;
          end_high = omega (arith, it.end_high, bounds_all within.0 high ts' within.2);
        }
    are_inside low high ss ts us within (at_later s ss' t ts' us' d) =
        let it = are_inside within.0 high ss' ts' us' within.2 d in
        record {
          from = it.from;
          end = it.end;
          within = it.within;
          low_from = omega (arith, it.low_from, bounds low within.0 t within.1);
          end_high = it.end_high;
        }

  module _ (p : ℕ) (y : PlainTree) (has : subtree p v ≡ Some y) where
    -- a node of v is a node of w or of none
    mutual
      pub in_w : (low high : ℕ) (s : Sym) (t u : PlainTree) → IsWithin low high t → IsExchangedIn N x v w s t u → (subtree p u ≡ subtree p w)
          × (slot_at N s p u ≡ slot_at N x p w)
      in_w low high s t u within at_root = (refl, refl)
      in_w low high s t u within (at_child s' n r a ts us d) =
          let it = in_w_among (n + 1) high (slots_of N r a ts) ts us within.1 d in
          let at = are_inside (n + 1) high (slots_of N r a ts) ts us within.1 d in
          let other : nat_eq n p ≡ false = ne_eqb n p (omega (arith, at.low_from, (found at.from at.end p v y at.within has).above)) in (
            cond-false (nat_eq n p) (Some (PlainTree.node n r a us)) (subtree_among p us) other ∙ it.0,
            cond-false (nat_eq n p) (Some s) (slot_among N (slots_of N r a us) p us) other
                ∙ ap (λ ss. slot_among N ss p us) (same_slots (slots_of N r a ts) r a ts us d) ∙ it.1,
          )

      in_w_among : (low high : ℕ) (ss : List Sym) (ts us : PlainTrees) → AreWithin low high ts → AreExchangedIn N x v w ss ts us
          → (subtree_among p us ≡ subtree p w) × (slot_among N ss p us ≡ slot_at N x p w)
      in_w_among low high ss ts us within (at_first s ss' t u ts' d) =
          let it = in_w low within.0 s t u within.1 d in
          let at = is_inside low within.0 s t u within.1 d in
          let lack = all_outside within.0 high p ts' within.2 (inl (omega (arith, at.end_high, (found at.from at.end p v y at.within has).below))) in (
            ap (λ o. option_or (subtree p u) o) (lack_subtree p ts' lack) ∙ or_none (subtree p u)
                ∙ it.0,
            ap (λ o. option_or (slot_at N s p u) o) (lack_slot N ss' p ts' lack) ∙ or_none (slot_at N s p u) ∙ it.1,
          )
      in_w_among low high ss ts us within (at_later s ss' t ts' us' d) =
          let it = in_w_among within.0 high ss' ts' us' within.2 d in
          let at = are_inside within.0 high ss' ts' us' within.2 d in
          let lack = outside low within.0 p t within.1 (inr (omega (arith, at.low_from, (found at.from at.end p v y at.within has).above))) in (
            ap (λ o. option_or o (subtree_among p us')) (lacks_subtree p t lack) ∙ it.0,
            ap (λ o. option_or o (slot_among N ss' p us')) (lacks_slot N s p t lack)
                ∙ it.1,
          )

  module _ (p : ℕ) (none : Lacks p v) (none_new : Lacks p w) where
    -- a node outside v stays
    mutual
      pub out_of_v : (low high : ℕ) (s : Sym) (t u : PlainTree) → IsWithin low high t → IsExchangedIn N x v w s t u →
          (subtree p u ≡ option_map (with_subtree (number_of v) w) (subtree p t)) × (slot_at N s p u ≡ slot_at N s p t)
      out_of_v low high s t u within at_root = (
        lacks_subtree p w none_new ∙ ap (option_map (with_subtree (number_of v) w)) (sym (lacks_subtree p v none)),
        lacks_slot N x p w none_new
            ∙ sym (lacks_slot N x p v none),
      )
      out_of_v low high s t u within (at_child s' n r a ts us d) = elim (cases_Bool (nat_eq n p)) [
        | inl is ↦
            let at = at_number N x v w low high s (PlainTree.node n r a ts) (PlainTree.node n r a us) within (at_child s n r a ts us d) in (
              cond-true (nat_eq n p) (Some (PlainTree.node n r a us)) (subtree_among p us) is ∙ ap (λ (z : PlainTree). Some z) at.tree
                  ∙ ap (option_map (with_subtree (number_of v) w)) (sym (cond-true (nat_eq n p) (Some (PlainTree.node n r a ts)) (subtree_among p ts) is)),
              cond-true (nat_eq n p) (Some s) (slot_among N (slots_of N r a us) p us) is
                  ∙ sym (cond-true (nat_eq n p) (Some s) (slot_among N (slots_of N r a ts) p ts) is),
            )
        | inr is ↦
            let it = out_among (n + 1) high (slots_of N r a ts) ts us within.1 d in (
              cond-false (nat_eq n p) (Some (PlainTree.node n r a us)) (subtree_among p us) is ∙ it.0
                  ∙ ap (option_map (with_subtree (number_of v) w)) (sym (cond-false (nat_eq n p) (Some (PlainTree.node n r a ts)) (subtree_among p ts) is)),
              cond-false (nat_eq n p) (Some s) (slot_among N (slots_of N r a us) p us) is
                  ∙ ap (λ ss. slot_among N ss p us) (same_slots (slots_of N r a ts) r a ts us d) ∙ it.1
                  ∙ sym (cond-false (nat_eq n p) (Some s) (slot_among N (slots_of N r a ts) p ts) is),
            )
      ]

      out_among : (low high : ℕ) (ss : List Sym) (ts us : PlainTrees) → AreWithin low high ts → AreExchangedIn N x v w ss ts us →
          (subtree_among p us ≡ option_map (with_subtree (number_of v) w) (subtree_among p ts)) × (slot_among N ss p us ≡ slot_among N ss p ts)
      out_among low high ss ts us within (at_first s ss' t u ts' d) =
          let it = out_of_v low within.0 s t u within.1 d in
          let at = at_number N x v w low within.0 s t u within.1 d in
          let lack = all_outside within.0 high (number_of v) ts' within.2 (inl (found low within.0 (number_of v) t v within.1 at.node).below) in (
            ap (λ o. option_or o (subtree_among p ts')) it.0
                ∙ ap (λ o. option_or (option_map (with_subtree (number_of v) w) (subtree p t)) o) (lack_inside (number_of v) p w ts' lack)
                ∙ sym (or_map (with_subtree (number_of v) w) (subtree p t) (subtree_among p ts')),
            ap (λ o. option_or o (slot_among N ss' p ts')) it.1,
          )
      out_among low high ss ts us within (at_later s ss' t ts' us' d) =
          let it = out_among within.0 high ss' ts' us' within.2 d in
          let at = are_at_number N x v w within.0 high ss' ts' us' within.2 d in
          let lack = outside low within.0 (number_of v) t within.1 (inr (found_among within.0 high (number_of v) ts' v within.2 at.node).above) in (
            ap (λ o. option_or (subtree p t) o) it.0
                ∙ ap (λ o. option_or o (option_map (with_subtree (number_of v) w) (subtree_among p ts'))) (lacks_inside (number_of v) p w t lack)
                ∙ sym (or_map (with_subtree (number_of v) w) (subtree p t) (subtree_among p ts')),
            ap (λ o. option_or (slot_at N s p t) o) it.1,
          )

some_of : {A : Type 0} (o : Option A) → IsSome o → (x : A) × (o ≡ Some x)
some_of None e = absurd (false≢true e)
some_of (Some x) e = (x, refl)

pub other_nodes : OtherNodesStay
other_nodes N s x q t v w valid rise e f left =
    let within = within_from t rise in
    let d = exchanged N x v w 0 within.0 q s t within.1 e f in
    let number : number_of v ≡ q = (found 0 within.0 q t v within.1 e).number in
    record {
      node_in = λ p has. (let y = some_of (subtree p v) has in (in_w N x v w p y.0 y.1 0 within.0 s t (with_subtree q w t) within.1 d).0);
      node_out = λ p none.
          (let lack = none_lacks p v none in
          (out_of_v N x v w p lack (left_lacks p v w left lack) 0 within.0 s t (with_subtree q w t) within.1 d).0
          ∙ ap (λ (n : ℕ). option_map (with_subtree n w) (subtree p t)) number);
      slot_in = λ p has. (let y = some_of (subtree p v) has in (in_w N x v w p y.0 y.1 0 within.0 s t (with_subtree q w t) within.1 d).1);
      slot_out =
          λ p none. (let lack = none_lacks p v none in (out_of_v N x v w p lack (left_lacks p v w left lack) 0 within.0 s t (with_subtree q w t) within.1 d).1);
    }
