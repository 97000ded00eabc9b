-- Trees with another tree in the position of one of their nodes, with the slots.
use Rattle.std.proofs.Common.{◌≡◌, inl, inr, ℕ, zero, suc, ◌+◌, false, List, [], ◌∷◌, Option, Some, None, nat_eq, refl, sym, ap, ◌∙◌, subst, arith}
use Rattle.std.specs.Prelude.{replicate, slice_get}
use Rattle.std.specs.Option.{option_map_or, option_or}
use Rattle.std.proofs.lemmas.Bool.{cases_Bool, cases_lt, cond-false, cond-true, eq-eqb, ne_eqb}
use Rattle.std.proofs.lemmas.Option.{same_Some, none-some}
use Rattle.normal_form.specs.declared.normal.Sym.{Sym}
use Rattle.normal_form.specs.Form.{RuleForm, NormalForm}
use Rattle.syntax_tree.specs.Trees.{PlainTree, PlainTrees, count}
use Rattle.syntax_tree.specs.Valid.{IsValid, AreValid, EachIsValid, of_regular, of_absent, of_present, of_star, of_plus, of_no_slots}
use Rattle.syntax_tree.specs.Valid.{of_slot, of_none, of_next, slot_at, slot_among, slots_of, slots_of_form}
use Rattle.syntax_tree.specs.Numbered.{number_of, subtree, subtree_among, with_subtree, with_subtree_among}
use Rattle.syntax_tree.specs.EditLaws.{NodesHaveSlots, SubtreesFit}
use Rattle.syntax_tree.proofs.Decoding.{children_valid, no_slots, slot_valid, slots_are}
use Rattle.syntax_tree.proofs.Exchanged.{IsExchanged, AreExchanged}
use Rattle.syntax_tree.proofs.Exchanged as exchange
use Rattle.syntax_tree.proofs.Within.{AreWithin, IsWithin, all_outside, found, found_among, lack_slot, lack_subtree, lack_with, lacks_slot}
use Rattle.syntax_tree.proofs.Within.{lacks_subtree, lacks_with, none_lacks, or_none, or_some, outside, within_from}

mutual
  -- The second tree is the first one, which is in the slot s, with w at the position of v, which is in the slot x.
  pub data IsExchangedIn (N : NormalForm) (x : Sym) (v w : PlainTree) : Sym → PlainTree → PlainTree → Type 0 where
    at_root : IsExchangedIn N x v w x v w
    at_child : (s : Sym) (n r a : ℕ) (ts us : PlainTrees) → AreExchangedIn N x v w (slots_of N r a ts) ts us
        → IsExchangedIn N x v w s (PlainTree.node n r a ts) (PlainTree.node n r a us)

  pub data AreExchangedIn (N : NormalForm) (x : Sym) (v w : PlainTree) : List Sym → PlainTrees → PlainTrees → Type 0 where
    at_first : (s : Sym) (ss : List Sym) (t u : PlainTree) (ts : PlainTrees) → IsExchangedIn N x v w s t u
        → AreExchangedIn N x v w (s ∷ ss) (PlainTrees.next t ts) (PlainTrees.next u ts)
    at_later : (s : Sym) (ss : List Sym) (t : PlainTree) (ts us : PlainTrees) → AreExchangedIn N x v w ss ts us
        → AreExchangedIn N x v w (s ∷ ss) (PlainTrees.next t ts) (PlainTrees.next t us)

-- a tree is found by its own number, in its own slot
pub root_found : (t : PlainTree) → subtree (number_of t) t ≡ Some t
root_found (PlainTree.leaf n k i) = cond-true (nat_eq n n) (Some (PlainTree.leaf n k i)) None (eq-eqb n n refl)
root_found (PlainTree.node n r a ts) = cond-true (nat_eq n n) (Some (PlainTree.node n r a ts)) (subtree_among n ts) (eq-eqb n n refl)

pub root_slot : (N : NormalForm) (s : Sym) (t : PlainTree) → slot_at N s (number_of t) t ≡ Some s
root_slot N s (PlainTree.leaf n k i) = cond-true (nat_eq n n) (Some s) None (eq-eqb n n refl)
root_slot N s (PlainTree.node n r a ts) = cond-true (nat_eq n n) (Some s) (slot_among N (slots_of N r a ts) n ts) (eq-eqb n n refl)

pub root_with : (w t : PlainTree) → with_subtree (number_of t) w t ≡ w
root_with w (PlainTree.leaf n k i) = cond-true (nat_eq n n) w (PlainTree.leaf n k i) (eq-eqb n n refl)
root_with w (PlainTree.node n r a ts) = cond-true (nat_eq n n) w (PlainTree.node n r a (with_subtree_among n w ts)) (eq-eqb n n refl)

module _ (N : NormalForm) where
  -- as many trees that are valid for the slots can be the children of the node
  same_slots : (r a : ℕ) (ts : PlainTrees) (us : PlainTrees) (form : RuleForm) → slice_get N.rules r ≡ Some form → AreValid N (slots_of N r a ts) us
      → AreValid N (slots_of_form form a (count ts)) us
  same_slots r a ts us form rule valid = let P : List Sym → Type 0 = λ l. AreValid N l us in subst P (slots_are N r a ts form rule) valid

  each_none : (x : Sym) (us : PlainTrees) → AreValid N [] us → EachIsValid N x us
  each_none x us of_no_slots = of_none x

  next_valid : (x : Sym) (ss : List Sym) (us : PlainTrees) → AreValid N (x ∷ ss) us → (u : PlainTree) × (vs : PlainTrees) × (us ≡ PlainTrees.next u vs)
      × IsValid N x u × AreValid N ss vs
  next_valid x ss us (of_slot s ss' u us' one rest) = (u, us', refl, one, rest)

  each_of : (x : Sym) (n : ℕ) (us : PlainTrees) → AreValid N (replicate n x) us → EachIsValid N x us
  each_of x zero us valid = each_none x us valid
  each_of x (suc n) us valid =
      let it = next_valid x (replicate n x) us valid in
      let P : PlainTrees → Type 0 = λ l. EachIsValid N x l in
      subst P (sym it.2) (of_next x it.0 it.1 it.3 (each_of x n it.1 it.4))

  one_valid : (x : Sym) (us : PlainTrees) → AreValid N (x ∷ []) us → (u : PlainTree) × (us ≡ PlainTrees.next u PlainTrees.none) × IsValid N x u
  one_valid x us (of_slot s ss u us' one rest) = (u, ap (λ l. PlainTrees.next u l) (none_valid us' rest), one)
    where
      none_valid : (us : PlainTrees) → AreValid N [] us → us ≡ PlainTrees.none
      none_valid us of_no_slots = refl

  pub valid_with : (s : Sym) (n r a : ℕ) (ts us : PlainTrees) → IsValid N s (PlainTree.node n r a ts) → AreValid N (slots_of N r a ts) us
      → IsValid N s (PlainTree.node n r a us)
  valid_with s n r a ts us (of_regular s' n' r' a' ts' alts alt fits rule at old) valid =
      let P : List Sym → Type 0 = λ l. AreValid N l us in
      of_regular s n r a us alts alt fits rule at
      (subst P (ap (λ (o : Option (List Sym)). option_map_or (λ alt. alt) o []) at) (same_slots r a ts us (RuleForm.regular alts) rule valid))
  valid_with s n r a ts us (of_absent s' n' r' x fits rule) valid = none_node us (same_slots r 0 PlainTrees.none us (RuleForm.opt x) rule valid)
    where
      none_node : (us : PlainTrees) → AreValid N [] us → IsValid N s (PlainTree.node n r 0 us)
      none_node us of_no_slots = of_absent s n r x fits rule
  valid_with s n r a ts us (of_present s' n' r' t x fits rule old) valid =
      let it = one_valid x us (same_slots r 0 (PlainTrees.next t PlainTrees.none) us (RuleForm.opt x) rule valid) in
      let P : PlainTrees → Type 0 = λ l. IsValid N s (PlainTree.node n r 0 l) in
      subst P (sym it.1) (of_present s n r it.0 x fits rule it.2)
  valid_with s n r a ts us (of_star s' n' r' ts' x fits rule each) valid =
      of_star s n r us x fits rule (each_of x (count ts) us (same_slots r 0 ts us (RuleForm.star x) rule valid))
  valid_with s n r a ts us (of_plus s' n' r' t ts' x fits rule each) valid =
      plus_node us (same_slots r 0 (PlainTrees.next t ts') us (RuleForm.plus x) rule valid)
    where
      plus_node : (us : PlainTrees) → AreValid N (x ∷ replicate (count ts') x) us → IsValid N s (PlainTree.node n r 0 us)
      plus_node us (of_slot s'' ss u us' one rest) = of_plus s n r u us' x fits rule (of_next x u us' one (each_of x (count ts') us' rest))

  -- where no node has the number, none has a slot by it
  no_slot : (s : Sym) (q : ℕ) (t : PlainTree) → subtree q t ≡ None → slot_at N s q t ≡ None
  no_slot s q t e = lacks_slot N s q t (none_lacks q t e)

  mutual
    -- each node of a valid tree has a slot, which it is valid for
    pub has_slot : (s : Sym) (q : ℕ) (t v : PlainTree) → IsValid N s t → subtree q t ≡ Some v → (x : Sym) × (slot_at N s q t ≡ Some x) × IsValid N x v
    has_slot s q (PlainTree.leaf n k i) v valid e = elim (cases_Bool (nat_eq n q)) [
      | inl is ↦
          let same : PlainTree.leaf n k i ≡ v = same_Some (PlainTree.leaf n k i) v (sym (cond-true (nat_eq n q) (Some (PlainTree.leaf n k i)) None is) ∙ e) in
          let P : PlainTree → Type 0 = λ y. IsValid N s y in
          (s, cond-true (nat_eq n q) (Some s) None is, subst P same valid)
      | inr is ↦ absurd (none-some v (sym (cond-false (nat_eq n q) (Some (PlainTree.leaf n k i)) None is) ∙ e))
    ]
    has_slot s q (PlainTree.node n r a ts) v valid e = elim (cases_Bool (nat_eq n q)) [
      | inl is ↦
          let same : PlainTree.node n r a ts ≡ v =
          same_Some (PlainTree.node n r a ts) v (sym (cond-true (nat_eq n q) (Some (PlainTree.node n r a ts)) (subtree_among q ts) is) ∙ e) in
          let P : PlainTree → Type 0 = λ y. IsValid N s y in
          (s, cond-true (nat_eq n q) (Some s) (slot_among N (slots_of N r a ts) q ts) is, subst P same valid)
      | inr is ↦
          let it =
          have_slot (slots_of N r a ts) q ts v (children_valid N s n r a ts valid)
          (sym (cond-false (nat_eq n q) (Some (PlainTree.node n r a ts)) (subtree_among q ts) is) ∙ e) in
          (it.0, cond-false (nat_eq n q) (Some s) (slot_among N (slots_of N r a ts) q ts) is ∙ it.1, it.2)
    ]

    have_slot : (ss : List Sym) (q : ℕ) (ts : PlainTrees) (v : PlainTree) → AreValid N ss ts → subtree_among q ts ≡ Some v → (x : Sym)
        × (slot_among N ss q ts ≡ Some x) × IsValid N x v
    have_slot ss q PlainTrees.none v valid e = absurd (none-some v e)
    have_slot [] q (PlainTrees.next t ts) v valid e = absurd (no_slots N t ts valid)
    have_slot (s ∷ ss) q (PlainTrees.next t ts) v valid e =
        let both = slot_valid N s ss t ts valid in
        elim (or_some (subtree q t) (subtree_among q ts) v e) [
          | inl first ↦ let it = has_slot s q t v both.0 first in (it.0, ap (λ o. option_or o (slot_among N ss q ts)) it.1, it.2)
          | inr later ↦
              let it = have_slot ss q ts v both.1 later.1 in
              (it.0, ap (λ o. option_or o (slot_among N ss q ts)) (no_slot s q t later.0) ∙ it.1, it.2)
        ]

pub have_slots : NodesHaveSlots
have_slots N s q t v valid rise e = has_slot N s q t v valid e

module _ (N : NormalForm) (x : Sym) (v w : PlainTree) where
  root_by : (s : Sym) (t u : PlainTree) → s ≡ x → t ≡ v → u ≡ w → IsExchangedIn N x v w s t u
  root_by s t u d e f =
      let P : Sym → Type 0 = λ y. IsExchangedIn N x v w y t u in
      let Q : PlainTree → Type 0 = λ y. IsExchangedIn N x v w x y u in
      let R : PlainTree → Type 0 = λ y. IsExchangedIn N x v w x v y in
      subst P (sym d) (subst Q (sym e) (subst R (sym f) at_root))

  exchanged_by : (s : Sym) (t u y : PlainTree) → u ≡ y → IsExchangedIn N x v w s t y → IsExchangedIn N x v w s t u
  exchanged_by s t u y e d = let P : PlainTree → Type 0 = λ z. IsExchangedIn N x v w s t z in subst P (sym e) d

  all_exchanged_by : (ss : List Sym) (ts us ys : PlainTrees) → us ≡ ys → AreExchangedIn N x v w ss ts ys → AreExchangedIn N x v w ss ts us
  all_exchanged_by ss ts us ys e d = let P : PlainTrees → Type 0 = λ z. AreExchangedIn N x v w ss ts z in subst P (sym e) d

  mutual
    pub exchanged : (low high q : ℕ) (s : Sym) (t : PlainTree) → IsWithin low high t → subtree q t ≡ Some v → slot_at N s q t ≡ Some x
        → IsExchangedIn N x v w s t (with_subtree q w t)
    exchanged low high q s (PlainTree.leaf n k i) within e f = elim (cases_Bool (nat_eq n q)) [
      | inl is ↦
          root_by s (PlainTree.leaf n k i) (with_subtree q w (PlainTree.leaf n k i)) (same_Some s x (sym (cond-true (nat_eq n q) (Some s) None is) ∙ f))
          (same_Some (PlainTree.leaf n k i) v (sym (cond-true (nat_eq n q) (Some (PlainTree.leaf n k i)) None is) ∙ e))
          (cond-true (nat_eq n q) w (PlainTree.leaf n k i) is)
      | inr is ↦ absurd (none-some v (sym (cond-false (nat_eq n q) (Some (PlainTree.leaf n k i)) None is) ∙ e))
    ]
    exchanged low high q s (PlainTree.node n r a ts) within e f = elim (cases_Bool (nat_eq n q)) [
      | inl is ↦
          root_by s (PlainTree.node n r a ts) (with_subtree q w (PlainTree.node n r a ts))
          (same_Some s x (sym (cond-true (nat_eq n q) (Some s) (slot_among N (slots_of N r a ts) q ts) is) ∙ f))
          (same_Some (PlainTree.node n r a ts) v (sym (cond-true (nat_eq n q) (Some (PlainTree.node n r a ts)) (subtree_among q ts) is) ∙ e))
          (cond-true (nat_eq n q) w (PlainTree.node n r a (with_subtree_among q w ts)) is)
      | inr is ↦
          exchanged_by s (PlainTree.node n r a ts) (with_subtree q w (PlainTree.node n r a ts)) (PlainTree.node n r a (with_subtree_among q w ts))
          (cond-false (nat_eq n q) w (PlainTree.node n r a (with_subtree_among q w ts)) is)
          (at_child s n r a ts (with_subtree_among q w ts)
          (exchanged_among (n + 1) high q (slots_of N r a ts) ts within.1
          (sym (cond-false (nat_eq n q) (Some (PlainTree.node n r a ts)) (subtree_among q ts) is) ∙ e)
          (sym (cond-false (nat_eq n q) (Some s) (slot_among N (slots_of N r a ts) q ts) is) ∙ f)))
    ]

    exchanged_among : (low high q : ℕ) (ss : List Sym) (ts : PlainTrees) → AreWithin low high ts → subtree_among q ts ≡ Some v → slot_among N ss q ts ≡ Some x
        → AreExchangedIn N x v w ss ts (with_subtree_among q w ts)
    exchanged_among low high q ss PlainTrees.none within e f = absurd (none-some v e)
    exchanged_among low high q [] (PlainTrees.next t ts) within e f = absurd (none-some x f)
    exchanged_among low high q (s ∷ ss) (PlainTrees.next t ts) within e f = elim (cases_lt q within.0) [
      | inl before ↦
          let lack = all_outside within.0 high q ts within.2 (inl before) in
          let first : subtree q t ≡ Some v = sym (or_none (subtree q t)) ∙ sym (ap (λ o. option_or (subtree q t) o) (lack_subtree q ts lack)) ∙ e in
          let slot : slot_at N s q t ≡ Some x =
          sym (or_none (slot_at N s q t)) ∙ sym (ap (λ o. option_or (slot_at N s q t) o) (lack_slot N ss q ts lack)) ∙ f in
          all_exchanged_by (s ∷ ss) (PlainTrees.next t ts) (with_subtree_among q w (PlainTrees.next t ts)) (PlainTrees.next (with_subtree q w t) ts)
          (ap (λ us. PlainTrees.next (with_subtree q w t) us) (lack_with q w ts lack))
          (at_first s ss t (with_subtree q w t) ts (exchanged low within.0 q s t within.1 first slot))
      | inr after ↦
          let lack = outside low within.0 q t within.1 (inr after) in
          let later : subtree_among q ts ≡ Some v = sym (ap (λ o. option_or o (subtree_among q ts)) (lacks_subtree q t lack)) ∙ e in
          let slot : slot_among N ss q ts ≡ Some x = sym (ap (λ o. option_or o (slot_among N ss q ts)) (lacks_slot N s q t lack)) ∙ f in
          all_exchanged_by (s ∷ ss) (PlainTrees.next t ts) (with_subtree_among q w (PlainTrees.next t ts)) (PlainTrees.next t (with_subtree_among q w ts))
          (ap (λ u. PlainTrees.next u (with_subtree_among q w ts)) (lacks_with q w t lack))
          (at_later s ss t ts (with_subtree_among q w ts) (exchanged_among within.0 high q ss ts within.2 later slot))
    ]

  -- Where the exchange is, by the number of v.
  pub record IsAtNumber (s : Sym) (t u : PlainTree) : Type 0 where
    pub node : subtree (number_of v) t ≡ Some v
    pub slot : slot_at N s (number_of v) t ≡ Some x
    pub tree : u ≡ with_subtree (number_of v) w t

  pub record AreAtNumber (ss : List Sym) (ts us : PlainTrees) : Type 0 where
    pub node : subtree_among (number_of v) ts ≡ Some v
    pub slot : slot_among N ss (number_of v) ts ≡ Some x
    pub tree : us ≡ with_subtree_among (number_of v) w ts

  mutual
    pub at_number : (low high : ℕ) (s : Sym) (t u : PlainTree) → IsWithin low high t → IsExchangedIn N x v w s t u → IsAtNumber s t u
    at_number low high s t u within at_root = record { node = root_found v; slot = root_slot N x v; tree = sym (root_with w v) }
    at_number low high s t u within (at_child s' n r a ts us d) =
        let it = are_at_number (n + 1) high (slots_of N r a ts) ts us within.1 d in
        let above = (found_among (n + 1) high (number_of v) ts v within.1 it.node).above in
        let other : nat_eq n (number_of v) ≡ false = ne_eqb n (number_of v) (omega (arith, above)) in
        record {
          node = cond-false (nat_eq n (number_of v)) (Some (PlainTree.node n r a ts)) (subtree_among (number_of v) ts) other ∙ it.node;
          slot = cond-false (nat_eq n (number_of v)) (Some s) (slot_among N (slots_of N r a ts) (number_of v) ts) other ∙ it.slot;
          tree =
              ap (λ l. PlainTree.node n r a l) it.tree
              ∙ sym (cond-false (nat_eq n (number_of v)) w (PlainTree.node n r a (with_subtree_among (number_of v) w ts)) other);
        }

    pub are_at_number : (low high : ℕ) (ss : List Sym) (ts us : PlainTrees) → AreWithin low high ts → AreExchangedIn N x v w ss ts us → AreAtNumber ss ts us
    are_at_number low high ss ts us within (at_first s ss' t u ts' d) =
        let it = at_number low within.0 s t u within.1 d in
        let lack = all_outside within.0 high (number_of v) ts' within.2 (inl (found low within.0 (number_of v) t v within.1 it.node).below) in
        record {
          node = ap (λ o. option_or o (subtree_among (number_of v) ts')) it.node;
          slot = ap (λ o. option_or o (slot_among N ss' (number_of v) ts')) it.slot;
          tree =
              ap (λ y. PlainTrees.next y ts') it.tree ∙ ap (λ l. PlainTrees.next (with_subtree (number_of v) w t) l) (sym (lack_with (number_of v) w ts' lack));
        }
    are_at_number low high ss ts us within (at_later s ss' t ts' us' d) =
        let it = are_at_number within.0 high ss' ts' us' within.2 d in
        let lack = outside low within.0 (number_of v) t within.1 (inr (found_among within.0 high (number_of v) ts' v within.2 it.node).above) in
        record {
          node = ap (λ o. option_or o (subtree_among (number_of v) ts')) (lacks_subtree (number_of v) t lack) ∙ it.node;
          slot = ap (λ o. option_or o (slot_among N ss' (number_of v) ts')) (lacks_slot N s (number_of v) t lack) ∙ it.slot;
          tree =
              ap (λ y. PlainTrees.next y us') (sym (lacks_with (number_of v) w t lack)) ∙ ap (λ l. PlainTrees.next (with_subtree (number_of v) w t) l) it.tree;
        }

  mutual
    pub was_valid : (s : Sym) (t u : PlainTree) → IsExchangedIn N x v w s t u → IsValid N s t → IsValid N x v
    was_valid s t u at_root valid = valid
    was_valid s t u (at_child s' n r a ts us d) valid = were_valid (slots_of N r a ts) ts us d (children_valid N s n r a ts valid)

    were_valid : (ss : List Sym) (ts us : PlainTrees) → AreExchangedIn N x v w ss ts us → AreValid N ss ts → IsValid N x v
    were_valid ss ts us (at_first s ss' t u ts' d) valid = was_valid s t u d (slot_valid N s ss' t ts' valid).0
    were_valid ss ts us (at_later s ss' t ts' us' d) valid = were_valid ss' ts' us' d (slot_valid N s ss' t ts' valid).1

  mutual
    pub without_slots : (s : Sym) (t u : PlainTree) → IsExchangedIn N x v w s t u → IsExchanged v w t u
    without_slots s t u at_root = exchange.at_root
    without_slots s t u (at_child s' n r a ts us d) = exchange.at_child n r a ts us (all_without_slots (slots_of N r a ts) ts us d)

    all_without_slots : (ss : List Sym) (ts us : PlainTrees) → AreExchangedIn N x v w ss ts us → AreExchanged v w ts us
    all_without_slots ss ts us (at_first s ss' t u ts' d) = exchange.at_first t u ts' (without_slots s t u d)
    all_without_slots ss ts us (at_later s ss' t ts' us' d) = exchange.at_later t ts' us' (all_without_slots ss' ts' us' d)

  module _ (fits : IsValid N x w) where
    mutual
      pub stays_valid : (s : Sym) (t u : PlainTree) → IsExchangedIn N x v w s t u → IsValid N s t → IsValid N s u
      stays_valid s t u at_root valid = fits
      stays_valid s t u (at_child s' n r a ts us d) valid =
          valid_with N s n r a ts us valid (stay_valid (slots_of N r a ts) ts us d (children_valid N s n r a ts valid))

      stay_valid : (ss : List Sym) (ts us : PlainTrees) → AreExchangedIn N x v w ss ts us → AreValid N ss ts → AreValid N ss us
      stay_valid ss ts us (at_first s ss' t u ts' d) valid = let both =
          slot_valid N s ss' t ts' valid in of_slot s ss' u ts' (stays_valid s t u d both.0) both.1
      stay_valid ss ts us (at_later s ss' t ts' us' d) valid = let both =
          slot_valid N s ss' t ts' valid in of_slot s ss' t us' both.0 (stay_valid ss' ts' us' d both.1)

pub fit : SubtreesFit
fit N s x q t v w valid rise e f fits =
    let within = within_from t rise in
    stays_valid N x v w fits s t (with_subtree q w t) (exchanged N x v w 0 within.0 q s t within.1 e f) valid
