-- Single edits are edits at nodes.
use Rattle.std.proofs.Common.{◌≡◌, ◌⊎◌, inl, inr, ℕ, ◌≤◌, Bool, true, false, List, [], ◌∷◌, Some, slice_get, sym, ap, ◌∙◌, subst, arith}
use Rattle.std.proofs.lemmas.Option.{same_Some}
use Rattle.normal_form.specs.declared.normal.Sym.{Sym}
use Rattle.normal_form.specs.Form.{RuleForm, NormalForm}
use Rattle.compat_table.specs.Fits.{Fits}
use Rattle.syntax_tree.specs.Trees.{PlainTree, PlainTrees, IsBelow, IsIn, IsInSome, below, count, itself, leaves, symbol_of, weight}
use Rattle.syntax_tree.specs.Trees as trees
use Rattle.syntax_tree.specs.Valid.{IsTreeFor, IsValid, AreValid, EachIsValid, of_leaf, of_regular, of_absent}
use Rattle.syntax_tree.specs.Valid.{of_present, of_star, of_plus, of_none, of_next, slots_of}
use Rattle.syntax_tree.specs.Numbered.{NumbersRise, number_of, with_subtree}
use Rattle.syntax_tree.specs.Edits.{Deletes, DeletesAmong, IsLocalDeletion, IsLocalEdit, IsLocalReplacement}
use Rattle.syntax_tree.specs.Edits.{IsSingleEdit, LeavesOut, Replaces, ReplacesAmong, by_descendant}
use Rattle.syntax_tree.specs.Edits as edits
use Rattle.syntax_tree.specs.Left.{IsRemainderOf, AreRemaindersOf, IsRemainderOfSome, below_left, left_out}
use Rattle.syntax_tree.specs.Left.{none_left, node_left, kept, of_first, of_later, selected_trees}
use Rattle.syntax_tree.specs.EditLaws.{EditsByNumber, IsEditAt, LocalEditsAreValid, SelectedAreValid, SelectionsAreValid, SelectsElements, SingleEditsAreTrees}
use Rattle.syntax_tree.specs.EditLaws as selects
use Rattle.syntax_tree.proofs.Decoding.{children_valid, no_slots, slot_valid}
use Rattle.syntax_tree.proofs.Within.{within_from}
use Rattle.syntax_tree.proofs.LeftTrees.{left_all, left_itself, leaves_part, selected_left, sublist_increasing}
use Rattle.syntax_tree.proofs.Exchanged.{change, stays_left}
use Rattle.syntax_tree.proofs.InSlots.{IsExchangedIn, AreExchangedIn, at_child, at_first, at_later, at_number}
use Rattle.syntax_tree.proofs.InSlots.{at_root, exchanged, stays_valid, was_valid, without_slots}

left_out_of : (ts us : PlainTrees) → LeavesOut ts us → AreRemaindersOf ts us
left_out_of ts us (edits.first t ts') = left_out t ts' ts' (left_all ts')
left_out_of ts us (edits.later t ts' us' d) = kept t t ts' us' (left_itself t) (left_out_of ts' us' d)

mutual
  in_left : (t u : PlainTree) → IsIn u t → IsRemainderOf t u
  in_left t u (itself t') = left_itself t
  in_left t u (below u' n r a ts d) = below_left n r a ts u (some_left ts u d)

  some_left : (ts : PlainTrees) (u : PlainTree) → IsInSome u ts → IsRemainderOfSome ts u
  some_left ts u (trees.in_first u' t ts' d) = of_first t ts' u (in_left t u d)
  some_left ts u (trees.in_later u' t ts' d) = of_later t ts' u (some_left ts' u d)

module _ (N : NormalForm) where
  -- a tree that is valid for some slot is valid for each that its symbol fits
  fits_slot : (s x : Sym) (t : PlainTree) → IsValid N s t → Fits N (symbol_of t) x → IsValid N x t
  fits_slot s x t (of_leaf s' n k i fits) f = of_leaf x n k i f
  fits_slot s x t (of_regular s' n r a ts alts alt fits rule at valid) f = of_regular x n r a ts alts alt f rule at valid
  fits_slot s x t (of_absent s' n r y fits rule) f = of_absent x n r y f rule
  fits_slot s x t (of_present s' n r u y fits rule valid) f = of_present x n r u y f rule valid
  fits_slot s x t (of_star s' n r ts y fits rule each) f = of_star x n r ts y f rule each
  fits_slot s x t (of_plus s' n r u ts y fits rule each) f = of_plus x n r u ts y f rule each

  mutual
    -- what is in a valid tree is valid for some slot
    in_valid : (s : Sym) (t u : PlainTree) → IsValid N s t → IsIn u t → (y : Sym) × IsValid N y u
    in_valid s t u valid (itself t') = (s, valid)
    in_valid s t u valid (below u' n r a ts d) = some_valid (slots_of N r a ts) ts u (children_valid N s n r a ts valid) d

    some_valid : (ss : List Sym) (ts : PlainTrees) (u : PlainTree) → AreValid N ss ts → IsInSome u ts → (y : Sym) × IsValid N y u
    some_valid [] ts u valid (trees.in_first u' t ts' d) = absurd (no_slots N t ts' valid)
    some_valid [] ts u valid (trees.in_later u' t ts' d) = absurd (no_slots N t ts' valid)
    some_valid (s ∷ ss) ts u valid (trees.in_first u' t ts' d) = in_valid s t u (slot_valid N s ss t ts' valid).0 d
    some_valid (s ∷ ss) ts u valid (trees.in_later u' t ts' d) = some_valid ss ts' u (slot_valid N s ss t ts' valid).1 d

  -- a valid list without some of its elements
  star_with : (x : Sym) (n r a : ℕ) (ts us : PlainTrees) (y : Sym) → IsValid N x (PlainTree.node n r a ts) → slice_get N.rules r ≡ Some (RuleForm.star y) →
      (EachIsValid N y ts → EachIsValid N y us) → IsValid N x (PlainTree.node n r a us)
  star_with x n r a ts us y (of_regular x' n' r' a' ts' alts alt fits rule at valid) star keeps =
      absurd (let e : RuleForm.regular alts ≡ RuleForm.star y = same_Some (RuleForm.regular alts) (RuleForm.star y) (sym rule ∙ star) in cc)
  star_with x n r a ts us y (of_absent x' n' r' z fits rule) star keeps =
      absurd (let e : RuleForm.opt z ≡ RuleForm.star y = same_Some (RuleForm.opt z) (RuleForm.star y) (sym rule ∙ star) in cc)
  star_with x n r a ts us y (of_present x' n' r' u z fits rule valid) star keeps =
      absurd (let e : RuleForm.opt z ≡ RuleForm.star y = same_Some (RuleForm.opt z) (RuleForm.star y) (sym rule ∙ star) in cc)
  star_with x n r a ts us y (of_plus x' n' r' u us' z fits rule each) star keeps =
      absurd (let e : RuleForm.plus z ≡ RuleForm.star y = same_Some (RuleForm.plus z) (RuleForm.star y) (sym rule ∙ star) in cc)
  star_with x n r a ts us y (of_star x' n' r' ts' z fits rule each) star keeps =
      let e : RuleForm.star z ≡ RuleForm.star y = same_Some (RuleForm.star z) (RuleForm.star y) (sym rule ∙ star) in
      let same : z ≡ y = cc in
      let P : Sym → Type 0 = λ z'. EachIsValid N z' ts in
      of_star x n r us y fits star (keeps (subst P same each))

  plus_with : (x : Sym) (n r a : ℕ) (ts : PlainTrees) (u : PlainTree) (us : PlainTrees) (y : Sym) → IsValid N x (PlainTree.node n r a ts)
      → slice_get N.rules r ≡ Some (RuleForm.plus y) →
      (EachIsValid N y ts → EachIsValid N y (PlainTrees.next u us)) → IsValid N x (PlainTree.node n r a (PlainTrees.next u us))
  plus_with x n r a ts u us y (of_regular x' n' r' a' ts' alts alt fits rule at valid) plus keeps =
      absurd (let e : RuleForm.regular alts ≡ RuleForm.plus y = same_Some (RuleForm.regular alts) (RuleForm.plus y) (sym rule ∙ plus) in cc)
  plus_with x n r a ts u us y (of_absent x' n' r' z fits rule) plus keeps =
      absurd (let e : RuleForm.opt z ≡ RuleForm.plus y = same_Some (RuleForm.opt z) (RuleForm.plus y) (sym rule ∙ plus) in cc)
  plus_with x n r a ts u us y (of_present x' n' r' t z fits rule valid) plus keeps =
      absurd (let e : RuleForm.opt z ≡ RuleForm.plus y = same_Some (RuleForm.opt z) (RuleForm.plus y) (sym rule ∙ plus) in cc)
  plus_with x n r a ts u us y (of_star x' n' r' ts' z fits rule each) plus keeps =
      absurd (let e : RuleForm.star z ≡ RuleForm.plus y = same_Some (RuleForm.star z) (RuleForm.plus y) (sym rule ∙ plus) in cc)
  plus_with x n r a ts u us y (of_plus x' n' r' t ts' z fits rule each) plus keeps =
      let e : RuleForm.plus z ≡ RuleForm.plus y = same_Some (RuleForm.plus z) (RuleForm.plus y) (sym rule ∙ plus) in
      let same : z ≡ y = cc in
      let P : Sym → Type 0 = λ z'. EachIsValid N z' ts in
      of_plus x n r u us y fits plus (keeps (subst P same each))

  opt_with : (x : Sym) (n r a : ℕ) (ts : PlainTrees) (y : Sym) → IsValid N x (PlainTree.node n r a ts) → slice_get N.rules r ≡ Some (RuleForm.opt y)
      → IsValid N x (PlainTree.node n r a PlainTrees.none)
  opt_with x n r a ts y (of_regular x' n' r' a' ts' alts alt fits rule at valid) opt =
      absurd (let e : RuleForm.regular alts ≡ RuleForm.opt y = same_Some (RuleForm.regular alts) (RuleForm.opt y) (sym rule ∙ opt) in cc)
  opt_with x n r a ts y (of_absent x' n' r' z fits rule) opt = of_absent x n r y fits opt
  opt_with x n r a ts y (of_present x' n' r' u z fits rule valid) opt = of_absent x n r y fits opt
  opt_with x n r a ts y (of_star x' n' r' ts' z fits rule each) opt =
      absurd (let e : RuleForm.star z ≡ RuleForm.opt y = same_Some (RuleForm.star z) (RuleForm.opt y) (sym rule ∙ opt) in cc)
  opt_with x n r a ts y (of_plus x' n' r' t ts' z fits rule each) opt =
      absurd (let e : RuleForm.plus z ≡ RuleForm.opt y = same_Some (RuleForm.plus z) (RuleForm.opt y) (sym rule ∙ opt) in cc)

  each_first : (y : Sym) (t : PlainTree) (ts : PlainTrees) → EachIsValid N y (PlainTrees.next t ts) → IsValid N y t × EachIsValid N y ts
  each_first y t ts (of_next y' t' ts' one rest) = (one, rest)

  each_without : (y : Sym) (ts us : PlainTrees) → LeavesOut ts us → EachIsValid N y ts → EachIsValid N y us
  each_without y ts us (edits.first t ts') each = (each_first y t ts' each).1
  each_without y ts us (edits.later t ts' us' d) each = let both = each_first y t ts' each in of_next y t us' both.0 (each_without y ts' us' d both.1)

  each_selected : (y : Sym) (mask : List Bool) (ts : PlainTrees) → EachIsValid N y ts → EachIsValid N y (selected_trees mask ts)
  each_selected y [] ts each = of_none y
  each_selected y (b ∷ mask) PlainTrees.none each = of_none y
  each_selected y (true ∷ mask) (PlainTrees.next t ts) each = let both =
      each_first y t ts each in of_next y t (selected_trees mask ts) both.0 (each_selected y mask ts both.1)
  each_selected y (false ∷ mask) (PlainTrees.next t ts) each = each_selected y mask ts (each_first y t ts each).1

  -- what a local edit gives
  deletion_valid : (x : Sym) (v w : PlainTree) → IsValid N x v → IsLocalDeletion N v w → IsValid N x w × IsRemainderOf v w
  deletion_valid x v w valid (edits.of_star n r a ts us y rule out) =
      (star_with x n r a ts us y valid rule (each_without y ts us out), node_left n r a ts us (left_out_of ts us out))
  deletion_valid x v w valid (edits.of_plus n r a ts u us y rule out) = (
    plus_with x n r a ts u us y valid rule (each_without y ts (PlainTrees.next u us) out),
    node_left n r a ts (PlainTrees.next u us) (left_out_of ts (PlainTrees.next u us) out),
  )
  deletion_valid x v w valid (edits.of_opt n r a t y rule) = (
    opt_with x n r a (PlainTrees.next t PlainTrees.none) y valid rule,
    node_left n r a (PlainTrees.next t PlainTrees.none) PlainTrees.none (left_out t PlainTrees.none PlainTrees.none none_left),
  )

  replacement_valid : (x : Sym) (v w : PlainTree) → IsValid N x v → IsLocalReplacement N x v w → IsValid N x w × IsRemainderOf v w
  replacement_valid x v w valid (by_descendant x' n r a ts alts u rule is_below fits) =
      let it = some_valid (slots_of N r a ts) ts w (children_valid N x n r a ts valid) is_below in
      (fits_slot it.0 x w it.1 fits, below_left n r a ts w (some_left ts w is_below))

  edit_valid : (x : Sym) (v w : PlainTree) → IsValid N x v → IsLocalEdit N x v w → IsValid N x w × IsRemainderOf v w
  edit_valid x v w valid (inl deletion) = deletion_valid x v w valid deletion
  edit_valid x v w valid (inr replacement) = replacement_valid x v w valid replacement

  selection_valid : (x : Sym) (mask : List Bool) (v w : PlainTree) → IsValid N x v → SelectsElements N mask v w → IsValid N x w × IsRemainderOf v w
  selection_valid x mask v w valid (selects.of_star n r a ts y rule) = (
    star_with x n r a ts (selected_trees mask ts) y valid rule (each_selected y mask ts),
    node_left n r a ts (selected_trees mask ts) (selected_left mask ts),
  )
  selection_valid x mask v w valid (selects.of_plus n r a ts y rule some) = (
    plus_selected x n r a ts (selected_trees mask ts) y valid rule some (each_selected y mask ts),
    node_left n r a ts (selected_trees mask ts) (selected_left mask ts),
  )
    where
      plus_selected : (x : Sym) (n r a : ℕ) (ts us : PlainTrees) (y : Sym) → IsValid N x (PlainTree.node n r a ts)
          → slice_get N.rules r ≡ Some (RuleForm.plus y) → 1 ≤ count us →
          (EachIsValid N y ts → EachIsValid N y us) → IsValid N x (PlainTree.node n r a us)
      plus_selected x n r a ts PlainTrees.none y valid rule some keeps = absurd (let no : 1 ≤ 0 = some in omega (arith, no))
      plus_selected x n r a ts (PlainTrees.next u us) y valid rule some keeps = plus_with x n r a ts u us y valid rule keeps

  module _ (x : Sym) (v w : PlainTree) where
    module _ (deletion : IsLocalDeletion N v w) where
      mutual
        deletes : (s : Sym) (t u : PlainTree) → IsExchangedIn N x v w s t u → Deletes N t u
        deletes s t u at_root = edits.at_node v w deletion
        deletes s t u (at_child s' n r a ts us d) = edits.within n r a ts us (delete_among (slots_of N r a ts) ts us d)

        delete_among : (ss : List Sym) (ts us : PlainTrees) → AreExchangedIn N x v w ss ts us → DeletesAmong N ts us
        delete_among ss ts us (at_first s ss' t u ts' d) = edits.in_first t u ts' (deletes s t u d)
        delete_among ss ts us (at_later s ss' t ts' us' d) = edits.in_later t ts' us' (delete_among ss' ts' us' d)

    module _ (replacement : IsLocalReplacement N x v w) where
      mutual
        replaces : (s : Sym) (t u : PlainTree) → IsExchangedIn N x v w s t u → Replaces N s t u
        replaces s t u at_root = edits.at_node x v w replacement
        replaces s t u (at_child s' n r a ts us d) = edits.within s n r a ts us (replace_among (slots_of N r a ts) ts us d)

        replace_among : (ss : List Sym) (ts us : PlainTrees) → AreExchangedIn N x v w ss ts us → ReplacesAmong N ss ts us
        replace_among ss ts us (at_first s ss' t u ts' d) = edits.in_first s ss' t u ts' (replaces s t u d)
        replace_among ss ts us (at_later s ss' t ts' us' d) = edits.in_later s ss' t ts' us' (replace_among ss' ts' us' d)

    edited : (s : Sym) (t u : PlainTree) → IsExchangedIn N x v w s t u → IsLocalEdit N x v w → Deletes N t u ⊎ Replaces N s t u
    edited s t u d (inl deletion) = inl (deletes deletion s t u d)
    edited s t u d (inr replacement) = inr (replaces replacement s t u d)

  -- Where an edit is.
  pub record HasEdit (s : Sym) (t u : PlainTree) : Type 0 where
    pub slot : Sym
    pub node : PlainTree
    pub by : PlainTree
    pub exchanged : IsExchangedIn N slot node by s t u
    pub edit : IsLocalEdit N slot node by

  pub record HaveEdit (ss : List Sym) (ts us : PlainTrees) : Type 0 where
    pub slot : Sym
    pub node : PlainTree
    pub by : PlainTree
    pub exchanged : AreExchangedIn N slot node by ss ts us
    pub edit : IsLocalEdit N slot node by

  mutual
    deletion_of : (s : Sym) (t u : PlainTree) → IsValid N s t → Deletes N t u → HasEdit s t u
    deletion_of s t u valid (edits.at_node t' u' d) = record { slot = s; node = t; by = u; exchanged = at_root; edit = inl d }
    deletion_of s t u valid (edits.within n r a ts us d) =
        let it = deletion_among (slots_of N r a ts) ts us (children_valid N s n r a ts valid) d in
        record { slot = it.slot; node = it.node; by = it.by; exchanged = at_child s n r a ts us it.exchanged; edit = it.edit }

    deletion_among : (ss : List Sym) (ts us : PlainTrees) → AreValid N ss ts → DeletesAmong N ts us → HaveEdit ss ts us
    deletion_among [] ts us valid (edits.in_first t u ts' d) = absurd (no_slots N t ts' valid)
    deletion_among [] ts us valid (edits.in_later t ts' us' d) = absurd (no_slots N t ts' valid)
    deletion_among (s ∷ ss) ts us valid (edits.in_first t u ts' d) =
        let it = deletion_of s t u (slot_valid N s ss t ts' valid).0 d in
        record { slot = it.slot; node = it.node; by = it.by; exchanged = at_first s ss t u ts' it.exchanged; edit = it.edit }
    deletion_among (s ∷ ss) ts us valid (edits.in_later t ts' us' d) =
        let it = deletion_among ss ts' us' (slot_valid N s ss t ts' valid).1 d in
        record { slot = it.slot; node = it.node; by = it.by; exchanged = at_later s ss t ts' us' it.exchanged; edit = it.edit }

  mutual
    replacement_of : (s : Sym) (t u : PlainTree) → Replaces N s t u → HasEdit s t u
    replacement_of s t u (edits.at_node s' t' u' d) = record { slot = s; node = t; by = u; exchanged = at_root; edit = inr d }
    replacement_of s t u (edits.within s' n r a ts us d) =
        let it = replacement_among (slots_of N r a ts) ts us d in
        record { slot = it.slot; node = it.node; by = it.by; exchanged = at_child s n r a ts us it.exchanged; edit = it.edit }

    replacement_among : (ss : List Sym) (ts us : PlainTrees) → ReplacesAmong N ss ts us → HaveEdit ss ts us
    replacement_among ss ts us (edits.in_first s ss' t u ts' d) =
        let it = replacement_of s t u d in
        record { slot = it.slot; node = it.node; by = it.by; exchanged = at_first s ss' t u ts' it.exchanged; edit = it.edit }
    replacement_among ss ts us (edits.in_later s ss' t ts' us' d) =
        let it = replacement_among ss' ts' us' d in
        record { slot = it.slot; node = it.node; by = it.by; exchanged = at_later s ss' t ts' us' it.exchanged; edit = it.edit }

  edit_of : (s : Sym) (t u : PlainTree) → IsValid N s t → Deletes N t u ⊎ Replaces N s t u → HasEdit s t u
  edit_of s t u valid (inl d) = deletion_of s t u valid d
  edit_of s t u valid (inr d) = replacement_of s t u d

  by_number : (s : Sym) (t u : PlainTree) → IsValid N s t → NumbersRise t → IsSingleEdit N s t u → (q : ℕ) × (x : Sym) × (v : PlainTree) × (w : PlainTree)
      × IsEditAt N s t u q x v w
  by_number s t u valid rise e =
      let it = edit_of s t u valid e.edit in
      let within = within_from t rise in
      let at = at_number N it.slot it.node it.by 0 within.0 s t u within.1 it.exchanged in
      let weights = (change t (number_of it.node) it.node it.by rise at.node).weights in
      let same : weight u ≡ weight (with_subtree (number_of it.node) it.by t) = ap weight at.tree in (
        number_of it.node,
        it.slot,
        it.node,
        it.by,
        record { node = at.node; slot = at.slot; edit = it.edit; tree = at.tree; smaller = omega (arith, e.smaller, weights, same) },
      )

  from_number : (s : Sym) (t u : PlainTree) → NumbersRise t → ((q : ℕ) × (x : Sym) × (v : PlainTree) × (w : PlainTree) × IsEditAt N s t u q x v w)
      → IsSingleEdit N s t u
  from_number s t u rise (q, x, v, w, e) =
      let within = within_from t rise in
      let P : PlainTree → Type 0 = λ y. IsExchangedIn N x v w s t y in
      let d = subst P (sym e.tree) (exchanged N x v w 0 within.0 q s t within.1 e.node e.slot) in
      let weights = (change t q v w rise e.node).weights in
      let same : weight u ≡ weight (with_subtree q w t) = ap weight e.tree in
      record { edit = edited x v w s t u d e.edit; smaller = omega (arith, e.smaller, weights, same) }

  stays_tree : (s : Sym) (t u : PlainTree) → IsTreeFor N s t → IsSingleEdit N s t u → IsTreeFor N s u × IsRemainderOf t u
  stays_tree s t u tree e =
      let it = edit_of s t u tree.valid e.edit in
      let local = edit_valid it.slot it.node it.by (was_valid N it.slot it.node it.by s t u it.exchanged tree.valid) it.edit in
      let left = stays_left it.node it.by local.1 t u (without_slots N it.slot it.node it.by s t u it.exchanged) in (
        record {
          valid = stays_valid N it.slot it.node it.by local.0 s t u it.exchanged tree.valid;
          rising = sublist_increasing (leaves u) (leaves t) (leaves_part (λ k i. i) t u left) tree.rising;
        },
        left,
      )

pub numbered : EditsByNumber
numbered N s t u valid rise = (by_number N s t u valid rise, from_number N s t u rise)

pub edits_are_trees : SingleEditsAreTrees
edits_are_trees N s t u tree e = stays_tree N s t u tree e

pub local_edits : LocalEditsAreValid
local_edits N x v w valid e = edit_valid N x v w valid e

pub selected : SelectedAreValid
selected N x mask ts each = each_selected N x mask ts each

pub selections : SelectionsAreValid
selections N x mask v w valid e = selection_valid N x mask v w valid e
