-- Sets of kinds by what they lack.
use Rattle.std.proofs.Common.{◌≡◌, ℕ, ◌<◌, ◌≤◌, ◌⊎◌, inl, inr, ◌&&◌, Bool, true, false, not, cond, Bor, List, [], ◌∷◌, ◌++◌, length, map}
use Rattle.std.proofs.Common.{Option, Some, None, is_some, slice_get, refl, sym, ap, ◌∙◌, subst, arith, true≢false}
use Rattle.std.specs.Prelude.{filter, position}
use Rattle.std.specs.BTreeMap.{BTreeMap, UpdatesBy, is_at}
use Rattle.std.specs.Cmp.{eq_by_cmp_equiv}
use Rattle.std.specs.Cmp.Lexicographic.{nat_list_cmp_total, slice_cmp}
use Rattle.std.specs.Global.{Vec}
use Rattle.std.specs.List.{All, list_any, position_or_len}
use Rattle.std.specs.List.Sorted.{IsStrictlyIncreasing}
use Rattle.std.specs.Map.{AreApart, IsKeyTest, KeepsOthers, lookup}
use Rattle.std.specs.Option.{option_map, option_map_or}
use Rattle.std.specs.Ordering.{is_eq, nat_cmp}
use Rattle.std.specs.Slice.{IsItemAt}
use Rattle.std.specs.Str.{bytes_eq}
use Rattle.std.proofs.lemmas.Bool.{cases_lt, ltb-true, ltb-false}
use Rattle.std.proofs.lemmas.List.Elements.{All-tail}
use Rattle.std.proofs.lemmas.List.Folds.{list_any_at, list_any_none}
use Rattle.std.proofs.lemmas.List.Kept.{IsStrictlyIncreasing-filter}
use Rattle.std.proofs.lemmas.List.Quantifiers.{position-Some}
use Rattle.std.proofs.lemmas.List.Sums.{fails_before_first}
use Rattle.std.proofs.lemmas.Map.Text.{is_eq-slice_cmp}
use Rattle.std.proofs.lemmas.Option.{get_or_from_slice_get, slice_get-map, slice_get_past, slice_get_read, slice_get_within}
use Rattle.std.proofs.lemmas.Slice.Eq.{bytes_eq-Decides}
use Rattle.grammar_tree.specs.Kinds.{same_text}
use Rattle.grammar_names.specs.Index.{or_added}
use Rattle.grammar_names.specs.KindLists.{IsPartOf, is_in, lacking}
use Rattle.grammar_names.proofs.Lent.{filter_agree_on, in_filter, added_nothing, position_none, position_push, position_some}
use Rattle.normal_form_sets.specs.Sets.{SetsOfKinds, items_of, with_each}
use Rattle.normal_form_sets.specs.inner.Sets.{HasNumbers, number_in}

-- What a list holds at an index that is looked up.
pub item_some : {X : Type 0} (xs : List X) (i : ℕ) (x : Bor X) (r : Option (Bor X)) → r ≡ Some x → IsItemAt xs i r → slice_get xs i ≡ Some x.now
item_some {X} xs i x r e at =
    let P : Option (Bor X) → Type 0 = λ o. IsItemAt xs i o in
    let here = subst P e at in
    slice_get_read xs (length xs) i x.now refl (ltb-true i (length xs) (sym here.0)) here.1

pub item_none : {X : Type 0} (xs : List X) (i : ℕ) (r : Option (Bor X)) → r ≡ None → IsItemAt xs i r → slice_get xs i ≡ None
item_none {X} xs i r e at =
    let P : Option (Bor X) → Type 0 = λ o. IsItemAt xs i o in
    let here = subst P e at in
    slice_get_past xs i (ltb-false i (length xs) (sym here.0))

pub set_at : (all : List ℕ) (missing : List (Vec ℕ)) (i : ℕ) (m : Vec ℕ) → slice_get missing i ≡ Some m
    → slice_get (map (lacking all) (map items_of missing)) i ≡ Some (lacking all m.items)
set_at all missing i m e =
    slice_get-map (lacking all) (map items_of missing) i ∙ ap (option_map (lacking all)) (slice_get-map items_of missing i ∙ ap (option_map items_of) e)

pub no_set_at : (all : List ℕ) (missing : List (Vec ℕ)) (i : ℕ) → slice_get missing i ≡ None → slice_get (map (lacking all) (map items_of missing)) i ≡ None
no_set_at all missing i e =
    slice_get-map (lacking all) (map items_of missing) i ∙ ap (option_map (lacking all)) (slice_get-map items_of missing i ∙ ap (option_map items_of) e)

pub part_at : (all : List ℕ) (missing : List (Vec ℕ)) (i : ℕ) (m : Vec ℕ) → All (IsPartOf all) (map items_of missing) → slice_get missing i ≡ Some m
    → IsPartOf all m.items
part_at all missing i m parts e =
    let at : slice_get (map items_of missing) i ≡ Some m.items = slice_get-map items_of missing i ∙ ap (option_map items_of) e in
    subst (IsPartOf all) (get_or_from_slice_get (map items_of missing) i m.items [] at) (parts i [] (slice_get_within (map items_of missing) i m.items at))

-- What a set has, by what it lacks.
pub in_lacking : (all missing : List ℕ) (k : ℕ) → is_in (lacking all missing) k ≡ (not (is_in missing k) && is_in all k)
in_lacking all missing k = in_filter (λ j. not (is_in missing j)) all k

not_twice : (b c : Bool) → c ≡ true → not (not b && c) ≡ b
not_twice true true e = refl
not_twice false true e = refl
not_twice b false e = absurd (true≢false (sym e))

-- what a set lacks that lacks what is part of all
pub lacking_twice : (all missing : List ℕ) → IsPartOf all missing → lacking all (lacking all missing) ≡ missing
lacking_twice all missing part =
    filter_agree_on (λ k. not (is_in (lacking all missing) k)) (is_in missing) all
    (λ k h. ap not (in_lacking all missing k) ∙ not_twice (is_in missing k) (is_in all k) h) ∙ part

same_missing : (all a b : List ℕ) → IsPartOf all a → IsPartOf all b → lacking all a ≡ lacking all b → a ≡ b
same_missing all a b p q e = sym (lacking_twice all a p) ∙ ap (lacking all) e ∙ lacking_twice all b q

keep_all : (xs : List ℕ) → filter (λ _. true) xs ≡ xs
keep_all [] = refl
keep_all (x ∷ xs) = ap (λ l. x ∷ l) (keep_all xs)

keep_none : (xs : List ℕ) → filter (λ _. false) xs ≡ []
keep_none [] = refl
keep_none (x ∷ xs) = keep_none xs

-- `.` lacks nothing, and the empty set all
pub none_part : (all : List ℕ) → IsPartOf all []
none_part all = keep_none all

pub lacks_none : (all : List ℕ) → lacking all [] ≡ all
lacks_none all = keep_all all

pub all_part : (all : List ℕ) → IsPartOf all all
all_part all = filter_agree_on (is_in all) (λ _. true) all (λ k h. h) ∙ keep_all all

pub lacks_all : (all : List ℕ) → lacking all all ≡ []
lacks_all all = filter_agree_on (λ k. not (is_in all k)) (λ _. false) all (λ k h. ap not h) ∙ keep_none all

pub and_in : (b c : Bool) → c ≡ true → (b && c) ≡ b
and_in true c e = e
and_in false c e = refl

-- what a test keeps of all is part of all
pub kept_part : (p : ℕ → Bool) (all : List ℕ) → IsPartOf all (filter p all)
kept_part p all = filter_agree_on (is_in (filter p all)) p all (λ k h. in_filter p all k ∙ and_in (p k) (is_in all k) h)

-- what is part of all rises as they do
pub part_rises : (all missing : List ℕ) → IsStrictlyIncreasing all → IsPartOf all missing → IsStrictlyIncreasing missing
part_rises all missing up part = subst IsStrictlyIncreasing part (IsStrictlyIncreasing-filter (is_in missing) all up)

-- whether a set has a kind
pub has_kind : (all missing : List ℕ) (kind : ℕ) (set : Option (List ℕ)) (a b : Bool) → Some (lacking all missing) ≡ set → a ≡ is_in all kind
    → b ≡ is_in missing kind → (not b && a) ≡ option_map_or (λ kinds. is_in kinds kind) set false
has_kind all missing kind set a b is x y =
    ap (λ z. not z && a) y ∙ ap (λ z. not (is_in missing kind) && z) x ∙ sym (in_lacking all missing kind)
    ∙ ap (λ o. option_map_or (λ kinds. is_in kinds kind) o false) is

pub and_false : (b : Bool) → (b && false) ≡ false
and_false true = refl
and_false false = refl

-- what sets lack, each of which lacks what is part of all
pub written_out : (all : List ℕ) (missing : List (List ℕ)) → All (IsPartOf all) missing → map (lacking all) (map (lacking all) missing) ≡ missing
written_out all [] parts = refl
written_out all (m ∷ ms) parts =
    ap (λ x. x ∷ map (lacking all) (map (lacking all) ms)) (lacking_twice all m (parts 0 [] (omega arith)))
    ∙ ap (λ l. m ∷ l) (written_out all ms (All-tail (IsPartOf all) m ms parts))

-- The numbers of sets that are found.
pub any_found : (p : List ℕ → Bool) (sets : List (List ℕ)) → is_some (position p sets) ≡ list_any p sets
any_found p sets = go (cases_lt (position_or_len p sets) (length sets))
  where
    go : (position_or_len p sets < length sets) ⊎ (length sets ≤ position_or_len p sets) → is_some (position p sets) ≡ list_any p sets
    go (inl h) =
        let at = position_some p sets h in
        let found = position-Some p sets (position_or_len p sets) [] at in
        ap is_some at ∙ sym (list_any_at p sets (position_or_len p sets) [] found.0 found.1)
    go (inr h) = ap is_some (position_none p sets h) ∙ sym (list_any_none p sets (λ k d i. fails_before_first p sets k d (omega (arith, h, i))))

-- a set that is there, and one that isn't
pub with_known : (s : SetsOfKinds) (set : List ℕ) → is_some (position (λ other. same_text other set) s.sets) ≡ true → s ≡ with_each s (set ∷ [])
with_known s set h =
    let known : list_any (λ other. same_text other set) s.sets ≡ true = sym (any_found (λ other. same_text other set) s.sets) ∙ h in
    ap (λ b. record { all = s.all; sets = cond b s.sets (s.sets ++ set ∷ []) }) (sym known)

pub with_new : (s : SetsOfKinds) (set : List ℕ) → is_some (position (λ other. same_text other set) s.sets) ≡ false
    → record { all = s.all; sets = s.sets ++ set ∷ [] } ≡ with_each s (set ∷ [])
with_new s set h =
    let new : list_any (λ other. same_text other set) s.sets ≡ false = sym (any_found (λ other. same_text other set) s.sets) ∙ h in
    ap (λ b. record { all = s.all; sets = cond b s.sets (s.sets ++ set ∷ []) }) (sym new)

none_since : (o : Option ℕ) → is_some o ≡ false → o ≡ None
none_since None e = refl
none_since (Some n) e = absurd (true≢false e)

other_entries : {K X : Type 0} (eq : K → K → Bool) (test : K → Bool) (old new : List (K × X)) → KeepsOthers eq test old new → (other : K → Bool)
    → IsKeyTest eq other → AreApart test other → lookup other new ≡ lookup other old
unfolding KeepsOthers
other_entries eq test old new h = h

apart : (a b key : List ℕ) → bytes_eq a b ≡ false → is_eq (slice_cmp nat_cmp a key) ≡ true → (c : Bool) → is_eq (slice_cmp nat_cmp b key) ≡ c → c ≡ false
apart a b key other same false e = refl
apart a b key other same true e =
    let first : a ≡ key = (bytes_eq-Decides a key).0 (sym (is_eq-slice_cmp a key) ∙ same) in
    let second : b ≡ key = (bytes_eq-Decides b key).0 (sym (is_eq-slice_cmp b key) ∙ e) in
    absurd (true≢false (sym ((bytes_eq-Decides a b).1 (first ∙ sym second)) ∙ other))

-- what a map has by lists of kinds, after one list was given a number
number_other : (m n : BTreeMap (Vec ℕ) ℕ) (key : List ℕ) (w : Option ℕ)
    → UpdatesBy (λ x y. slice_cmp nat_cmp x.items y.items) (λ k. slice_cmp nat_cmp key k.items) m n w → (q : List ℕ) → bytes_eq key q ≡ false
    → number_in n q ≡ number_in m q
number_other m n key w h q e =
    other_entries _ _ _ _ h.3 (is_at (λ k. slice_cmp nat_cmp q k.items)) (λ x y. (eq_by_cmp_equiv nat_list_cmp_total).congr q x.items y.items)
    (λ k same. apart key q k.items e same (is_eq (slice_cmp nat_cmp q k.items)) refl)

-- one more set, which isn't there yet
pub numbers_more : (m n : BTreeMap (Vec ℕ) ℕ) (s : SetsOfKinds) (missing : List ℕ) (number : ℕ) → number ≡ length s.sets
    → UpdatesBy (λ x y. slice_cmp nat_cmp x.items y.items) (λ k. slice_cmp nat_cmp missing k.items) m n (Some number)
    → is_some (position (λ other. same_text other (lacking s.all missing)) s.sets) ≡ false → IsPartOf s.all missing → HasNumbers m s
    → HasNumbers n (record { all = s.all; sets = s.sets ++ lacking s.all missing ∷ [] })
numbers_more m n s missing number at updates new part has q q_part = go (bytes_eq missing q) refl
  where
    set : List ℕ
    set = lacking s.all missing

    found : (List ℕ → Bool) → Option ℕ
    found p = position p s.sets

    test : List ℕ → Bool
    test other = same_text other (lacking s.all q)

    pushed : or_added (found test) (test set) (length s.sets) ≡ position test (s.sets ++ set ∷ [])
    pushed = position_push test s.sets set

    here : missing ≡ q → number_in n q ≡ position test (s.sets ++ set ∷ [])
    here same =
        let P : List ℕ → Type 0 = λ l. number_in n l ≡ Some number in
        let none : found test ≡ None =
        none_since (found test) (ap (λ l. is_some (position (λ other. same_text other (lacking s.all l)) s.sets)) (sym same) ∙ new) in
        let is_set : test set ≡ true = (bytes_eq-Decides set (lacking s.all q)).1 (ap (lacking s.all) same) in
        subst P same updates.1 ∙ ap Some at ∙ ap (λ o. or_added o true (length s.sets)) (sym none)
        ∙ ap (λ b. or_added (found test) b (length s.sets)) (sym is_set) ∙ pushed

    other_set : bytes_eq missing q ≡ false → (b : Bool) → test set ≡ b → b ≡ false
    other_set e false h = refl
    other_set e true h =
        let same : missing ≡ q = same_missing s.all missing q part q_part ((bytes_eq-Decides set (lacking s.all q)).0 h) in
        absurd (true≢false (sym ((bytes_eq-Decides missing q).1 same) ∙ e))

    go : (b : Bool) → bytes_eq missing q ≡ b → number_in n q ≡ position test (s.sets ++ set ∷ [])
    go true e = here ((bytes_eq-Decides missing q).0 e)
    go false e =
        number_other m n missing (Some number) updates q e ∙ has q q_part
        ∙ sym (added_nothing (found test) (length s.sets)) ∙ ap (λ b. or_added (found test) b (length s.sets)) (sym (other_set e (test set) refl)) ∙ pushed
