-- The least table that is closed under the rules says exactly which of them derive something.
use Rattle.std.proofs.Common.{◌≡◌, ◌⊎◌, inl, inr, ◌↔◌, ℕ, zero, suc, ◌<◌, Bool, true, false, ◌||◌, ◌&&◌, List, [], ◌∷◌, ◌++◌, Option, Some, None}
use Rattle.std.proofs.Common.{length, slice_get, slice_set, get_or-set_other, refl, sym, ap, ◌∙◌, subst, arith, true≢false}
use Rattle.std.specs.Global.{Vec}
use Rattle.std.specs.List.{Contains, list_all, list_any}
use Rattle.std.specs.Option.{option_map_or}
use Rattle.std.proofs.lemmas.Bool.{cases_eq}
use Rattle.std.proofs.lemmas.Option.{slice_get_within}
use Rattle.grammar_check_nodes.specs.Flags.{flag}
use Rattle.grammar_check_nodes.specs.Marking.{IsClosedAt, IsMarked}
use Rattle.normal_form.specs.declared.normal.Sym.{Sym}
use Rattle.normal_form.specs.declared.normal.Sym.TheVariants.{Kind, Set, Rule}
use Rattle.normal_form.specs.Form.{RuleForm, NormalForm}
use Rattle.normal_form.specs.NormalDerives.{NormalDerives, NormalDerivesSeq, of_kind, of_set, of_regular, of_absent}
use Rattle.normal_form.specs.NormalDerives.{of_present, of_star, of_plus, of_done, of_next, of_end}
use Rattle.normal_form.specs.View.{alts_form}
use Rattle.chart_parser_prefix.specs.inner.Productive.{AreProductive, DerivesSome, DerivesSomeSeq, form_passes, has_some, numbered_passes, passes}

and_both : (b c : Bool) → (b && c) ≡ true → (b ≡ true) × (c ≡ true)
and_both true c e = (refl, e)
and_both false c e = absurd (true≢false (sym e))

or_one : (b c : Bool) → (b || c) ≡ true → (b ≡ true) ⊎ (c ≡ true)
or_one true c e = inl refl
or_one false c e = inr e

from_both : (b c : Bool) → b ≡ true → c ≡ true → (b && c) ≡ true
from_both b c e f = ap (λ x. x && c) e ∙ f

from_first : (b c : Bool) → b ≡ true → (b || c) ≡ true
from_first b c e = ap (λ x. x || c) e

from_second : (b c : Bool) → c ≡ true → (b || c) ≡ true
from_second true c e = refl
from_second false c e = e

filled : (ks : List ℕ) (k : ℕ) → Contains ks k → has_some ks ≡ true
filled [] k (i, l, e) = absurd (omega (arith, l))
filled (x ∷ ks) k c = refl

module _ {X : Type 0} (p : X → Bool) where
  one_of : (xs : List X) (x : X) → Contains xs x → p x ≡ true → list_any p xs ≡ true
  one_of [] x (i, l, e) h = absurd (omega (arith, l))
  one_of (y ∷ xs) x (zero, l, e) h = from_first (p y) (list_any p xs) (ap p e ∙ h)
  one_of (y ∷ xs) x (suc i, l, e) h = from_second (p y) (list_any p xs) (one_of xs x (i, omega (arith, l), e) h)

  some_one : (xs : List X) → list_any p xs ≡ true → (x : X) × Contains xs x × (p x ≡ true)
  some_one [] h = absurd (true≢false (sym h))
  some_one (y ∷ xs) h = elim (or_one (p y) (list_any p xs) h) [
    | inl e ↦ (y, (0, omega arith, refl), e)
    | inr more ↦ let r = some_one xs more in (r.0, (suc r.1.0, omega (arith, r.1.1), r.1.2), r.2)
  ]

module _ (N : NormalForm) (flags : List Bool) where
  module _ (sound : (r : ℕ) → flag flags r ≡ true → DerivesSome N (Rule r)) where
    in_set : (g : ℕ) (set : Option (List ℕ)) → slice_get N.sets g ≡ set → option_map_or has_some set false ≡ true → DerivesSome N (Set g)
    in_set g None at h = absurd (true≢false (sym h))
    in_set g (Some []) at h = absurd (true≢false (sym h))
    in_set g (Some (k ∷ ks)) at h = (k ∷ [], of_set g k (k ∷ ks) at (0, omega arith, refl))

    pub one_derives : (s : Sym) → passes N flags s ≡ true → DerivesSome N s
    one_derives (Kind k) h = (k ∷ [], of_kind k)
    one_derives (Set g) h = in_set g (slice_get N.sets g) refl h
    one_derives (Rule r) h = sound r h

    pub all_derive : (ss : List Sym) → list_all (passes N flags) ss ≡ true → DerivesSomeSeq N ss
    all_derive [] h = ([], of_done)
    all_derive (s ∷ ss) h =
        let both = and_both (passes N flags s) (list_all (passes N flags) ss) h in
        let (u, d) = one_derives s both.0 in
        let (v, ds) = all_derive ss both.1 in
        (u ++ v, of_next s ss u v d ds)

    form_derives : (r : ℕ) (form : RuleForm) → slice_get N.rules r ≡ Some form → form_passes N flags form ≡ true → DerivesSome N (Rule r)
    form_derives r (RuleForm.regular alts) at h =
        let (alt, has, is) = some_one (list_all (passes N flags)) alts h in
        let (w, ds) = all_derive alt is in
        (w, of_regular r alts alt w at has ds)
    form_derives r (RuleForm.star s) at h = ([], of_star r s [] at (of_end s))
    form_derives r (RuleForm.opt s) at h = ([], of_absent r s at)
    form_derives r (RuleForm.plus s) at h =
        let (w, d) = one_derives s h in
        (w ++ [], of_plus r s w [] at d (of_end s))

    numbered_derives : (r : ℕ) (o : Option RuleForm) → slice_get N.rules r ≡ o → option_map_or (form_passes N flags) o false ≡ true → DerivesSome N (Rule r)
    numbered_derives r None at h = absurd (true≢false (sym h))
    numbered_derives r (Some form) at h = form_derives r form at h

  module _ (complete : (r : ℕ) (form : RuleForm) → slice_get N.rules r ≡ Some form → form_passes N flags form ≡ true → flag flags r ≡ true) where
    mutual
      one_passes : {s : Sym} {w : List ℕ} → NormalDerives N s w → passes N flags s ≡ true
      one_passes (of_kind k) = refl
      one_passes (of_set g k ks at c) = ap (λ o. option_map_or has_some o false) at ∙ filled ks k c
      one_passes (of_regular r alts alt w at c ds) = complete r (RuleForm.regular alts) at (one_of (list_all (passes N flags)) alts alt c (all_pass ds))
      one_passes (of_absent r s at) = complete r (RuleForm.opt s) at refl
      one_passes (of_present r s w at d) = complete r (RuleForm.opt s) at refl
      one_passes (of_star r s w at ds) = complete r (RuleForm.star s) at refl
      one_passes (of_plus r s u v at d ds) = complete r (RuleForm.plus s) at (one_passes d)

      all_pass : {ss : List Sym} {w : List ℕ} → NormalDerivesSeq N ss w → list_all (passes N flags) ss ≡ true
      all_pass of_done = refl
      all_pass (of_next s ss u v d ds) = from_both (passes N flags s) (list_all (passes N flags) ss) (one_passes d) (all_pass ds)

  -- Where the table says exactly which rules derive something, so do the tests by it.
  module _ (exact : AreProductive N flags) where
    by_table : (r : ℕ) (form : RuleForm) → slice_get N.rules r ≡ Some form → form_passes N flags form ≡ true → flag flags r ≡ true
    by_table r form at h = (exact r).1 (form_derives (λ q. (exact q).0) r form at h)

    pub one_exactly : (s : Sym) → (passes N flags s ≡ true) ↔ DerivesSome N s
    one_exactly s = (one_derives (λ r. (exact r).0) s, λ (w, d). one_passes by_table d)

    pub all_exactly : (ss : List Sym) → (list_all (passes N flags) ss ≡ true) ↔ DerivesSomeSeq N ss
    all_exactly ss = (all_derive (λ r. (exact r).0) ss, λ (w, ds). all_pass by_table ds)

module _ (N : NormalForm) where
  abbrev IsSound : List Bool → Type 0
  IsSound flags = (r : ℕ) → flag flags r ≡ true → DerivesSome N (Rule r)

  marked : (flags : List Bool) (n : ℕ) → numbered_passes N flags n ≡ true → IsSound flags → IsSound (slice_set flags n true)
  marked flags n h sound r e = elim (cases_eq r n) [
    | inl same ↦ subst (λ m. DerivesSome N (Rule m)) (sym same) (numbered_derives N flags sound n (slice_get N.rules n) refl h)
    | inr differ ↦ sound r (sym (get_or-set_other flags n r true false differ) ∙ e)
  ]

  are_sound : {flags : List Bool} → IsMarked (numbered_passes N) flags → IsSound flags
  are_sound (IsMarked.by_none flags none) = λ r h. absurd (true≢false (sym h ∙ none r))
  are_sound (IsMarked.by_one flags n before lt h) = marked flags n h (are_sound before)

  pub are_productive : (flags : List Bool) → IsMarked (numbered_passes N) flags → ((n : ℕ) → n < length N.rules → IsClosedAt (numbered_passes N) flags n)
      → AreProductive N flags
  are_productive flags marks closed r = (
    are_sound marks r,
    λ (w, d). one_passes N flags
        (λ q form at h. closed q (slice_get_within N.rules q form at) (ap (λ o. option_map_or (form_passes N flags) o false) at ∙ h)) d,
  )

-- alternatives that are read from a normal form
pub any_form : (p : List Sym → Bool) (alts : List (Vec Sym)) → list_any p (alts_form alts) ≡ list_any (λ (a : Vec Sym). p a.items) alts
any_form p [] = refl
any_form p (a ∷ alts) = ap (λ b. p a.items || b) (any_form p alts)
