-- The least table that is closed under the rules says exactly which of them derive the empty list.
use Rattle.std.proofs.Common.{◌≡◌, ◌⊎◌, inl, inr, ◌↔◌, ℕ, zero, suc, ◌+◌, ◌<◌, ◌≤◌, Bool, true, false, ◌||◌, ◌&&◌, List, [], ◌∷◌, ◌++◌, Option, Some, None}
use Rattle.std.proofs.Common.{length, take, drop, drop-cons, length-append, slice_get, slice_set, get_or-set_other, refl, sym, ap, ◌∙◌, subst, arith}
use Rattle.std.proofs.Common.{true≢false}
use Rattle.std.specs.Prelude.{if◌then◌else◌, nat_eq}
use Rattle.std.specs.Global.{Vec}
use Rattle.std.specs.List.{Contains, flat_map, list_all, list_any}
use Rattle.std.specs.Option.{option_map_or}
use Rattle.std.proofs.lemmas.Bool.{cases_Bool, cases_eq}
use Rattle.std.proofs.lemmas.Bool.Decides.{Decides-eqb}
use Rattle.std.proofs.lemmas.List.Elements.{Contains-append_left, Contains-append_right}
use Rattle.std.proofs.lemmas.List.{take-append-drop}
use Rattle.std.proofs.lemmas.Option.{slice_get_within}
use Rattle.grammar_check_nodes.specs.Flags.{flag}
use Rattle.grammar_check_nodes.specs.Marking.{IsClosedAt, IsMarked}
use Rattle.grammar_tree.proofs.Lent.{contains_cases, contains_filter, contains_none, filtered, flat_mapped}
use Rattle.normal_form.specs.declared.normal.Sym.{Sym}
use Rattle.normal_form.specs.declared.normal.Sym.TheVariants.{Kind, Set, Rule}
use Rattle.normal_form.specs.Form.{RuleForm, NormalForm}
use Rattle.normal_form.specs.NormalDerives.{NormalDerives, NormalDerivesSeq, of_kind, of_set, of_regular, of_absent}
use Rattle.normal_form.specs.NormalDerives.{of_present, of_star, of_plus, of_done, of_next, of_end}
use Rattle.normal_form.specs.View.{alts_form}
use Rattle.compat_table.specs.Fits.{CanBeAlone}
use Rattle.compat_table.specs.Nullable.{AreNullable, form_is_nullable, is_nullable, numbered_is_nullable}
use Rattle.compat_table.specs.inner.Rows.{lone_symbols, need, needed}

pub and_both : (b c : Bool) → (b && c) ≡ true → (b ≡ true) × (c ≡ true)
and_both true c e = (refl, e)
and_both false c e = absurd (true≢false (sym e))

pub or_one : (b c : Bool) → (b || c) ≡ true → (b ≡ true) ⊎ (c ≡ true)
or_one true c e = inl refl
or_one false c e = inr e

from_both : (b c : Bool) → b ≡ true → c ≡ true → (b && c) ≡ true
from_both b c e f = ap (λ x. x && c) e ∙ f

pub from_first : (b c : Bool) → b ≡ true → (b || c) ≡ true
from_first b c e = ap (λ x. x || c) e

pub from_second : (b c : Bool) → c ≡ true → (b || c) ≡ true
from_second true c e = refl
from_second false c e = e

module _ {X : Type 0} (p : X → Bool) where
  one_of : (xs : List X) (x : X) → Contains xs x → p x ≡ true → list_any p xs ≡ true
  one_of [] x (i, l, e) h = absurd (omega (arith, l))
  one_of (y ∷ xs) x (zero, l, e) h = from_first (p y) (list_any p xs) (ap p e ∙ h)
  one_of (y ∷ xs) x (suc i, l, e) h = from_second (p y) (list_any p xs) (one_of xs x (i, omega (arith, l), e) h)

  some_one : (xs : List X) → list_any p xs ≡ true → (x : X) × Contains xs x × (p x ≡ true)
  some_one [] h = absurd (true≢false (sym h))
  some_one (y ∷ xs) h = elim (or_one (p y) (list_any p xs) h) [
    | inl e ↦ (y, (0, omega arith, refl), e)
    | inr more ↦ let r = some_one xs more in (r.0, (suc r.1.0, omega (arith, r.1.1), r.1.2), r.2)
  ]

module _ (N : NormalForm) (nulls : ℕ → Bool) where
  module _ (sound : (r : ℕ) → nulls r ≡ true → NormalDerives N (Rule r) []) where
    one_derives : (s : Sym) → is_nullable nulls s ≡ true → NormalDerives N s []
    one_derives (Kind k) h = absurd (true≢false (sym h))
    one_derives (Set g) h = absurd (true≢false (sym h))
    one_derives (Rule r) h = sound r h

    all_derive : (ss : List Sym) → list_all (is_nullable nulls) ss ≡ true → NormalDerivesSeq N ss []
    all_derive [] h = of_done
    all_derive (s ∷ ss) h = let both =
        and_both (is_nullable nulls s) (list_all (is_nullable nulls) ss) h in of_next s ss [] [] (one_derives s both.0) (all_derive ss both.1)

    form_derives : (r : ℕ) (form : RuleForm) → slice_get N.rules r ≡ Some form → form_is_nullable nulls form ≡ true → NormalDerives N (Rule r) []
    form_derives r (RuleForm.regular alts) at h =
        let (alt, has, is) = some_one (list_all (is_nullable nulls)) alts h in
        of_regular r alts alt [] at has (all_derive alt is)
    form_derives r (RuleForm.star s) at h = of_star r s [] at (of_end s)
    form_derives r (RuleForm.opt s) at h = of_absent r s at
    form_derives r (RuleForm.plus s) at h = of_plus r s [] [] at (one_derives s h) (of_end s)

    pub numbered_derives : (r : ℕ) (o : Option RuleForm) → slice_get N.rules r ≡ o → option_map_or (form_is_nullable nulls) o false ≡ true
        → NormalDerives N (Rule r) []
    numbered_derives r None at h = absurd (true≢false (sym h))
    numbered_derives r (Some form) at h = form_derives r form at h

  module _ (complete : (r : ℕ) (form : RuleForm) → slice_get N.rules r ≡ Some form → form_is_nullable nulls form ≡ true → nulls r ≡ true) where
    mutual
      pub one_passes : {s : Sym} {w : List ℕ} → NormalDerives N s w → length w ≡ 0 → is_nullable nulls s ≡ true
      one_passes (of_kind k) e = absurd (omega (arith, e))
      one_passes (of_set g k ks at c) e = absurd (omega (arith, e))
      one_passes (of_regular r alts alt w at c ds) e = complete r (RuleForm.regular alts) at (one_of (list_all (is_nullable nulls)) alts alt c (all_pass ds e))
      one_passes (of_absent r s at) e = complete r (RuleForm.opt s) at refl
      one_passes (of_present r s w at d) e = complete r (RuleForm.opt s) at refl
      one_passes (of_star r s w at ds) e = complete r (RuleForm.star s) at refl
      one_passes (of_plus r s u v at d ds) e = complete r (RuleForm.plus s) at (one_passes d (omega (arith, e, length-append u v)))

      all_pass : {ss : List Sym} {w : List ℕ} → NormalDerivesSeq N ss w → length w ≡ 0 → list_all (is_nullable nulls) ss ≡ true
      all_pass of_done e = refl
      all_pass (of_next s ss u v d ds) e =
          from_both (is_nullable nulls s) (list_all (is_nullable nulls) ss) (one_passes d (omega (arith, e, length-append u v)))
          (all_pass ds (omega (arith, e, length-append u v)))

  -- Where the table says exactly which rules derive the empty list, so do the tests by it.
  module _ (exact : AreNullable N nulls) where
    by_table : (r : ℕ) (form : RuleForm) → slice_get N.rules r ≡ Some form → form_is_nullable nulls form ≡ true → nulls r ≡ true
    by_table r form at h = (exact r).1 (form_derives (λ q. (exact q).0) r form at h)

    pub is_exact : (s : Sym) → (is_nullable nulls s ≡ true) ↔ NormalDerives N s []
    is_exact s = (one_derives (λ r. (exact r).0) s, λ d. one_passes by_table d refl)

    pub all_exact : (ss : List Sym) → (list_all (is_nullable nulls) ss ≡ true) ↔ NormalDerivesSeq N ss []
    all_exact ss = (all_derive (λ r. (exact r).0) ss, λ ds. all_pass by_table ds refl)

    -- a symbol needs nothing exactly where it derives the empty list
    need_none : (s : Sym) → need nulls s ≡ 0 → is_nullable nulls s ≡ true
    need_none s e = elim (cases_Bool (is_nullable nulls s)) [
      | inl it ↦ it
      | inr other ↦ absurd (let one : need nulls s ≡ 1 = ap (λ b. if b then 0 else 1) other in omega (arith, one, e))
    ]

    need_one : (s : Sym) → is_nullable nulls s ≡ true → need nulls s ≡ 0
    need_one s h = ap (λ b. if b then 0 else 1) h

    nothing_of : (ss : List Sym) → needed nulls ss ≡ 0 → NormalDerivesSeq N ss []
    nothing_of [] e = of_done
    nothing_of (s ∷ ss) e = of_next s ss [] [] ((is_exact s).0 (need_none s (omega (arith, e)))) (nothing_of ss (omega (arith, e)))

    none_needed : (ss : List Sym) → list_all (is_nullable nulls) ss ≡ true → needed nulls ss ≡ 0
    none_needed [] h = refl
    none_needed (s ∷ ss) h =
        let both = and_both (is_nullable nulls s) (list_all (is_nullable nulls) ss) h in
        omega (arith, need_one s both.0, none_needed ss both.1)

    needed_append : (xs ys : List Sym) → needed nulls (xs ++ ys) ≡ needed nulls xs + needed nulls ys
    needed_append [] ys = omega arith
    needed_append (x ∷ xs) ys = omega (arith, needed_append xs ys)

    -- a symbol is among the lone ones of an alternative exactly where it is between symbols that derive the empty list
    abbrev IsBetween : List Sym → Sym → Type 0
    IsBetween alt t = (before : List Sym) × (after : List Sym) × (alt ≡ before ++ t ∷ after) × NormalDerivesSeq N before [] × NormalDerivesSeq N after []

    lone_in : (alt : List Sym) (t : Sym) → Contains (lone_symbols nulls alt) t → IsBetween alt t
    lone_in alt t c =
        let both = filtered (λ s. nat_eq (need nulls s) (needed nulls alt)) alt t c in
        let (i, lt, at) = both.0 in
        let before = take i alt in
        let after = drop (suc i) alt in
        let e : alt ≡ before ++ t ∷ after = sym (take-append-drop i alt) ∙ ap (λ l. before ++ l) (drop-cons alt i t lt ∙ ap (λ x. x ∷ after) at) in
        let same : need nulls t ≡ needed nulls alt = (Decides-eqb (need nulls t) (needed nulls alt)).0 both.1 in
        let whole : needed nulls alt ≡ needed nulls before + (need nulls t + needed nulls after) = ap (needed nulls) e ∙ needed_append before (t ∷ after) in
        (before, after, e, nothing_of before (omega (arith, same, whole)), nothing_of after (omega (arith, same, whole)))

    lone_of : (alt : List Sym) (t : Sym) → IsBetween alt t → Contains (lone_symbols nulls alt) t
    lone_of alt t (before, after, e, b, a) =
        let P : List Sym → Type 0 = λ l. Contains l t in
        let there : Contains alt t = subst P (sym e) (Contains-append_right before (t ∷ after) t (0, omega arith, refl)) in
        let whole : needed nulls alt ≡ needed nulls before + (need nulls t + needed nulls after) = ap (needed nulls) e ∙ needed_append before (t ∷ after) in
        let first = none_needed before ((all_exact before).1 b) in
        let last = none_needed after ((all_exact after).1 a) in
        let same : need nulls t ≡ needed nulls alt = omega (arith, whole, first, last) in
        contains_filter (λ s. nat_eq (need nulls s) (needed nulls alt)) alt t ((Decides-eqb (need nulls t) (needed nulls alt)).1 same) there

    pub alone_in : (alts : List (List Sym)) (t : Sym) → Contains (flat_map (lone_symbols nulls) alts) t → CanBeAlone N alts t
    alone_in alts t c =
        let (alt, has, lone) = flat_mapped (lone_symbols nulls) alts t c in
        let (before, after, e, b, a) = lone_in alt t lone in
        let P : List Sym → Type 0 = λ l. Contains alts l in
        record { before = before; after = after; there = subst P e has; nothing_before = b; nothing_after = a }

    among_all : (alts : List (List Sym)) (alt : List Sym) (t : Sym) → Contains alts alt → Contains (lone_symbols nulls alt) t
        → Contains (flat_map (lone_symbols nulls) alts) t
    among_all [] alt t has c = absurd (contains_none alt has)
    among_all (first ∷ alts) alt t has c = elim (contains_cases first alts alt has) [
      | inl same ↦
          let P : List Sym → Type 0 = λ l. Contains (lone_symbols nulls l) t in
          Contains-append_left (lone_symbols nulls first) (flat_map (lone_symbols nulls) alts) t (subst P (sym same) c)
      | inr later ↦ Contains-append_right (lone_symbols nulls first) (flat_map (lone_symbols nulls) alts) t (among_all alts alt t later c)
    ]

    pub alone_of : (alts : List (List Sym)) (t : Sym) → CanBeAlone N alts t → Contains (flat_map (lone_symbols nulls) alts) t
    alone_of alts t c =
        among_all alts (c.before ++ t ∷ c.after) t c.there (lone_of (c.before ++ t ∷ c.after) t (c.before, c.after, refl, c.nothing_before, c.nothing_after))

module _ (N : NormalForm) where
  abbrev IsSound : (ℕ → Bool) → Type 0
  IsSound nulls = (r : ℕ) → nulls r ≡ true → NormalDerives N (Rule r) []

  abbrev test : List Bool → ℕ → Bool
  test flags r = numbered_is_nullable N (flag flags) r

  marked : (flags : List Bool) (n : ℕ) → test flags n ≡ true → IsSound (flag flags) → IsSound (flag (slice_set flags n true))
  marked flags n h sound r e = elim (cases_eq r n) [
    | inl same ↦ subst (λ m. NormalDerives N (Rule m) []) (sym same) (numbered_derives N (flag flags) sound n (slice_get N.rules n) refl h)
    | inr differ ↦ sound r (sym (get_or-set_other flags n r true false differ) ∙ e)
  ]

  are_sound : {flags : List Bool} → IsMarked test flags → IsSound (flag flags)
  are_sound (IsMarked.by_none flags none) = λ r h. absurd (true≢false (sym h ∙ none r))
  are_sound (IsMarked.by_one flags n before lt h) = marked flags n h (are_sound before)

  pub are_nullable : (flags : List Bool) → IsMarked test flags → ((n : ℕ) → n < length N.rules → IsClosedAt test flags n) → AreNullable N (flag flags)
  are_nullable flags marks closed r = (
    are_sound marks r,
    λ d. one_passes N (flag flags)
        (λ q form at h. closed q (slice_get_within N.rules q form at) (ap (λ o. option_map_or (form_is_nullable (flag flags)) o false) at ∙ h)) d refl,
  )

-- no more symbols are needed than there are
pub needed_within : (nulls : ℕ → Bool) (ss : List Sym) → needed nulls ss ≤ length ss
needed_within nulls [] = omega arith
needed_within nulls (s ∷ ss) = omega (arith, one (is_nullable nulls s), needed_within nulls ss)
  where
    one : (b : Bool) → (if b then 0 else 1) ≤ 1
    one true = omega arith
    one false = omega arith

-- alternatives that are read from a normal form
pub any_form : (p : List Sym → Bool) (alts : List (Vec Sym)) → list_any p (alts_form alts) ≡ list_any (λ (a : Vec Sym). p a.items) alts
any_form p [] = refl
any_form p (a ∷ alts) = ap (λ b. p a.items || b) (any_form p alts)
