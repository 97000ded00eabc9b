-- The plain functions say of each rule whether it derives the empty list, and of each symbol
-- whether it fits a slot. Rules are let in one after another, as in Warshall's algorithm.
use Rattle.std.proofs.Common.{◌≡◌, ◌⊎◌, inl, inr, ℕ, zero, suc, ◌<◌, Bool, true, false, ◌&&◌, ◌||◌, List, [], ◌∷◌, ◌++◌, Option, Some}
use Rattle.std.proofs.Common.{None, length, slice_get, refl, sym, ap, ◌∙◌, subst, arith, true≢false, eq-eqb}
use Rattle.std.specs.Prelude.{nat_eq}
use Rattle.std.specs.Bool.{Decides}
use Rattle.std.specs.List.{Contains, list_all, list_any}
use Rattle.std.specs.Option.{option_map_or}
use Rattle.std.proofs.lemmas.Bool.{cases_eq, eqb-true}
use Rattle.std.proofs.lemmas.Bool.Decides.{Decides-and, Decides-like, Decides-or}
use Rattle.std.proofs.lemmas.Option.{none-some, slice_get_within}
use Rattle.grammar_tree.proofs.Lent.{contains_cases, contains_first, elements_contains_later as contains_later, contains_none}
use Rattle.normal_form.specs.declared.normal.Sym.{Sym}
use Rattle.normal_form.specs.declared.normal.Sym.TheVariants.{Kind, Set, Rule}
use Rattle.normal_form.specs.Form.{RuleForm, NormalForm}
use Rattle.normal_form.specs.NormalDerives.{NormalDerives, NormalDerivesSeq, of_done, of_next}
use Rattle.compat_table.specs.Fits.{Fits, itself, in_set, by_alternative, by_plus, in_star}
use Rattle.compat_table.specs.Nullable.{form_is_nullable, is_nullable, numbered_is_nullable}
use Rattle.compat_table.proofs.Lent.{all_exact, and_both, from_first, from_second, is_exact, numbered_derives, one_passes, or_one, Passes, pass_on}
use Rattle.descend_replace.specs.Compatible.{FitsIsDecided, FitsOrNot}
use Rattle.descend_replace.specs.FitsIn.{FitsInDecides, NullableInDecides, are_plus_and_star, fits_at_once, fits_by, fits_in, has_kind, is_in_set}
use Rattle.descend_replace.specs.FitsIn.{is_in_star, is_same, nullable_by, nullable_in, passes_alone, passes_in_rule, with_rule}

never : {A : Type 0} → (¬ A) → Decides false A
never none = (λ e. absurd (true≢false (sym e)), λ x. absurd (none x))

same_decides : (s t : Sym) → Decides (is_same s t) (s ≡ t)
same_decides (Kind a) (Kind b) = (λ e. ap Kind (eqb-true a b e), λ (e : Kind a ≡ Kind b). let f : a ≡ b = cc in eq-eqb a b f)
same_decides (Set a) (Set b) = (λ e. ap Set (eqb-true a b e), λ (e : Set a ≡ Set b). let f : a ≡ b = cc in eq-eqb a b f)
same_decides (Rule a) (Rule b) = (λ e. ap Rule (eqb-true a b e), λ (e : Rule a ≡ Rule b). let f : a ≡ b = cc in eq-eqb a b f)
same_decides (Kind a) (Set b) = never (λ (e : Kind a ≡ Set b). cc)
same_decides (Kind a) (Rule b) = never (λ (e : Kind a ≡ Rule b). cc)
same_decides (Set a) (Kind b) = never (λ (e : Set a ≡ Kind b). cc)
same_decides (Set a) (Rule b) = never (λ (e : Set a ≡ Rule b). cc)
same_decides (Rule a) (Kind b) = never (λ (e : Rule a ≡ Kind b). cc)
same_decides (Rule a) (Set b) = never (λ (e : Rule a ≡ Set b). cc)

kind_decides : (k : ℕ) (xs : List ℕ) → Decides (has_kind k xs) (Contains xs k)
kind_decides k [] = never (contains_none k)
kind_decides k (x ∷ xs) =
    Decides-like (has_kind k (x ∷ xs)) there (contains_cases x xs k) (Decides-or (nat_eq x k) (has_kind k xs) (eqb-true x k, eq-eqb x k) (kind_decides k xs))
  where
    there : (x ≡ k) ⊎ Contains xs k → Contains (x ∷ xs) k
    there (inl same) = contains_first x xs k same
    there (inr later) = contains_later x xs k later

-- Which rules derive the empty list.
module _ (N : NormalForm) where
  -- what is known stays
  known_stays : (n : ℕ) (known : ℕ → Bool) (r : ℕ) → known r ≡ true → nullable_by n N known r ≡ true
  known_stays zero known r e = e
  known_stays (suc n) known r e =
      known_stays n (with_rule n (numbered_is_nullable N (nullable_by n N known) n) known) r (stays (numbered_is_nullable N (nullable_by n N known) n))
    where
      stays : (b : Bool) → with_rule n b known r ≡ true
      stays true = from_second (nat_eq r n) (known r) e
      stays false = e

  abbrev IsSound : (ℕ → Bool) → Type 0
  IsSound nulls = (r : ℕ) → nulls r ≡ true → NormalDerives N (Rule r) []

  with_sound : (n : ℕ) (known : ℕ → Bool) (b : Bool) → (b ≡ true → NormalDerives N (Rule n) []) → IsSound known → IsSound (with_rule n b known)
  with_sound n known true own sound r e = elim (or_one (nat_eq r n) (known r) e) [
    | inl same ↦ subst (λ (m : ℕ). NormalDerives N (Rule m) []) (sym (eqb-true r n same)) (own refl)
    | inr before ↦ sound r before
  ]
  with_sound n known false own sound r e = sound r e

  sound_by : (n : ℕ) (known : ℕ → Bool) → IsSound known → IsSound (nullable_by n N known)
  sound_by zero known sound = sound
  sound_by (suc n) known sound =
      let test = numbered_is_nullable N (nullable_by n N known) n in
      sound_by n (with_rule n test known) (with_sound n known test
      (λ h. numbered_derives N (nullable_by n N known) (sound_by n known sound) n (slice_get N.rules n) refl h) sound)

  -- the rule that is let in last
  last_closed : (n : ℕ) (known : ℕ → Bool) (b : Bool) → b ≡ numbered_is_nullable N (nullable_by n N known) n
      → numbered_is_nullable N (nullable_by n N (with_rule n b known)) n ≡ true → nullable_by n N (with_rule n b known) n ≡ true
  last_closed n known true e h = known_stays n (with_rule n true known) n (from_first (nat_eq n n) (known n) (eq-eqb n n refl))
  last_closed n known false e h = absurd (true≢false (sym h ∙ sym e))

  closed_by : (n : ℕ) (known : ℕ → Bool) (r : ℕ) → r < n → numbered_is_nullable N (nullable_by n N known) r ≡ true → nullable_by n N known r ≡ true
  closed_by zero known r lt e = absurd (omega (arith, lt))
  closed_by (suc n) known r lt e =
      let test = numbered_is_nullable N (nullable_by n N known) n in
      let nulls : ℕ → Bool = nullable_by n N (with_rule n test known) in
      elim (cases_eq r n) [
        | inl same ↦ subst (λ (m : ℕ). nulls m ≡ true) (sym same)
            (last_closed n known test refl (subst (λ (m : ℕ). numbered_is_nullable N nulls m ≡ true) same e))
        | inr other ↦ closed_by n (with_rule n test known) r (omega (arith, lt, other)) e
      ]

pub nullable_decides : NullableInDecides
unfolding nullable_in
nullable_decides N r =
    let nulls : ℕ → Bool = nullable_by (length N.rules) N (λ q. false) in (
      sound_by N (length N.rules) (λ q. false) (λ q e. absurd (true≢false (sym e))) r,
      λ d. one_passes N nulls
          (λ q form at h. closed_by N (length N.rules) (λ p. false) q (slice_get_within N.rules q form at)
          (ap (λ (o : Option RuleForm). option_map_or (form_is_nullable nulls) o false) at ∙ h)) d refl,
    )

-- The symbol fits the slot by steps from rules below the bound to their symbols, and then at once.
data FitsBelow (N : NormalForm) (AtOnce : Sym → Sym → Type 0) (bound : ℕ) : Sym → Sym → Type 0 where
  at_once : (s t : Sym) → AtOnce s t → FitsBelow N AtOnce bound s t
  by_rule : (s t : Sym) (r : ℕ) → r < bound → Passes N r t → FitsBelow N AtOnce bound s t → FitsBelow N AtOnce bound s (Rule r)

abbrev Same : Sym → Sym → Type 0
Same s t = s ≡ t

abbrev InSet : NormalForm → Sym → Sym → Type 0
InSet N s t = (k : ℕ) × (i : ℕ) × (ks : List ℕ) × (s ≡ Kind k) × (t ≡ Set i) × (slice_get N.sets i ≡ Some ks) × Contains ks k

abbrev InStar : NormalForm → Sym → Sym → Type 0
InStar N s t =
    (p : ℕ) × (r : ℕ) × (u : Sym) × (s ≡ Rule p) × (t ≡ Rule r) × (slice_get N.rules p ≡ Some (RuleForm.plus u))
    × (slice_get N.rules r ≡ Some (RuleForm.star u))

-- without a step
abbrev Once : NormalForm → Sym → Sym → Type 0
Once N s t = (s ≡ t) ⊎ (InSet N s t ⊎ InStar N s t)

module _ (N : NormalForm) where
  once_fits : (s t : Sym) → Once N s t → Fits N s t
  once_fits s t (inl same) = subst (λ (x : Sym). Fits N s x) same (itself s)
  once_fits s t (inr (inl (k, i, ks, e, f, at, has))) =
      subst (λ (x : Sym). Fits N x t) (sym e) (subst (λ (y : Sym). Fits N (Kind k) y) (sym f) (in_set k i ks at has))
  once_fits s t (inr (inr (p, r, u, e, f, plus, star))) =
      subst (λ (x : Sym). Fits N x t) (sym e) (subst (λ (y : Sym). Fits N (Rule p) y) (sym f) (in_star u p r plus star))

  from_below : (bound : ℕ) (s t : Sym) → FitsBelow N (Once N) bound s t → Fits N s t
  from_below bound s t (at_once s' t' once) = once_fits s t once
  from_below bound s t (by_rule s' u r lt passes f) = pass_on N s u r passes (from_below bound s u f)

  to_below : (s t : Sym) → Fits N s t → FitsBelow N (Once N) (length N.rules) s t
  to_below s t (itself s') = at_once s s (inl refl)
  to_below s t (in_set k i ks at has) = at_once (Kind k) (Set i) (inr (inl (k, i, ks, refl, refl, at, has)))
  to_below s t (by_alternative s' u r alts at alone f) =
      by_rule s u r (slice_get_within N.rules r (RuleForm.regular alts) at) (inl (alts, at, alone)) (to_below s u f)
  to_below s t (by_plus s' u r at f) = by_rule s u r (slice_get_within N.rules r (RuleForm.plus u) at) (inr at) (to_below s u f)
  to_below s t (in_star u p r plus star) = at_once (Rule p) (Rule r) (inr (inr (p, r, u, refl, refl, plus, star)))

  module _ (AtOnce : Sym → Sym → Type 0) where
    -- The symbol fits one for which what fits it fits the rule.
    abbrev ByRule : ℕ → ℕ → Sym → Type 0
    ByRule bound r s = (t : Sym) × Passes N r t × FitsBelow N AtOnce bound s t

    plainly : (s t : Sym) → FitsBelow N AtOnce zero s t → AtOnce s t
    plainly s t (at_once s' t' once) = once
    plainly s t (by_rule s' u r lt passes f) = absurd (omega (arith, lt))

    through : (bound : ℕ) (s t u : Sym) → FitsBelow N AtOnce bound s t → FitsBelow N Same bound t u → FitsBelow N AtOnce bound s u
    through bound s t u f (at_once t' u' same) = subst (λ (x : Sym). FitsBelow N AtOnce bound s x) same f
    through bound s t u f (by_rule t' v r lt passes g) = by_rule s v r lt passes (through bound s t v f g)

    -- With one rule more, what fits a slot fits it without that rule, or it fits a symbol of the rule, to which steps lead from the slot.
    abbrev Split : ℕ → Sym → Sym → Type 0
    Split bound s t = FitsBelow N AtOnce bound s t ⊎ (FitsBelow N Same bound (Rule bound) t × ByRule bound bound s)

    split_rule : (bound : ℕ) (s u : Sym) (r : ℕ) → r < suc bound → Passes N r u → Split bound s u → Split bound s (Rule r)
    split_rule bound s u r lt passes both = elim (cases_eq r bound) [
      | inl same ↦ inr (
        at_once (Rule bound) (Rule r) (ap Rule (sym same)),
        elim both [
          | inl f ↦ (u, subst (λ (q : ℕ). Passes N q u) same passes, f)
          | inr by ↦ by.1
        ],
      )
      | inr other ↦
          let below : r < bound = omega (arith, lt, other) in
          elim both [
            | inl f ↦ inl (by_rule s u r below passes f)
            | inr by ↦ inr (by_rule (Rule bound) u r below passes by.0, by.1)
          ]
    ]

    split : (bound : ℕ) (s t : Sym) → FitsBelow N AtOnce (suc bound) s t → Split bound s t
    split bound s t (at_once s' t' once) = inl (at_once s t once)
    split bound s t (by_rule s' u r lt passes f) = split_rule bound s u r lt passes (split bound s u f)

  -- with one rule more
  more : (AtOnce : Sym → Sym → Type 0) (bound : ℕ) (s t : Sym) → FitsBelow N AtOnce bound s t → FitsBelow N AtOnce (suc bound) s t
  more AtOnce bound s t (at_once s' t' once) = at_once s t once
  more AtOnce bound s t (by_rule s' u r lt passes f) = by_rule s u r (omega (arith, lt)) passes (more AtOnce bound s u f)

  join : (AtOnce : Sym → Sym → Type 0) (bound : ℕ) (s t : Sym) → Split AtOnce bound s t → FitsBelow N AtOnce (suc bound) s t
  join AtOnce bound s t (inl f) = more AtOnce bound s t f
  join AtOnce bound s t (inr (g, by)) =
      through AtOnce (suc bound) s (Rule bound) t (by_rule s by.0 bound (omega arith) by.1 (more AtOnce bound s by.0 by.2)) (more Same bound (Rule bound) t g)

  -- Without a step: the symbol itself, the kinds of a set, and the pluses of a star.
  in_set_at : (k i : ℕ) (o : Option (List ℕ)) → slice_get N.sets i ≡ o → Decides (option_map_or (has_kind k) o false) (InSet N (Kind k) (Set i))
  in_set_at k i None e = never (λ (k', i', ks, is, at_i, at, has). let same : i ≡ i' = cc in none-some ks (sym e ∙ ap (slice_get N.sets) same ∙ at))
  in_set_at k i (Some ks) e = Decides-like (has_kind k ks) (λ has. (k, i, ks, refl, refl, e, has)) is_in (kind_decides k ks)
    where
      is_in : InSet N (Kind k) (Set i) → Contains ks k
      is_in (k', i', ks', is, at_i, at, has) =
          let same : i ≡ i' = cc in
          let kind : k' ≡ k = cc in
          let both : Some ks ≡ Some ks' = sym e ∙ ap (slice_get N.sets) same ∙ at in
          let list : ks' ≡ ks = cc in
          subst (λ (x : ℕ). Contains ks x) kind (subst (λ (l : List ℕ). Contains l k') list has)

  set_decides : (s t : Sym) → Decides (is_in_set N s t) (InSet N s t)
  set_decides (Kind k) (Set i) = in_set_at k i (slice_get N.sets i) refl
  set_decides (Kind k) (Kind j) = never (λ (k', i, ks, e, f, at, has). cc)
  set_decides (Kind k) (Rule r) = never (λ (k', i, ks, e, f, at, has). cc)
  set_decides (Set i) t = never (λ (k, i', ks, e, f, at, has). cc)
  set_decides (Rule r) t = never (λ (k, i', ks, e, f, at, has). cc)

  -- the forms of the two rules
  forms_there : (p r : ℕ) → InStar N (Rule p) (Rule r) → (u : Sym) × (slice_get N.rules p ≡ Some (RuleForm.plus u))
      × (slice_get N.rules r ≡ Some (RuleForm.star u))
  forms_there p r (p', r', u, e, f, plus, star) =
      let first : p' ≡ p = cc in
      let second : r' ≡ r = cc in (
        u,
        subst (λ (x : ℕ). slice_get N.rules x ≡ Some (RuleForm.plus u)) first plus,
        subst (λ (x : ℕ). slice_get N.rules x ≡ Some (RuleForm.star u)) second star,
      )

  star_at : (p r : ℕ) (o q : Option RuleForm) → slice_get N.rules p ≡ o → slice_get N.rules r ≡ q → Decides (are_plus_and_star o q) (InStar N (Rule p) (Rule r))
  star_at p r None q e f = never (λ it. let (u, plus, star) = forms_there p r it in none-some (RuleForm.plus u) (sym e ∙ plus))
  star_at p r (Some (RuleForm.regular alts)) q e f =
      never (λ it. let (u, plus, star) = forms_there p r it in let both : Some (RuleForm.regular alts) ≡ Some (RuleForm.plus u) = sym e ∙ plus in cc)
  star_at p r (Some (RuleForm.star x)) q e f =
      never (λ it. let (u, plus, star) = forms_there p r it in let both : Some (RuleForm.star x) ≡ Some (RuleForm.plus u) = sym e ∙ plus in cc)
  star_at p r (Some (RuleForm.opt x)) q e f =
      never (λ it. let (u, plus, star) = forms_there p r it in let both : Some (RuleForm.opt x) ≡ Some (RuleForm.plus u) = sym e ∙ plus in cc)
  star_at p r (Some (RuleForm.plus x)) None e f = never (λ it. let (u, plus, star) = forms_there p r it in none-some (RuleForm.star u) (sym f ∙ star))
  star_at p r (Some (RuleForm.plus x)) (Some (RuleForm.regular alts)) e f =
      never (λ it. let (u, plus, star) = forms_there p r it in let both : Some (RuleForm.regular alts) ≡ Some (RuleForm.star u) = sym f ∙ star in cc)
  star_at p r (Some (RuleForm.plus x)) (Some (RuleForm.plus y)) e f =
      never (λ it. let (u, plus, star) = forms_there p r it in let both : Some (RuleForm.plus y) ≡ Some (RuleForm.star u) = sym f ∙ star in cc)
  star_at p r (Some (RuleForm.plus x)) (Some (RuleForm.opt y)) e f =
      never (λ it. let (u, plus, star) = forms_there p r it in let both : Some (RuleForm.opt y) ≡ Some (RuleForm.star u) = sym f ∙ star in cc)
  star_at p r (Some (RuleForm.plus x)) (Some (RuleForm.star y)) e f = Decides-like (is_same x y) there back (same_decides x y)
    where
      there : x ≡ y → InStar N (Rule p) (Rule r)
      there same = (p, r, y, refl, refl, subst (λ (z : Sym). slice_get N.rules p ≡ Some (RuleForm.plus z)) same e, f)

      back : InStar N (Rule p) (Rule r) → x ≡ y
      back it =
          let (u, plus, star) = forms_there p r it in
          let first : Some (RuleForm.plus x) ≡ Some (RuleForm.plus u) = sym e ∙ plus in
          let second : Some (RuleForm.star y) ≡ Some (RuleForm.star u) = sym f ∙ star in
          cc

  star_decides : (s t : Sym) → Decides (is_in_star N s t) (InStar N s t)
  star_decides (Rule p) (Rule r) = star_at p r (slice_get N.rules p) (slice_get N.rules r) refl refl
  star_decides (Rule p) (Kind k) = never (λ (p', r, u, e, f, plus, star). cc)
  star_decides (Rule p) (Set i) = never (λ (p', r, u, e, f, plus, star). cc)
  star_decides (Kind k) t = never (λ (p, r, u, e, f, plus, star). cc)
  star_decides (Set i) t = never (λ (p, r, u, e, f, plus, star). cc)

  once_decides : (s t : Sym) → Decides (fits_at_once N s t) (Once N s t)
  once_decides s t =
      Decides-or (is_same s t) (is_in_set N s t || is_in_star N s t) (same_decides s t)
      (Decides-or (is_in_set N s t) (is_in_star N s t) (set_decides s t) (star_decides s t))

  -- whether a symbol derives the empty list
  abbrev empty : Sym → Bool
  empty = is_nullable (nullable_in N)

  module _ (AtOnce : Sym → Sym → Type 0) (bound : ℕ) (s : Sym) (test : Sym → Bool) (known : (t : Sym) → Decides (test t) (FitsBelow N AtOnce bound s t)) where
    -- The symbol fits one of the sequence, while all others there derive the empty list.
    abbrev FitsAlone : List Sym → Type 0
    FitsAlone alt =
        (t : Sym) × (before : List Sym) × (after : List Sym) × (alt ≡ before ++ t ∷ after) × NormalDerivesSeq N before [] × NormalDerivesSeq N after []
        × FitsBelow N AtOnce bound s t

    alone_decides : (alt : List Sym) → Decides (passes_alone empty test alt) (FitsAlone alt)
    alone_decides [] = never none
      where
        none : FitsAlone [] → ⊥
        none (t, [], after, e, b, a, f) = cc
        none (t, x ∷ before, after, e, b, a, f) = cc
    alone_decides (u ∷ us) =
        Decides-like (passes_alone empty test (u ∷ us)) there back
        (Decides-or (test u && list_all empty us) (empty u && passes_alone empty test us)
        (Decides-and (test u) (list_all empty us) (known u) (all_exact N (nullable_in N) (nullable_decides N) us))
        (Decides-and (empty u) (passes_alone empty test us) (is_exact N (nullable_in N) (nullable_decides N) u) (alone_decides us)))
      where
        there : (FitsBelow N AtOnce bound s u × NormalDerivesSeq N us []) ⊎ (NormalDerives N u [] × FitsAlone us) → FitsAlone (u ∷ us)
        there (inl (f, rest)) = (u, [], us, refl, of_done, rest, f)
        there (inr (d, (t, before, after, e, b, a, f))) = (t, u ∷ before, after, ap (λ (l : List Sym). u ∷ l) e, of_next u before [] [] d b, a, f)

        back : FitsAlone (u ∷ us) → (FitsBelow N AtOnce bound s u × NormalDerivesSeq N us []) ⊎ (NormalDerives N u [] × FitsAlone us)
        back (t, [], after, e, b, a, f) =
            let first : t ≡ u = cc in
            let rest : after ≡ us = cc in
            inl (subst (λ (x : Sym). FitsBelow N AtOnce bound s x) first f, subst (λ (l : List Sym). NormalDerivesSeq N l []) rest a)
        back (t, x ∷ before, after, e, b, a, f) =
            let first : x ≡ u = cc in
            let rest : us ≡ before ++ t ∷ after = cc in
            let exact = nullable_decides N in
            let both = and_both (empty x) (list_all empty before) ((all_exact N (nullable_in N) exact (x ∷ before)).1 b) in
            inr (
              subst (λ (y : Sym). NormalDerives N y []) first ((is_exact N (nullable_in N) exact x).0 both.0),
              (t, before, after, rest, (all_exact N (nullable_in N) exact before).0 both.1, a, f),
            )

    -- The symbol fits so in one of the alternatives.
    abbrev FitsOne : List (List Sym) → Type 0
    FitsOne alts = (alt : List Sym) × Contains alts alt × FitsAlone alt

    one_decides : (alts : List (List Sym)) → Decides (list_any (passes_alone empty test) alts) (FitsOne alts)
    one_decides [] = never (λ (alt, has, it). contains_none alt has)
    one_decides (alt ∷ alts) =
        Decides-like (list_any (passes_alone empty test) (alt ∷ alts)) there back
        (Decides-or (passes_alone empty test alt) (list_any (passes_alone empty test) alts) (alone_decides alt) (one_decides alts))
      where
        there : FitsAlone alt ⊎ FitsOne alts → FitsOne (alt ∷ alts)
        there (inl it) = (alt, contains_first alt alts alt refl, it)
        there (inr (other, has, it)) = (other, contains_later alt alts other has, it)

        back : FitsOne (alt ∷ alts) → FitsAlone alt ⊎ FitsOne alts
        back (other, has, it) = elim (contains_cases alt alts other has) [ inl same ↦ inl (subst FitsAlone (sym same) it) | inr later ↦ inr (other, later, it) ]

    regular_decides : (r : ℕ) (alts : List (List Sym)) → slice_get N.rules r ≡ Some (RuleForm.regular alts)
        → Decides (list_any (passes_alone empty test) alts) (ByRule AtOnce bound r s)
    regular_decides r alts e = Decides-like (list_any (passes_alone empty test) alts) there back (one_decides alts)
      where
        there : FitsOne alts → ByRule AtOnce bound r s
        there (alt, has, (t, before, after, same, b, a, f)) = (
          t,
          inl (
            alts,
            e,
            record {
              before = before;
              after = after;
              there = subst (λ (l : List Sym). Contains alts l) same has;
              nothing_before = b;
              nothing_after = a;
            },
          ),
          f,
        )

        back : ByRule AtOnce bound r s → FitsOne alts
        back (t, inl (alts', at, alone), f) =
            let both : Some (RuleForm.regular alts) ≡ Some (RuleForm.regular alts') = sym e ∙ at in
            let same : alts' ≡ alts = cc in (
              alone.before ++ t ∷ alone.after,
              subst (λ (l : List (List Sym)). Contains l (alone.before ++ t ∷ alone.after)) same alone.there,
              (t, alone.before, alone.after, refl, alone.nothing_before, alone.nothing_after, f),
            )
        back (t, inr at, f) = absurd (let both : Some (RuleForm.regular alts) ≡ Some (RuleForm.plus t) = sym e ∙ at in cc)

    plus_decides : (r : ℕ) (u : Sym) → slice_get N.rules r ≡ Some (RuleForm.plus u) → Decides (test u) (ByRule AtOnce bound r s)
    plus_decides r u e = Decides-like (test u) (λ f. (u, inr e, f)) back (known u)
      where
        back : ByRule AtOnce bound r s → FitsBelow N AtOnce bound s u
        back (t, inl (alts, at, alone), f) = absurd (let both : Some (RuleForm.plus u) ≡ Some (RuleForm.regular alts) = sym e ∙ at in cc)
        back (t, inr at, f) =
            let both : Some (RuleForm.plus u) ≡ Some (RuleForm.plus t) = sym e ∙ at in
            let same : t ≡ u = cc in
            subst (λ (x : Sym). FitsBelow N AtOnce bound s x) same f

    -- no step from a rule of another form
    no_step : (r : ℕ) (o : Option RuleForm) → slice_get N.rules r ≡ o → ((alts : List (List Sym)) → o ≡ Some (RuleForm.regular alts) → ⊥)
        → ((u : Sym) → o ≡ Some (RuleForm.plus u) → ⊥) → ByRule AtOnce bound r s → ⊥
    no_step r o e regular plus (t, inl (alts, at, alone), f) = regular alts (sym e ∙ at)
    no_step r o e regular plus (t, inr at, f) = plus t (sym e ∙ at)

    by_form : (r : ℕ) (o : Option RuleForm) → slice_get N.rules r ≡ o → Decides (passes_in_rule empty test o) (ByRule AtOnce bound r s)
    by_form r None e = never (no_step r None e (λ alts f. none-some (RuleForm.regular alts) f) (λ u f. none-some (RuleForm.plus u) f))
    by_form r (Some (RuleForm.regular alts)) e = regular_decides r alts e
    by_form r (Some (RuleForm.plus u)) e = plus_decides r u e
    by_form r (Some (RuleForm.star x)) e =
        never (no_step r (Some (RuleForm.star x)) e (λ alts (f : Some (RuleForm.star x) ≡ Some (RuleForm.regular alts)). cc)
        (λ u (f : Some (RuleForm.star x) ≡ Some (RuleForm.plus u)). cc))
    by_form r (Some (RuleForm.opt x)) e =
        never (no_step r (Some (RuleForm.opt x)) e (λ alts (f : Some (RuleForm.opt x) ≡ Some (RuleForm.regular alts)). cc)
        (λ u (f : Some (RuleForm.opt x) ≡ Some (RuleForm.plus u)). cc))

  below_decides : (AtOnce : Sym → Sym → Type 0) (test : Sym → Sym → Bool) → ((s t : Sym) → Decides (test s t) (AtOnce s t)) → (bound : ℕ) (s t : Sym)
      → Decides (fits_by test bound N s t) (FitsBelow N AtOnce bound s t)
  below_decides AtOnce test decided zero s t = Decides-like (test s t) (λ once. at_once s t once) (plainly AtOnce s t) (decided s t)
  below_decides AtOnce test decided (suc bound) s t =
      let rule : Bool = passes_in_rule empty (fits_by test bound N s) (slice_get N.rules bound) in
      Decides-like (fits_by test (suc bound) N s t) (join AtOnce bound s t) (split AtOnce bound s t)
      (Decides-or (fits_by test bound N s t) (fits_by is_same bound N (Rule bound) t && rule) (below_decides AtOnce test decided bound s t)
      (Decides-and (fits_by is_same bound N (Rule bound) t) rule (below_decides Same is_same same_decides bound (Rule bound) t)
      (by_form AtOnce bound s (fits_by test bound N s) (below_decides AtOnce test decided bound s) bound (slice_get N.rules bound) refl)))

pub decides : FitsInDecides
unfolding fits_in
decides N s t =
    Decides-like (fits_by (fits_at_once N) (length N.rules) N s t) (from_below N (length N.rules) s t) (to_below N s t)
    (below_decides N (Once N) (fits_at_once N) (once_decides N) (length N.rules) s t)

pub decided : FitsIsDecided
decided N s t = step (fits_in N s t) (decides N s t)
  where
    step : (b : Bool) → Decides b (Fits N s t) → FitsOrNot N s t
    step true d = inl (d.0 refl)
    step false d = inr (λ f. true≢false (sym (d.1 f)))
