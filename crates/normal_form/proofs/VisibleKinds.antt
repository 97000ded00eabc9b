-- The kinds of the sets of a normal form.
use Rattle.std.proofs.Common.{◌≡◌, ◌⊎◌, inl, inr, ℕ, zero, suc, ◌+◌, ◌<◌, Bool, true, false, List, [], ◌∷◌, Option, Some}
use Rattle.std.proofs.Common.{None, slice_get, slice_index, refl, sym, ap, ◌∙◌, subst, arith, true≢false}
use Rattle.std.specs.List.{Contains, flat_map}
use Rattle.std.specs.List.Sorted.{IsStrictlyIncreasing}
use Rattle.std.specs.Prelude.{filter, not}
use Rattle.std.proofs.lemmas.List.Elements.{Contains-append_cases, Contains-get_or}
use Rattle.grammar_tree.specs.Written.{WrittenTerm, WrittenSeq, WrittenAlts, ParserRule, WrittenGrammar, Source, TokenKind}
use Rattle.grammar_tree.specs.Kinds.{any_kinds, distinct, kinds_of, literal_kind, name_kind, other_kinds, parser_rules, rule_number, same_text, visible_from}
use Rattle.grammar_tree.specs.Derives.{Alts, bodies, resolved, resolved_seq, resolved_alts}
use Rattle.grammar_tree.proofs.Lent.{contains_none, contains_first, elements_contains_later as contains_later}
use Rattle.grammar_tree.proofs.Lent.{contains_cases, filtered, flat_mapped, mapped, contains_at}
use Rattle.grammar_names.specs.KindLists.{IsPartOf, is_in}
use Rattle.normal_form.specs.NormalOf.{alts_sets, normal_of, seq_sets, sets_of, term_sets}
use Rattle.normal_form.specs.Form.{NormalForm}
use Rattle.normal_form.specs.FormLaws.{AreVisibleKinds, PartsAreVisible, PartsAreVisibleKinds, SetsAreVisibleKinds}
use Rattle.normal_form_sets.proofs.Lent.{all_part, kept_part, none_part, part_rises}
use Rattle.normal_form.proofs.Lists.{Contains-only}
use Rattle.grammar_check_recursion.proofs.Lent.{kind_term, name_term}

-- a number of a kind that isn't a gap kind, where the first kind has the number n
abbrev IsVisible : ℕ → List TokenKind → ℕ → Type 0
IsVisible n kinds k = (i : ℕ) × (k ≡ n + i) × ((kind : TokenKind) × (slice_get kinds i ≡ Some kind) × (kind.gap ≡ false))

later_visible : (n k : ℕ) (kind : TokenKind) (kinds : List TokenKind) → IsVisible (suc n) kinds k → IsVisible n (kind ∷ kinds) k
later_visible n k kind kinds (i, e, it) = (suc i, omega (arith, e), it)

first_visible : (n k : ℕ) (name : List ℕ) (gap : Bool) (source : Source) (kinds : List TokenKind)
    → (Contains (visible_from (suc n) kinds) k → IsVisible (suc n) kinds k) →
    Contains (visible_from n (record { name = name; gap = gap; source = source } ∷ kinds)) k
    → IsVisible n (record { name = name; gap = gap; source = source } ∷ kinds) k
first_visible n k name true source kinds more c = later_visible n k (record { name = name; gap = true; source = source }) kinds (more c)
first_visible n k name false source kinds more c = go (contains_cases n (visible_from (suc n) kinds) k c)
  where
    go : (n ≡ k) ⊎ Contains (visible_from (suc n) kinds) k → IsVisible n (record { name = name; gap = false; source = source } ∷ kinds) k
    go (inl e) = (0, omega (arith, e), (record { name = name; gap = false; source = source }, refl, refl))
    go (inr d) = later_visible n k (record { name = name; gap = false; source = source }) kinds (more d)

visible_is : (n : ℕ) (kinds : List TokenKind) (k : ℕ) → Contains (visible_from n kinds) k → IsVisible n kinds k
visible_is n [] k c = absurd (contains_none k c)
visible_is n (kind ∷ kinds) k c = first_visible n k kind.name kind.gap kind.source kinds (visible_is (suc n) kinds k) c

-- one more kind before kinds that rise
rising_cons : (k : ℕ) (ks : List ℕ) → IsStrictlyIncreasing ks → ((j : ℕ) → Contains ks j → k < j) → IsStrictlyIncreasing (k ∷ ks)
rising_cons k ks h above zero within = above (slice_index ks 0) (Contains-get_or ks 0 0 (omega (arith, within)))
rising_cons k ks h above (suc j) within =
    let next : suc (j + 1) ≡ suc j + 1 = omega arith in
    let P : ℕ → Type 0 = λ i. slice_index ks j < slice_index (k ∷ ks) i in subst P next (h j (omega (arith, within)))

first_rises : (n : ℕ) (name : List ℕ) (gap : Bool) (source : Source) (kinds : List TokenKind) → IsStrictlyIncreasing (visible_from (suc n) kinds) →
    IsStrictlyIncreasing (visible_from n (record { name = name; gap = gap; source = source } ∷ kinds))
first_rises n name true source kinds h = h
first_rises n name false source kinds h =
    rising_cons n (visible_from (suc n) kinds) h (λ j c. let it = visible_is (suc n) kinds j c in omega (arith, it.1))

visible_rise : (n : ℕ) (kinds : List TokenKind) → IsStrictlyIncreasing (visible_from n kinds)
visible_rise n [] k within = absurd (omega (arith, within))
visible_rise n (kind ∷ kinds) k within = first_rises n kind.name kind.gap kind.source kinds (visible_rise (suc n) kinds) k within

-- and each such kind is there
visible_first : (n : ℕ) (name : List ℕ) (gap : Bool) (source : Source) (kinds : List TokenKind) → gap ≡ false
    → Contains (visible_from n (record { name = name; gap = gap; source = source } ∷ kinds)) n
visible_first n name true source kinds e = absurd (true≢false e)
visible_first n name false source kinds e = contains_first n (visible_from (suc n) kinds) n refl

visible_later : (n k : ℕ) (name : List ℕ) (gap : Bool) (source : Source) (kinds : List TokenKind) → Contains (visible_from (suc n) kinds) k
    → Contains (visible_from n (record { name = name; gap = gap; source = source } ∷ kinds)) k
visible_later n k name true source kinds c = c
visible_later n k name false source kinds c = contains_later n (visible_from (suc n) kinds) k c

is_visible : (n i k : ℕ) (kinds : List TokenKind) (kind : TokenKind) → k ≡ n + i → slice_get kinds i ≡ Some kind → kind.gap ≡ false
    → Contains (visible_from n kinds) k
is_visible n i k [] kind e at h = absurd (cc)
is_visible n zero k (x ∷ kinds) kind e at h =
    let same : x ≡ kind = cc in
    let P : ℕ → Type 0 = λ j. Contains (visible_from n (x ∷ kinds)) j in
    let first : n ≡ k = omega (arith, e) in
    subst P first (visible_first n x.name x.gap x.source kinds (ap (λ (y : TokenKind). y.gap) same ∙ h))
is_visible n (suc i) k (x ∷ kinds) kind e at h = visible_later n k x.name x.gap x.source kinds (is_visible (suc n) i k kinds kind (omega (arith, e)) at h)

module _ (G : WrittenGrammar) where
  abbrev IsPart : List ℕ → Type 0
  IsPart = IsPartOf (any_kinds G)

  visible_part : (ks : List ℕ) → IsPart ks → AreVisibleKinds (kinds_of G) ks
  visible_part ks h =
      record {
        rising = part_rises (any_kinds G) ks (visible_rise 0 (kinds_of G)) h;
        visible = λ k c.
            let P : List ℕ → Type 0 = λ l. Contains l k in
            let it = visible_is 0 (kinds_of G) k (filtered (is_in ks) (any_kinds G) k (subst P (sym h) c)).0 in
            let same : it.0 ≡ k = omega (arith, it.1) in
            (it.2.0, ap (slice_get (kinds_of G)) (sym same) ∙ it.2.1, it.2.2);
      }

  pub parts_are_visible : PartsAreVisible G
  parts_are_visible = record { part = visible_part; all = λ k kind at h. is_visible 0 k k (kinds_of G) kind (omega arith) at h }

  only : (ks ls : List ℕ) → IsPart ls → Contains (ls ∷ []) ks → IsPart ks
  only ks ls h c = let P : List ℕ → Type 0 = IsPart in subst P (sym (Contains-only ks ls c)) h

  of_kind : (o : Option ℕ) (ks : List ℕ) → Contains (term_sets (kind_term o)) ks → IsPart ks
  of_kind None ks c = only ks [] (none_part (any_kinds G)) c
  of_kind (Some k) ks c = absurd (contains_none ks c)

  of_name : (o token : Option ℕ) (ks : List ℕ) → Contains (term_sets (name_term o token)) ks → IsPart ks
  of_name (Some r) token ks c = absurd (contains_none ks c)
  of_name None token ks c = of_kind token ks c

  mutual
    of_term : (t : WrittenTerm) (ks : List ℕ) → Contains (term_sets (resolved G t)) ks → IsPart ks
    of_term (WrittenTerm.literal t) ks c = of_kind (literal_kind G t) ks c
    of_term (WrittenTerm.name n) ks c = of_name (rule_number G n) (name_kind G n) ks c
    of_term WrittenTerm.any ks c = only ks (any_kinds G) (all_part (any_kinds G)) c
    of_term (WrittenTerm.but refs) ks c = only ks (other_kinds G refs) (kept_part _ (any_kinds G)) c
    of_term (WrittenTerm.block a) ks c = of_alts a ks c
    of_term (WrittenTerm.opt t) ks c = of_term t ks c
    of_term (WrittenTerm.star t) ks c = of_term t ks c
    of_term (WrittenTerm.plus t) ks c = of_term t ks c
    of_term WrittenTerm.eof ks c = absurd (contains_none ks c)

    of_seq : (s : WrittenSeq) (ks : List ℕ) → Contains (seq_sets (resolved_seq G s)) ks → IsPart ks
    of_seq WrittenSeq.done ks c = absurd (contains_none ks c)
    of_seq (WrittenSeq.next t s) ks c = elim (Contains-append_cases (term_sets (resolved G t)) (seq_sets (resolved_seq G s)) ks c) [
      | inl d ↦ of_term t ks d
      | inr d ↦ of_seq s ks d
    ]

    of_alts : (a : WrittenAlts) (ks : List ℕ) → Contains (alts_sets (resolved_alts G a)) ks → IsPart ks
    of_alts WrittenAlts.none ks c = absurd (contains_none ks c)
    of_alts (WrittenAlts.or s a) ks c = elim (Contains-append_cases (seq_sets (resolved_seq G s)) (alts_sets (resolved_alts G a)) ks c) [
      | inl d ↦ of_seq s ks d
      | inr d ↦ of_alts a ks d
    ]

  -- a set of the grammar
  of_grammar : (ks : List ℕ) → Contains (flat_map alts_sets (bodies G)) ks → IsPart ks
  of_grammar ks c =
      let body = flat_mapped alts_sets (bodies G) ks c in
      let rule = mapped (λ (r : ParserRule). resolved_alts G r.alts) (parser_rules G.rules) body.0 body.1 in
      let P : Alts → Type 0 = λ a. Contains (alts_sets a) ks in
      of_alts rule.0.alts ks (subst P (sym rule.2) body.2)

-- one of the sets, each of which is there once
of_distinct : (xs : List (List ℕ)) (x : List ℕ) → Contains (distinct xs) x → Contains xs x
of_distinct [] x c = c
of_distinct (y ∷ ys) x c = elim (contains_cases y (filter (λ u. not (same_text y u)) (distinct ys)) x c) [
  | inl e ↦ contains_first y ys x e
  | inr d ↦ contains_later y ys x (of_distinct ys x (filtered (λ u. not (same_text y u)) (distinct ys) x d).0)
]

pub sets_are_visible_kinds : SetsAreVisibleKinds
unfolding normal_of
sets_are_visible_kinds N normal i ks at =
    let c = normal.grammar in
    let sets : N.sets ≡ sets_of (bodies c.grammar) = ap (λ (M : NormalForm). M.sets) normal.is in
    let here : slice_get (sets_of (bodies c.grammar)) i ≡ Some ks = ap (λ l. slice_get l i) (sym sets) ∙ at in
    let among = of_distinct (flat_map alts_sets (bodies c.grammar)) ks (contains_at (sets_of (bodies c.grammar)) i ks here) in
    of_grammar c.grammar ks among

pub parts_are_visible_kinds : PartsAreVisibleKinds
parts_are_visible_kinds = parts_are_visible
