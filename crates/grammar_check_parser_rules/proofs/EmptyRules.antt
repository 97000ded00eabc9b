-- The least table that is closed under the rules says exactly which of them can be empty.
use Rattle.std.proofs.Common.{◌≡◌, ◌⊎◌, inl, inr, ℕ, Bool, true, false, ◌||◌, ◌&&◌, List, [], ◌∷◌, ◌++◌, Option, Some, None, zero, suc, ◌<◌, length, map}
use Rattle.std.proofs.Common.{slice_get, slice_index_or, slice_set, get_or-set_other, arith, refl, sym, ap, ◌∙◌, subst, true≢false}
use Rattle.std.specs.Option.{option_map, option_map_or}
use Rattle.std.proofs.lemmas.Bool.{cases_eq}
use Rattle.std.proofs.lemmas.Option.{same_Some, slice_get-map, slice_get_within}
use Rattle.grammar_tree.specs.Written.{WrittenTerm, WrittenGrammar, written_alts}
use Rattle.grammar_tree.specs.Derives.{Term, Seq, Alts, Derives, DerivesMany, DerivesSeq, DerivesAlts, bodies, resolved_alts}
use Rattle.grammar_check_nodes.specs.Flags.{flag}
use Rattle.grammar_check_parser_rules.specs.Empty.{AreBodies, AreEmptyRules, alts_is_empty, is_empty, seq_is_empty}
use Rattle.grammar_check_parser_rules.specs.inner.Empty.{body_is_empty}
use Rattle.grammar_check_nodes.specs.Marking.{IsClosedAt, IsMarked}

pub and_both : (b c : Bool) → (b && c) ≡ true → (b ≡ true) × (c ≡ true)
and_both true c e = (refl, e)
and_both false c e = absurd (true≢false (sym e))

pub or_one : (b c : Bool) → (b || c) ≡ true → (b ≡ true) ⊎ (c ≡ true)
or_one true c e = inl refl
or_one false c e = inr e

pub from_both : (b c : Bool) → b ≡ true → c ≡ true → (b && c) ≡ true
from_both b c e f = ap (λ x. x && c) e ∙ f

pub from_first : (b c : Bool) → b ≡ true → (b || c) ≡ true
from_first b c e = ap (λ x. x || c) e

pub from_second : (b c : Bool) → c ≡ true → (b || c) ≡ true
from_second true c e = refl
from_second false c e = e

pub nil_parts : (u v : List ℕ) → u ++ v ≡ [] → (u ≡ []) × (v ≡ [])
nil_parts [] v e = (refl, e)
nil_parts (x ∷ u) v e = absurd cc

module _ (G : List Alts) (e : ℕ → Bool) where
  module _ (sound : (r : ℕ) → e r ≡ true → Derives G (Term.rule r) []) where
    mutual
      pub empty : (t : Term) → is_empty e t ≡ true → Derives G t []
      empty (Term.kind k) h = absurd (true≢false (sym h))
      empty (Term.among ks) h = absurd (true≢false (sym h))
      empty (Term.rule r) h = sound r h
      empty (Term.block a) h = Derives.by_block a [] (alts_empty a h)
      empty (Term.opt t) h = Derives.by_absent t
      empty (Term.star t) h = Derives.by_star t [] (DerivesMany.by_end t)
      empty (Term.plus t) h = Derives.by_plus t [] [] (empty t h) (DerivesMany.by_end t)
      empty Term.eof h = Derives.by_eof

      pub seq_empty : (s : Seq) → seq_is_empty e s ≡ true → DerivesSeq G s []
      seq_empty Seq.done h = DerivesSeq.by_done
      seq_empty (Seq.next t s) h =
          let both = and_both (is_empty e t) (seq_is_empty e s) h in
          DerivesSeq.by_next t s [] [] (empty t both.0) (seq_empty s both.1)

      pub alts_empty : (a : Alts) → alts_is_empty e a ≡ true → DerivesAlts G a []
      alts_empty Alts.none h = absurd (true≢false (sym h))
      alts_empty (Alts.or s a) h = elim (or_one (seq_is_empty e s) (alts_is_empty e a) h) [
        | inl one ↦ DerivesAlts.by_first s a [] (seq_empty s one)
        | inr more ↦ DerivesAlts.by_later s a [] (alts_empty a more)
      ]

  module _ (complete : (r : ℕ) (a : Alts) → slice_get G r ≡ Some a → alts_is_empty e a ≡ true → e r ≡ true) where
    mutual
      is_found : {t : Term} {w : List ℕ} → Derives G t w → w ≡ [] → is_empty e t ≡ true
      is_found (Derives.by_kind k) h = absurd cc
      is_found (Derives.by_among ks k c) h = absurd cc
      is_found (Derives.by_rule r a w at d) h = complete r a at (alts_found d h)
      is_found (Derives.by_block a w d) h = alts_found d h
      is_found (Derives.by_absent t) h = refl
      is_found (Derives.by_present t w d) h = refl
      is_found (Derives.by_star t w d) h = refl
      is_found (Derives.by_plus t u v d m) h = is_found d (nil_parts u v h).0
      is_found Derives.by_eof h = refl

      seq_found : {s : Seq} {w : List ℕ} → DerivesSeq G s w → w ≡ [] → seq_is_empty e s ≡ true
      seq_found DerivesSeq.by_done h = refl
      seq_found (DerivesSeq.by_next t s u v d m) h =
          from_both (is_empty e t) (seq_is_empty e s) (is_found d (nil_parts u v h).0) (seq_found m (nil_parts u v h).1)

      alts_found : {a : Alts} {w : List ℕ} → DerivesAlts G a w → w ≡ [] → alts_is_empty e a ≡ true
      alts_found (DerivesAlts.by_first s a w d) h = from_first (seq_is_empty e s) (alts_is_empty e a) (seq_found d h)
      alts_found (DerivesAlts.by_later s a w d) h = from_second (seq_is_empty e s) (alts_is_empty e a) (alts_found d h)

    pub found : {t : Term} → Derives G t [] → is_empty e t ≡ true
    found d = is_found d refl

    pub found_in_alts : {a : Alts} → DerivesAlts G a [] → alts_is_empty e a ≡ true
    found_in_alts d = alts_found d refl

-- The table has no rule that can't be empty.
abbrev IsSound : List Alts → List Bool → Type 0
IsSound G flags = (r : ℕ) → flag flags r ≡ true → Derives G (Term.rule r) []

-- The table has each rule that can be empty by the rules in the table.
abbrev IsComplete : List Alts → List Bool → Type 0
IsComplete G flags = (r : ℕ) (a : Alts) → slice_get G r ≡ Some a → alts_is_empty (flag flags) a ≡ true → flag flags r ≡ true

exact : (G : List Alts) (flags : List Bool) → IsSound G flags → IsComplete G flags → AreEmptyRules G flags
exact G flags sound complete = λ r. (sound r, λ d. found G (flag flags) complete d)

-- the alternatives of the rule with a number, where they were read
pub body_at : {X : Type 0} (view : X → List (List WrittenTerm)) (G : WrittenGrammar) (xs : List X) → AreBodies G (map view xs) → (i : ℕ) (x : X) → i < length xs
    → x ≡ slice_index_or xs i x →
    slice_get (bodies G) i ≡ Some (resolved_alts G (written_alts (view x)))
body_at {X = X} view G xs e i x lt is = ap (λ bs. slice_get bs i) e ∙ at xs i lt is
  where
    at : (ys : List X) (k : ℕ) → k < length ys → x ≡ slice_index_or ys k x
        → slice_get (map (λ a. resolved_alts G (written_alts a)) (map view ys)) k ≡ Some (resolved_alts G (written_alts (view x)))
    at [] k lt is = absurd (omega (arith, lt))
    at (y ∷ ys) zero lt is = ap (λ z. Some (resolved_alts G (written_alts (view z)))) (sym is)
    at (y ∷ ys) (suc k) lt is = at ys k (omega arith) is

-- one more rule that can be empty
marked : (G : List Alts) (flags : List Bool) (n : ℕ) (a : Alts) → slice_get G n ≡ Some a → alts_is_empty (flag flags) a ≡ true → IsSound G flags
    → IsSound G (slice_set flags n true)
marked G flags n a at h sound r e = elim (cases_eq r n) [
  | inl same ↦
      let P : ℕ → Type 0 = λ m. Derives G (Term.rule m) [] in
      subst P (sym same) (Derives.by_rule n a [] at (alts_empty G (flag flags) sound a h))
  | inr differ ↦ sound r (sym (get_or-set_other flags n r true false differ) ∙ e)
]

module _ (G : WrittenGrammar) (alts : List (List (List WrittenTerm))) (are : AreBodies G alts) where
  abbrev body : List (List WrittenTerm) → Alts
  body a = resolved_alts G (written_alts a)

  at_number : (n : ℕ) (x : List (List WrittenTerm)) → slice_get alts n ≡ Some x → slice_get (bodies G) n ≡ Some (body x)
  at_number n x at = ap (λ l. slice_get l n) are ∙ slice_get-map body alts n ∙ ap (option_map body) at

  sound_more : (flags : List Bool) (n : ℕ) (o : Option (List (List WrittenTerm))) → slice_get alts n ≡ o
      → option_map_or (λ a. alts_is_empty (flag flags) (body a)) o false ≡ true → IsSound (bodies G) flags → IsSound (bodies G) (slice_set flags n true)
  sound_more flags n None at h sound = absurd (true≢false (sym h))
  sound_more flags n (Some x) at h sound = marked (bodies G) flags n (body x) (at_number n x at) h sound

  are_sound : {flags : List Bool} → IsMarked (body_is_empty G alts) flags → IsSound (bodies G) flags
  are_sound (IsMarked.by_none flags none) = λ r h. absurd (true≢false (sym h ∙ none r))
  are_sound (IsMarked.by_one flags n before lt passes) = sound_more flags n (slice_get alts n) refl passes (are_sound before)

  module _ (flags : List Bool) (closed : (n : ℕ) → n < length alts → IsClosedAt (body_is_empty G alts) flags n) where
    closed_at : (r : ℕ) (a : Alts) (o : Option (List (List WrittenTerm))) → slice_get alts r ≡ o → slice_get (bodies G) r ≡ Some a
        → alts_is_empty (flag flags) a ≡ true → flag flags r ≡ true
    closed_at r a None at has h = let x : None ≡ Some a = sym (ap (λ l. slice_get l r) are ∙ slice_get-map body alts r ∙ ap (option_map body) at) ∙ has in cc x
    closed_at r a (Some x) at has h =
        let same : body x ≡ a = same_Some (body x) a (sym (at_number r x at) ∙ has) in
        closed r (slice_get_within alts r x at) (ap (λ o. option_map_or (λ b. alts_is_empty (flag flags) (body b)) o false) at
        ∙ ap (alts_is_empty (flag flags)) same ∙ h)

    pub are_empty : IsMarked (body_is_empty G alts) flags → AreEmptyRules (bodies G) flags
    are_empty marks = exact (bodies G) flags (are_sound marks) (λ r a has h. closed_at r a (slice_get alts r) refl has h)
