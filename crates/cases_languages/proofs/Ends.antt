-- Where a pattern ends, from where its parts do.
use Rattle.std.proofs.Common.{◌≡◌, ◌<◌, ◌≤◌, ◌+◌, ◌⊎◌, ◌↔◌, ◌&&◌, inl, inr, ℕ, zero, suc, Bool, false, List, Some}
use Rattle.std.proofs.Common.{slice_get, slice_index_or, length, refl, sym, ap, ◌∙◌, subst, arith}
use Rattle.std.proofs.lemmas.List.{get_or_past}
use Rattle.std.proofs.lemmas.Option.{slice_get_within, slice_get-get_or}
use Rattle.std.proofs.lemmas.Bool.{and_parts, cases_lt}
use Rattle.std.specs.Cmp.Derive.{both_true}
use Rattle.grammar_tree.specs.Chars.{has}
use Rattle.cases_languages.specs.Patterns.{Pattern}
use Rattle.cases_languages.specs.Positions.{IsIn, Many, SpansBy, AreEnds, Begun}
use Rattle.cases_languages.proofs.Marks.{IsUnion, in_union}

module _ (known : ℕ → ℕ → ℕ → Type 0) (K : List ℕ) where
  pub ends_one : (ranges : List (ℕ × ℕ)) (from to : List Bool) → length from ≡ length K + 1 → length to ≡ length from → slice_index_or to 0 false ≡ false →
      ((k : ℕ) → k < length K → slice_index_or to (k + 1) false ≡ (slice_index_or from k false && has ranges (slice_index_or K k 0))) →
      AreEnds known K (Pattern.one ranges) from to
  ends_one ranges from to lf l f r = at_index
    where
      at : (k : ℕ) → k < length K → slice_index_or to (suc k) false ≡ (slice_index_or from k false && has ranges (slice_index_or K k 0))
      at k h = let e : k + 1 ≡ suc k = omega arith in ap (λ n. slice_index_or to n false) (sym e) ∙ r k h

      inside : (k : ℕ) → IsIn to (suc k) → (k < length K) ⊎ (length K ≤ k) → (i : ℕ) × IsIn from i × SpansBy known K (Pattern.one ranges) i (suc k)
      inside k p (inl h) =
          let both = and_parts (slice_index_or from k false) (has ranges (slice_index_or K k 0)) (sym (at k h) ∙ p) in
          (k, both.0, (slice_index_or K k 0, slice_get-get_or K k 0 h, both.1, refl))
      inside k p (inr h) =
          let past : slice_index_or to (suc k) false ≡ false = get_or_past to (suc k) false (omega (arith, l, lf)) in absurd (cc)

      back : (k i : ℕ) → IsIn from i → SpansBy known K (Pattern.one ranges) i (suc k) → IsIn to (suc k)
      back k i p (c, g, a, s) =
          let same : i ≡ k = omega (arith, s) in
          let P : ℕ → Type 0 = λ n. slice_get K n ≡ Some c in
          let g' : slice_get K k ≡ Some c = subst P same g in
          let h : k < length K = slice_get_within K k c g' in
          let v : Some (slice_index_or K k 0) ≡ Some c = sym (slice_get-get_or K k 0 h) ∙ g' in
          let w : slice_index_or K k 0 ≡ c = cc in
          let Q : ℕ → Type 0 = λ n. IsIn from n in
          at k h ∙ both_true (subst Q same p) (ap (has ranges) w ∙ a)

      at_index : (j : ℕ) → IsIn to j ↔ ((i : ℕ) × IsIn from i × SpansBy known K (Pattern.one ranges) i j)
      at_index zero = (λ p. absurd (cc), λ (i, p, x). absurd (omega (arith, x.3)))
      at_index (suc k) = (λ p. inside k p (cases_lt k (length K)), λ (i, p, x). back k i p x)

  snoc : (R : ℕ → ℕ → Type 0) (i m j : ℕ) → Many R i m → R m j → Many R i j
  snoc R i m j (Many.last a b r) s = Many.more i m j r (Many.last m j s)
  snoc R i m j (Many.more a b c r rest) s = Many.more i b j r (snoc R b m j rest s)

  keeps : (R : ℕ → ℕ → Type 0) (all : List Bool) → ((i j : ℕ) → IsIn all i → R i j → IsIn all j) → (i j : ℕ) → Many R i j → IsIn all i → IsIn all j
  keeps R all closed i j (Many.last a b r) h = closed i j h r
  keeps R all closed i j (Many.more a b c r rest) h = keeps R all closed b j rest (closed i b h r)

  pub begun_first : (p : Pattern) (from first : List Bool) → AreEnds known K p from first → Begun known K p from first
  begun_first p from first e = record {
    one = λ i j h s. (e j).1 (i, h, s);
    sound = λ j h. let x = (e j).0 h in (x.0, x.1, Many.last x.0 j x.2);
  }

  pub begun_next : (p : Pattern) (from all more next : List Bool) → Begun known K p from all → AreEnds known K p all more → IsUnion next all more
      → Begun known K p from next
  begun_next p from all more next b e u =
      record { one = λ i j h s. (in_union next all more u j).1 (inl (b.one i j h s)); sound = λ j h. go j ((in_union next all more u j).0 h) }
    where
      go : (j : ℕ) → IsIn all j ⊎ IsIn more j → (i : ℕ) × IsIn from i × SpansBy known K (Pattern.plus p) i j
      go j (inl h) = b.sound j h
      go j (inr h) =
          let x = (e j).0 h in let y = b.sound x.0 x.1 in (y.0, y.1, snoc (SpansBy known K p) y.0 x.0 j y.2 x.2)

  pub ends_plus : (p : Pattern) (from all more next : List Bool) → Begun known K p from all → AreEnds known K p all more → IsUnion next all more → next ≡ all →
      AreEnds known K (Pattern.plus p) from all
  ends_plus p from all more next b e u same = λ j. (b.sound j, λ (i, h, m). reached i j h m)
    where
      closed : (i j : ℕ) → IsIn all i → SpansBy known K p i j → IsIn all j
      closed i j h s =
          let Q : List Bool → Type 0 = λ x. IsIn x j in subst Q same ((in_union next all more u j).1 (inr ((e j).1 (i, h, s))))

      reached : (i j : ℕ) → IsIn from i → Many (SpansBy known K p) i j → IsIn all j
      reached i j h (Many.last a c r) = b.one i j h r
      reached i j h (Many.more a c d r rest) = keeps (SpansBy known K p) all closed c j rest (b.one i c h r)
