-- What the laws on tokens say of the gaps and tokens of a start.
use Rattle.std.proofs.Common.{◌≡◌, ◌<◌, ◌≤◌, ◌+◌, ◌⊎◌, inl, inr, ℕ, zero, suc, List, [], ◌∷◌, Some, slice_get}
use Rattle.std.proofs.Common.{slice_index, slice_index_or, length, sym, ap, ap₂, ◌∙◌, subst, arith}
use Rattle.std.specs.List.{All}
use Rattle.std.specs.List.Sorted.{IsStrictlyIncreasing}
use Rattle.std.specs.Option.{option_map_or}
use Rattle.std.specs.Str.{chars, IsUtf8}
use Rattle.std.proofs.lemmas.Bool.{cases_lt}
use Rattle.std.proofs.lemmas.Option.{slice_get-get_or, slice_get_past}
use Rattle.grammar_tree.specs.Written.{WrittenGrammar}
use Rattle.grammar_tree.specs.Lexes.{PlacedToken}
use Rattle.lexer.specs.Tokens.{HasTokens}
use Rattle.token_print.specs.LexingLaws.{AreInOrder, GapsAreSlices}
use Rattle.token_print.specs.Spelling.{gap_end, gap_start, spelling}
use Rattle.token_print.proofs.Copied.{HasBounds}
use Rattle.token_print.proofs.Stretches.{AreRising, HasOffsets}

abbrev no_token : PlacedToken
no_token = record { kind = 0; start = 0; end = 0 }

module _ (start : List ℕ) (tokens : List PlacedToken) where
  abbrev token : ℕ → PlacedToken
  token i = slice_index_or tokens i no_token

  there : (i : ℕ) → i < length tokens → slice_get tokens i ≡ Some (token i)
  there i h = slice_get-get_or tokens i no_token h

  -- a token begins where its gap ends, and ends where the next gap begins
  begins_at : (i : ℕ) → i < length tokens → gap_end start tokens i ≡ (token i).start
  begins_at i h = ap (λ o. option_map_or (λ (t : PlacedToken). t.start) o (length start)) (there i h)

  ends_at : (i : ℕ) → i < length tokens → gap_start start tokens (suc i) ≡ (token i).end
  ends_at i h = ap (λ o. option_map_or (λ (t : PlacedToken). t.end) o (length start)) (there i h)

  module _ (order : AreInOrder start tokens) where
    word : (i j : ℕ) → i ≤ j → j < length tokens → gap_end start tokens i < gap_start start tokens (suc j)
    word i j h l = pick (cases_lt i j)
      where
        here : (token j).start < (token j).end
        here = order.not_empty j no_token l

        pick : (i < j) ⊎ (j ≤ i) → gap_end start tokens i < gap_start start tokens (suc j)
        pick (inl k) =
            omega (arith, begins_at i (omega (arith, h, l)), ends_at j l, order.not_empty i no_token (omega (arith, h, l)), order.apart i j no_token k l, here)
        pick (inr k) =
            let same : i ≡ j = omega (arith, h, k) in
            let Q : ℕ → Type 0 = λ n. gap_end start tokens n < gap_start start tokens (suc j) in
            subst Q (sym same) (omega (arith, begins_at j l, ends_at j l, here))

    past : (i : ℕ) → length tokens ≤ i → gap_end start tokens i ≡ length start
    past i h = ap (λ o. option_map_or (λ (t : PlacedToken). t.start) o (length start)) (slice_get_past tokens i h)

    inside : (i : ℕ) → i ≤ length tokens → gap_end start tokens i ≤ length start
    inside i h = pick (cases_lt i (length tokens))
      where
        pick : (i < length tokens) ⊎ (length tokens ≤ i) → gap_end start tokens i ≤ length start
        pick (inl l) = omega (arith, begins_at i l, (order.slices i no_token l).rises, (order.slices i no_token l).within)
        pick (inr k) = omega (arith, past i k)

    gap : (i : ℕ) → i ≤ length tokens → gap_start start tokens i ≤ gap_end start tokens i
    gap zero h = omega arith
    gap (suc i) h = pick (cases_lt (suc i) (length tokens))
      where
        pick : (suc i < length tokens) ⊎ (length tokens ≤ suc i) → gap_start start tokens (suc i) ≤ gap_end start tokens (suc i)
        pick (inl l) = omega (arith, ends_at i (omega (arith, l)), begins_at (suc i) l, order.apart i (suc i) no_token (omega arith) l)
        pick (inr k) = omega (arith, ends_at i (omega (arith, h)), past (suc i) k, (order.slices i no_token (omega (arith, h))).within)

    pub offsets : HasOffsets start tokens
    offsets = record {
      gap = gap;
      word = word;
      inside = inside;
      last = past (length tokens) (omega arith);
      spelled =
          λ i h. ap (λ o. option_map_or (spelling start) o []) (there i h)
          ∙ ap₂ (λ a b. spelling start (record { kind = 0; start = a; end = b })) (sym (begins_at i h)) (sym (ends_at i h));
    }

    pub bounds : (G : WrittenGrammar) → GapsAreSlices → IsUtf8 start → HasTokens G (chars start) tokens → HasBounds start tokens
    bounds G slices utf8 has =
        record {
          utf8 = utf8;
          starts = λ i h. (slices G start tokens i utf8 has h).starts;
          ends = λ i h. (slices G start tokens i utf8 has h).ends;
        }

-- kept numbers rise
pub rising : (n low : ℕ) (kept : List ℕ) → IsStrictlyIncreasing kept → All (λ i. i < n) kept → ((d : ℕ) → 0 < length kept → low ≤ slice_index_or kept 0 d)
    → AreRising n low kept
rising n low [] up below least = AreRising.by_none low
rising n low (i ∷ kept) up below least =
    AreRising.by_token low i kept (least 0 (omega arith)) (below 0 0 (omega arith))
    (rising n (suc i) kept
    (λ k h. let next : suc k + 1 ≡ suc (k + 1) = omega arith in omega (arith, up (suc k) (omega (arith, h)), ap (slice_index (i ∷ kept)) next))
    (λ k d h. below (suc k) d (omega (arith, h))) (λ d h. first kept up d h))
  where
    first : (kept : List ℕ) → IsStrictlyIncreasing (i ∷ kept) → (d : ℕ) → 0 < length kept → suc i ≤ slice_index_or kept 0 d
    first [] up d h = absurd (omega (arith, h))
    first (j ∷ kept) up d h = let less : i < j = up 0 (omega arith) in omega (arith, less)
