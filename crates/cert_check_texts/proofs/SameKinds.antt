-- Tokens with equal spellings have equal kinds, and lists of them are equal where their spellings are.
use Rattle.std.proofs.Common.{◌≡◌, ◌⊎◌, inl, inr, ◌<◌, ◌≤◌, ℕ, suc, ◌+◌, zero, List, [], ◌∷◌, Option, None, Some, All, map, drop}
use Rattle.std.proofs.Common.{length, get_or, slice_get, slice_index, arith, refl, sym, ap, ◌∙◌, subst}
use Rattle.std.specs.List.{cons_option, filter_map}
use Rattle.std.specs.List.Sorted.{IsStrictlyIncreasing}
use Rattle.std.specs.Option.{option_map_or}
use Rattle.std.specs.Str.{chars, IsUtf8}
use Rattle.std.proofs.lemmas.List.Elements.{All-contains, All-head, All-tail}
use Rattle.std.proofs.lemmas.Option.{slice_get_cases}
use Rattle.grammar_tree.specs.Written.{WrittenGrammar}
use Rattle.grammar_tree.specs.Lexes.{IsNext, KindMatches, Piece, PlacedToken}
use Rattle.token_print.specs.Spelling.{kind_and_spelling, kinds_and_spellings, spelling, spelling_at}
use Rattle.token_print.specs.Spells.{EqualCharactersEqualBytes}
use Rattle.cert_check_texts.specs.inner.Reached.{RiseAfter}
use Rattle.cert_check_texts.proofs.Conses.{head_of, nothing_is, tail_of}

-- the token is what comes next at its start
abbrev pub ComesNext : WrittenGrammar → List ℕ → PlacedToken → Type 0
ComesNext G text t = IsNext G (chars (drop t.start text)) t.kind (chars (spelling text t)) (chars (drop t.end text))

-- the least kind that matches a spelling is one
one_kind : (G : WrittenGrammar) (k m : ℕ) (at at' piece piece' rest rest' : List ℕ) → IsNext G at k piece rest → IsNext G at' m piece' rest' → piece ≡ piece'
    → k ≡ m
one_kind G k m at at' piece piece' rest rest' one other same =
    let low : k ≤ m = one.least m (subst (KindMatches G m) (sym same) other.matched) in
    let high : m ≤ k = other.least k (subst (KindMatches G k) same one.matched) in
    omega (arith, low, high)

-- numbers that rise after another one rise strictly
pub rise_strictly : (last : Option ℕ) (kept : List ℕ) → RiseAfter last kept → IsStrictlyIncreasing kept
rise_strictly last [] rise k within = absurd (omega (arith, within))
rise_strictly last (i ∷ []) rise k within = absurd (omega (arith, within))
rise_strictly last (i ∷ (j ∷ kept)) rise zero within = (rise.1).0
rise_strictly last (i ∷ (j ∷ kept)) rise (suc k) within =
    let more : suc (k + 1) ≡ suc k + 1 = omega arith in
    subst (λ (n : ℕ). slice_index (j ∷ kept) k < slice_index (i ∷ (j ∷ kept)) n) more (rise_strictly (Some i) (j ∷ kept) rise.1 k (omega (arith, within)))

-- the numbers after the first rise too, and the second is above it
rise_tail : (i : ℕ) (kept : List ℕ) → IsStrictlyIncreasing (i ∷ kept) → IsStrictlyIncreasing kept
rise_tail i kept rise k within =
    let more : suc k + 1 ≡ suc (k + 1) = omega arith in
    subst (λ (n : ℕ). slice_index (i ∷ kept) (suc k) < slice_index (i ∷ kept) n) more (rise (suc k) (omega (arith, within)))

-- and the other way about
rise_from : (i : ℕ) (kept : List ℕ) → IsStrictlyIncreasing (i ∷ kept) → RiseAfter (Some i) kept
rise_from i [] rise = tt
rise_from i (j ∷ kept) rise = (rise 0 (omega arith), rise_from j kept (rise_tail i (j ∷ kept) rise))

pub rise_first : (kept : List ℕ) → IsStrictlyIncreasing kept → RiseAfter None kept
rise_first [] rise = tt
rise_first (i ∷ kept) rise = (tt, rise_from i kept rise)

module _ (G : WrittenGrammar) (text start : List ℕ) (tokens : List PlacedToken) (all_next : All (ComesNext G start) tokens) where
  -- a token of the text and one of the start with its spelling
  same_piece : (found one : PlacedToken) → ComesNext G text found → ComesNext G start one → spelling start one ≡ spelling text found
      → kind_and_spelling text found ≡ kind_and_spelling start one
  same_piece found one next next' same =
      let kind : found.kind ≡ one.kind = one_kind G found.kind one.kind _ _ _ _ _ _ next next' (ap chars (sym same)) in
      λ i. record { kind = kind i; text = chars (sym same i) }

  -- the token with a number is there, and comes next
  with_number : (index : ℕ) → index < length tokens → (one : PlacedToken) × (slice_get tokens index ≡ Some one) × ComesNext G start one
  with_number index within = by (slice_get_cases tokens index).1
    where
      by : ((one : PlacedToken) × (index < length tokens) × (slice_get tokens index ≡ Some one) × (get_or tokens index one ≡ one))
          ⊎ ((length tokens ≤ index) × (slice_get tokens index ≡ None)) → (one : PlacedToken) × (slice_get tokens index ≡ Some one) × ComesNext G start one
      by (inl (one, there, is, at)) = (one, is, All-contains (ComesNext G start) tokens one all_next (index, there, at))
      by (inr (past, none)) = absurd (omega (arith, within, past))

  -- kept tokens with the spellings of the text's tokens have their kinds
  pub kinds_too : (found : List PlacedToken) (kept : List ℕ) → All (ComesNext G text) found → All (λ i. i < length tokens) kept
      → map (spelling_at start tokens) kept ≡ map (spelling text) found → map (kind_and_spelling text) found ≡ kinds_and_spellings start tokens kept
  kinds_too [] [] next within same = refl
  kinds_too [] (i ∷ kept) next within same = absurd (cc same)
  kinds_too (t ∷ found) [] next within same = absurd (cc same)
  kinds_too (t ∷ found) (i ∷ kept) next within same =
      step (kinds_too found kept (All-tail (ComesNext G text) t found next) (All-tail (λ k. k < length tokens) i kept within) (tail_of same))
      (with_number i (All-head (λ k. k < length tokens) i kept within))
    where
      step : map (kind_and_spelling text) found ≡ kinds_and_spellings start tokens kept
          → (one : PlacedToken) × (slice_get tokens i ≡ Some one) × ComesNext G start one
          → map (kind_and_spelling text) (t ∷ found) ≡ kinds_and_spellings start tokens (i ∷ kept)
      step later (one, is, comes) =
          let spelled : spelling start one ≡ spelling text t = sym (ap (λ (o : Option PlacedToken). option_map_or (spelling start) o []) is) ∙ head_of same in
          let first : kind_and_spelling text t ≡ kind_and_spelling start one = same_piece t one (All-head (ComesNext G text) t found next) comes spelled in
          (λ k. first k ∷ later k)
          ∙ sym (ap (λ (o : Option PlacedToken). map (kind_and_spelling start) (cons_option o (filter_map (slice_get tokens) kept))) is)

-- The spellings of the tokens of a text are UTF-8.
abbrev pub AreUtf8 : List ℕ → List PlacedToken → Type 0
AreUtf8 text tokens = All (λ (t : PlacedToken). IsUtf8 (spelling text t)) tokens

module _ (equal : EqualCharactersEqualBytes) (text start : List ℕ) (tokens : List PlacedToken) (utf8 : AreUtf8 start tokens) where
  same_bytes : (found one : PlacedToken) → IsUtf8 (spelling text found) → IsUtf8 (spelling start one)
      → kind_and_spelling text found ≡ kind_and_spelling start one → spelling start one ≡ spelling text found
  same_bytes found one utf8 utf8' same = sym ((equal (spelling text found) (spelling start one) utf8 utf8').0 (ap (λ (p : Piece). p.text) same))

  numbered : (index : ℕ) → index < length tokens → (one : PlacedToken) × (slice_get tokens index ≡ Some one) × IsUtf8 (spelling start one)
  numbered index within = by (slice_get_cases tokens index).1
    where
      by : ((one : PlacedToken) × (index < length tokens) × (slice_get tokens index ≡ Some one) × (get_or tokens index one ≡ one))
          ⊎ ((length tokens ≤ index) × (slice_get tokens index ≡ None)) → (one : PlacedToken) × (slice_get tokens index ≡ Some one)
          × IsUtf8 (spelling start one)
      by (inl (one, there, is, at)) = (one, is, All-contains (λ (t : PlacedToken). IsUtf8 (spelling start t)) tokens one utf8 (index, there, at))
      by (inr (past, none)) = absurd (omega (arith, within, past))

  -- tokens of the kinds and spellings of kept ones have their spellings as bytes
  pub bytes_too : (found : List PlacedToken) (kept : List ℕ) → AreUtf8 text found → All (λ i. i < length tokens) kept
      → map (kind_and_spelling text) found ≡ kinds_and_spellings start tokens kept → map (spelling_at start tokens) kept ≡ map (spelling text) found
  bytes_too [] [] all within same = refl
  bytes_too [] (i ∷ kept) all within same = none (numbered i (All-head (λ k. k < length tokens) i kept within))
    where
      none : (one : PlacedToken) × (slice_get tokens i ≡ Some one) × IsUtf8 (spelling start one) → map (spelling_at start tokens) (i ∷ kept) ≡ []
      none (one, is, u) =
          absurd (nothing_is (same ∙ ap (λ (o : Option PlacedToken). map (kind_and_spelling start) (cons_option o (filter_map (slice_get tokens) kept))) is))
  bytes_too (t ∷ found) [] all within same = absurd (nothing_is (sym same))
  bytes_too (t ∷ found) (i ∷ kept) all within same =
      step (bytes_too found kept (All-tail (λ (p : PlacedToken). IsUtf8 (spelling text p)) t found all) (All-tail (λ k. k < length tokens) i kept within))
      (numbered i (All-head (λ k. k < length tokens) i kept within))
    where
      step : (map (kind_and_spelling text) found ≡ kinds_and_spellings start tokens kept → map (spelling_at start tokens) kept ≡ map (spelling text) found)
          → (one : PlacedToken) × (slice_get tokens i ≡ Some one) × IsUtf8 (spelling start one)
          → map (spelling_at start tokens) (i ∷ kept) ≡ map (spelling text) (t ∷ found)
      step go_on (one, is, u) =
          let both = same ∙ ap (λ (o : Option PlacedToken). map (kind_and_spelling start) (cons_option o (filter_map (slice_get tokens) kept))) is in
          let first : spelling_at start tokens i ≡ spelling text t =
          ap (λ (o : Option PlacedToken). option_map_or (spelling start) o []) is
          ∙ same_bytes t one (All-head (λ (p : PlacedToken). IsUtf8 (spelling text p)) t found all) u (head_of both) in
          let later = go_on (tail_of both) in
          λ k. first k ∷ later k
