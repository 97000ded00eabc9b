-- Each gap is a slice of the text.
use Rattle.std.proofs.Common.{◌≡◌, ◌⊎◌, inl, inr, ℕ, zero, suc, ◌<◌, ◌≤◌, List, Option, Some, None, slice_get, slice_index_or, length, sym, subst, arith}
use Rattle.std.specs.Option.{option_map_or}
use Rattle.std.specs.Str.{IsCharBoundary, IsUtf8}
use Rattle.std.proofs.lemmas.Bool.{cases_lt}
use Rattle.std.proofs.lemmas.Option.{slice_get-get_or, slice_get_past}
use Rattle.std.proofs.lemmas.Str.{IsCharBoundary-end, IsCharBoundary-start, IsUtf8-between}
use Rattle.grammar_tree.specs.Lexes.{PlacedToken}
use Rattle.token_print.specs.Spelling.{gap_end, gap_start}
use Rattle.token_print.specs.LexingLaws.{AreInOrder, GapsAreSlices, IsSlice}
use Rattle.token_print.proofs.Pieces.{in_order}

module _ (text : List ℕ) (tokens : List PlacedToken) (utf8 : IsUtf8 text) (order : AreInOrder text tokens) where
  abbrev pub no_token : PlacedToken
  no_token = record { kind = 0; start = 0; end = 0 }

  abbrev pub token : ℕ → PlacedToken
  token i = slice_index_or tokens i no_token

  -- an offset between characters, which is no less than another one
  pub record IsCut (low at : ℕ) : Type 0 where
    pub rises : low ≤ at
    pub within : at ≤ length text
    pub boundary : IsCharBoundary text at

  end_is : (low : ℕ) (o : Option PlacedToken) (t : PlacedToken) → o ≡ Some t → IsCut low t.end
      → IsCut low (option_map_or (λ (x : PlacedToken). x.end) o (length text))
  end_is low o t e c = let P : Option PlacedToken → Type 0 = λ x. IsCut low (option_map_or (λ (y : PlacedToken). y.end) x (length text)) in subst P (sym e) c

  start_is : (low : ℕ) (o : Option PlacedToken) (t : PlacedToken) → o ≡ Some t → IsCut low t.start
      → IsCut low (option_map_or (λ (x : PlacedToken). x.start) o (length text))
  start_is low o t e c = let P : Option PlacedToken → Type 0 =
      λ x. IsCut low (option_map_or (λ (y : PlacedToken). y.start) x (length text)) in subst P (sym e) c

  none_is : (low : ℕ) (o : Option PlacedToken) → o ≡ None → IsCut low (length text) → IsCut low (option_map_or (λ (x : PlacedToken). x.start) o (length text))
  none_is low o e c = let P : Option PlacedToken → Type 0 = λ x. IsCut low (option_map_or (λ (y : PlacedToken). y.start) x (length text)) in subst P (sym e) c

  -- where a gap begins
  pub begins : (i : ℕ) → i ≤ length tokens → IsCut 0 (gap_start text tokens i)
  begins zero h = record { rises = omega arith; within = omega arith; boundary = IsCharBoundary-start text utf8 }
  begins (suc i) h =
      let part = order.slices i no_token (omega (arith, h)) in
      end_is 0 (slice_get tokens i) (token i) (slice_get-get_or tokens i no_token (omega (arith, h)))
      (record { rises = omega arith; within = part.within; boundary = part.ends })

  -- where it ends
  ends : (low i : ℕ) → low ≤ length text → (i < length tokens → low ≤ (token i).start) → IsCut low (gap_end text tokens i)
  ends low i all before = pick (cases_lt i (length tokens))
    where
      pick : (i < length tokens) ⊎ (length tokens ≤ i) → IsCut low (gap_end text tokens i)
      pick (inl h) =
          let part = order.slices i no_token h in
          start_is low (slice_get tokens i) (token i) (slice_get-get_or tokens i no_token h)
          (record { rises = before h; within = omega (arith, part.rises, part.within); boundary = part.starts })
      pick (inr h) =
          none_is low (slice_get tokens i) (slice_get_past tokens i h) (record { rises = all; within = omega arith; boundary = IsCharBoundary-end text })

  -- no token that comes later begins before the gap does
  pub begins_before : (i : ℕ) → i < length tokens → gap_start text tokens i ≤ (token i).start
  begins_before zero h = omega arith
  begins_before (suc i) h =
      let P : Option PlacedToken → Type 0 = λ x. option_map_or (λ (y : PlacedToken). y.end) x (length text) ≤ (token (suc i)).start in
      subst P (sym (slice_get-get_or tokens i no_token (omega (arith, h)))) (order.apart i (suc i) no_token (omega arith) h)

  pub is_slice : (i : ℕ) → i ≤ length tokens → IsSlice text (gap_start text tokens i) (gap_end text tokens i)
  is_slice i h =
      let from = begins i h in
      let to = ends (gap_start text tokens i) i from.within (begins_before i) in
      record {
        rises = to.rises;
        within = to.within;
        starts = from.boundary;
        ends = to.boundary;
        utf8 = IsUtf8-between text (gap_start text tokens i) (gap_end text tokens i) utf8 to.rises from.boundary to.boundary;
      }

pub are_slices : GapsAreSlices
are_slices G text tokens i utf8 has h = is_slice text tokens utf8 (in_order G text tokens utf8 has) i h
