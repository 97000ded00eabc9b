-- Tokens that follow each other, with their gaps, are a slice of the text.
use Rattle.std.proofs.Common.{◌≡◌, ℕ, zero, suc, ◌+◌, ◌<◌, ◌≤◌, List, [], ◌++◌, Some, drop, slice_get, length, refl, sym, ap, ap₂, ◌∙◌, arith, append_assoc}
use Rattle.std.specs.List.{between, flat_map, range_with_len}
use Rattle.std.specs.Option.{option_map_or}
use Rattle.std.specs.Str.{IsUtf8}
use Rattle.std.proofs.lemmas.List.{append_cancel_right}
use Rattle.std.proofs.lemmas.Option.{slice_get-get_or}
use Rattle.grammar_tree.specs.Lexes.{PlacedToken}
use Rattle.token_print.specs.Spelling.{gap_and_spelling, gap_end, gap_start, spelling, spelling_at}
use Rattle.token_print.specs.LexingLaws.{AreInOrder, RunsAreText}
use Rattle.token_print.proofs.Gaps.{join}
use Rattle.token_print.proofs.Pieces.{in_order}
use Rattle.token_print.proofs.Slices.{begins, begins_before, no_token, token}

module _ (text : List ℕ) (tokens : List PlacedToken) (utf8 : IsUtf8 text) (order : AreInOrder text tokens) where
  abbrev start_of : ℕ → ℕ
  start_of i = (token text tokens utf8 order i).start

  abbrev end_of : ℕ → ℕ
  end_of i = (token text tokens utf8 order i).end

  there : (i : ℕ) → i < length tokens → slice_get tokens i ≡ Some (token text tokens utf8 order i)
  there i h = slice_get-get_or tokens i (no_token text tokens utf8 order) h

  next_start : (i : ℕ) → i < length tokens → gap_start text tokens (suc i) ≡ end_of i
  next_start i h = ap (λ o. option_map_or (λ (t : PlacedToken). t.end) o (length text)) (there i h)

  gap_ends : (i : ℕ) → i < length tokens → gap_end text tokens i ≡ start_of i
  gap_ends i h = ap (λ o. option_map_or (λ (t : PlacedToken). t.start) o (length text)) (there i h)

  spelled : (i : ℕ) → i < length tokens → spelling_at text tokens i ≡ between (start_of i) (end_of i) text
  spelled i h = ap (λ o. option_map_or (spelling text) o []) (there i h)

  filled : (i : ℕ) → i < length tokens → start_of i < end_of i
  filled i h = order.not_empty i (no_token text tokens utf8 order) h

  rises : (i : ℕ) → i < length tokens → gap_start text tokens i < gap_start text tokens (suc i)
  rises i h = omega (arith, next_start i h, filled i h, begins_before text tokens utf8 order i h)

  -- one token with its gap, and then the rest of the text
  one : (i : ℕ) → i < length tokens → gap_and_spelling text tokens i ++ drop (gap_start text tokens (suc i)) text ≡ drop (gap_start text tokens i) text
  one i h =
      let from = gap_start text tokens i in
      let rest = drop (gap_start text tokens (suc i)) text in
      ap₂ (λ to word. (between from to text ++ word) ++ rest) (gap_ends i h) (spelled i h)
      ∙ append_assoc (between from (start_of i) text) (between (start_of i) (end_of i) text) rest
      ∙ join from (start_of i) text (between (start_of i) (end_of i) text ++ rest) (begins_before text tokens utf8 order i h)
      (join (start_of i) (end_of i) text rest (omega (arith, filled i h)) (ap (λ n. drop n text) (next_start i h)))

  pub run : (n i : ℕ) → i + n ≤ length tokens
      → flat_map (gap_and_spelling text tokens) (range_with_len i n) ++ drop (gap_start text tokens (i + n)) text ≡ drop (gap_start text tokens i) text
  run zero i h = let same : i + 0 ≡ i = omega arith in ap (λ k. drop (gap_start text tokens k) text) same
  run (suc n) i h =
      let later = flat_map (gap_and_spelling text tokens) (range_with_len (i + 1) n) in
      let last : i + suc n ≡ (i + 1) + n = omega arith in
      let next : i + 1 ≡ suc i = omega arith in
      append_assoc (gap_and_spelling text tokens i) later (drop (gap_start text tokens (i + suc n)) text)
      ∙ ap (λ k. gap_and_spelling text tokens i ++ (later ++ drop (gap_start text tokens k) text)) last
      ∙ ap (λ l. gap_and_spelling text tokens i ++ l) (run n (i + 1) (omega (arith, h)))
      ∙ ap (λ k. gap_and_spelling text tokens i ++ drop (gap_start text tokens k) text) next
      ∙ one i (omega (arith, h))

  pub long : (n i : ℕ) → i + n ≤ length tokens → gap_start text tokens i + n ≤ gap_start text tokens (i + n)
  long zero i h = let same : i + 0 ≡ i = omega arith in omega (arith, ap (gap_start text tokens) same)
  long (suc n) i h =
      let last : i + suc n ≡ suc i + n = omega arith in
      omega (arith, ap (gap_start text tokens) last, rises i (omega (arith, h)), long n (suc i) (omega (arith, h)))

  pub same : (i n : ℕ) → i + n ≤ length tokens
      → flat_map (gap_and_spelling text tokens) (range_with_len i n) ≡ between (gap_start text tokens i) (gap_start text tokens (i + n)) text
  same i n h =
      let from = gap_start text tokens i in
      let to = gap_start text tokens (i + n) in
      append_cancel_right (flat_map (gap_and_spelling text tokens) (range_with_len i n)) (between from to text) (drop to text)
      (run n i h ∙ sym (join from to text (drop to text) (omega (arith, long n i h)) refl))

pub are_runs : RunsAreText
are_runs G text tokens utf8 has =
    let order = in_order G text tokens utf8 has in
    record {
      same = same text tokens utf8 order;
      long = λ i n h. long text tokens utf8 order n i h;
      within = λ i h. (begins text tokens utf8 order i h).within;
    }
