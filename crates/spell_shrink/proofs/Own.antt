-- Kept tokens with their own spellings read as they are printed.
use Rattle.std.proofs.Common.{◌≡◌, ◌∙◌, ◌≤◌, ◌<◌, ℕ, zero, suc, List, [], ◌∷◌, ◌++◌, All, Option, Some, None, get_or, refl, sym, ap, subst, length}
use Rattle.std.proofs.Common.{length-append, map, arith}
use Rattle.std.specs.Prelude.{slice_get}
use Rattle.std.specs.List.{cons_option, filter_map}
use Rattle.std.specs.Option.{option_map_or}
use Rattle.std.specs.Str.{chars}
use Rattle.std.proofs.lemmas.List.Elements.{All-head, All-map, All-tail, All-weaker}
use Rattle.normal_form.specs.declared.normal.Sym.{Sym}
use Rattle.normal_form.specs.Form.{NormalForm}
use Rattle.grammar_tree.specs.Lexes.{Piece, PlacedToken}
use Rattle.syntax_tree.specs.Trees.{PlainTree, leaves}
use Rattle.syntax_tree_cut.specs.WeightLaws.{WeightsCountLeaves}
use Rattle.token_print.specs.Spelling.{kind_and_spelling, kinds_and_spellings, spelling, spelling_at}
use Rattle.token_print.specs.declared.style.Skips.{Skips}
use Rattle.token_print.specs.declared.style.Style.{Style}
use Rattle.token_print.specs.Printed.{before, printed, printed_after}
use Rattle.reduce_rounds.specs.Mode.{PhasesAgree}
use Rattle.reduce_rounds.specs.Trials.{Trials}
use Rattle.reduce_trees_mode.specs.Input.{TreeInput}
use Rattle.reduce_trees_mode.specs.Listed.{skips_of}
use Rattle.spell_shrink.specs.Respelling.{IsSpelled, Respelling, SpelledToken, numbers_of, own_spellings}
use Rattle.spell_shrink.specs.Respelled.{Reduced, Respelled, word_bytes}
use Rattle.spell_shrink.specs.Texts.{respelled_after, respelled_pieces, respelled_text}
use Rattle.spell_shrink.specs.SpellMode.{spell_mode}

module _ (skips : Skips) (start : List ℕ) where
  own_after : (tokens : List PlacedToken) (style : Style) (last : Option ℕ) (numbers : List ℕ)
      → respelled_after skips start tokens style last (own_spellings start tokens numbers) ≡ printed_after skips start tokens style last numbers
  own_after tokens style last [] = refl
  own_after tokens style last (i ∷ numbers) =
      ap (λ (text : List ℕ). before skips start tokens style last i ++ (spelling_at start tokens i ++ text)) (own_after tokens style (Some i) numbers)

  pub own_text : (tokens : List PlacedToken) (style : Style) (numbers : List ℕ)
      → respelled_text skips start tokens style (own_spellings start tokens numbers) ≡ printed skips start tokens numbers style
  own_text tokens Style.Squeezed numbers = own_after tokens Style.Squeezed None numbers
  own_text [] Style.AsWas numbers = refl
  own_text (t ∷ tokens) Style.AsWas numbers = own_after (t ∷ tokens) Style.AsWas None numbers

pub own_numbers : (start : List ℕ) (tokens : List PlacedToken) (numbers : List ℕ) → numbers_of (own_spellings start tokens numbers) ≡ numbers
own_numbers start tokens [] = refl
own_numbers start tokens (i ∷ numbers) = ap (λ (rest : List ℕ). i ∷ rest) (own_numbers start tokens numbers)

pub own_count : (start : List ℕ) (tokens : List PlacedToken) (numbers : List ℕ) → length (own_spellings start tokens numbers) ≡ length numbers
own_count start tokens [] = refl
own_count start tokens (i ∷ numbers) = omega (arith, own_count start tokens numbers)

-- the next phase begins with the text and the tokens that are left of the tree
pub phases_agree : WeightsCountLeaves → (round : NormalForm → Sym → PlainTree → Trials PlainTree) (input : TreeInput) → PhasesAgree (spell_mode round input)
phases_agree counts round input (Reduced state) = (
  own_text (skips_of input) input.start input.tokens state.style (leaves state.tree),
  own_count input.start input.tokens (leaves state.tree) ∙ counts state.tree,
)
phases_agree counts round input (Respelled style r) = tt

-- ---- their kinds and spellings

-- the token with a number
pub found_at : (tokens : List PlacedToken) (i : ℕ) → i < length tokens
    → (t : PlacedToken) × (slice_get tokens i ≡ Some t) × (get_or tokens i t ≡ t)
found_at [] i less = absurd (omega (arith, less))
found_at (t ∷ tokens) zero less = (t, refl, refl)
found_at (t ∷ tokens) (suc i) less = found_at tokens i (omega (arith, less))

module _ (start : List ℕ) (tokens : List PlacedToken) where
  -- a kept token with its own spelling
  abbrev pub own : ℕ → SpelledToken
  own i = record { number = i; word = spelling_at start tokens i }

  is_spelled : (i : ℕ) → i < length tokens → IsSpelled start tokens (own i)
  is_spelled i less =
      let found = found_at tokens i less in
      record {
        token = found.0;
        there = (i, less, found.2);
        kind = sym (ap (λ (o : Option PlacedToken). option_map_or (λ (t : PlacedToken). t.kind) o 0) found.1);
        word = ap (λ (o : Option PlacedToken). option_map_or (spelling start) o []) found.1;
      }

  pub own_spelled : (numbers : List ℕ) → All (λ i. i < length tokens) numbers → All (IsSpelled start tokens) (own_spellings start tokens numbers)
  own_spelled numbers there =
      All-map (IsSpelled start tokens) own numbers (All-weaker (λ i. i < length tokens) (λ i. IsSpelled start tokens (own i)) is_spelled numbers there)

  -- they are what a kept text is cut into
  pub own_pieces : (numbers : List ℕ) → All (λ i. i < length tokens) numbers
      → respelled_pieces tokens (own_spellings start tokens numbers) ≡ kinds_and_spellings start tokens numbers
  own_pieces [] there = refl
  own_pieces (i ∷ numbers) there =
      let found = found_at tokens i (All-head (λ k. k < length tokens) i numbers there) in
      let later = respelled_pieces tokens (own_spellings start tokens numbers) in
      subst
      (λ (o : Option PlacedToken).
      record { kind = option_map_or (λ (t : PlacedToken). t.kind) o 0; text = chars (option_map_or (spelling start) o []) } ∷ later
      ≡ map (kind_and_spelling start) (cons_option o (filter_map (slice_get tokens) numbers)))
      (sym found.1)
      (ap (λ (pieces : List Piece). kind_and_spelling start found.0 ∷ pieces)
      (own_pieces numbers (All-tail (λ k. k < length tokens) i numbers there)))

-- ---- how many bytes they have

module _ (skips : Skips) (start : List ℕ) where
  bytes_after : (tokens : List PlacedToken) (style : Style) (last : Option ℕ) (r : Respelling)
      → word_bytes r ≤ length (respelled_after skips start tokens style last r)
  bytes_after tokens style last [] = omega arith
  bytes_after tokens style last (p ∷ r) =
      let gap = before skips start tokens style last p.number in
      let later = respelled_after skips start tokens style (Some p.number) r in
      omega (arith, length-append gap (p.word ++ later), length-append p.word later, bytes_after tokens style (Some p.number) r)

  no_bytes : (numbers : List ℕ) → word_bytes (own_spellings start [] numbers) ≡ 0
  no_bytes [] = refl
  no_bytes (i ∷ numbers) = omega (arith, no_bytes numbers)

  -- no more than their text
  pub own_bytes : (tokens : List PlacedToken) (style : Style) (numbers : List ℕ)
      → word_bytes (own_spellings start tokens numbers) ≤ length (respelled_text skips start tokens style (own_spellings start tokens numbers))
  own_bytes tokens Style.Squeezed numbers = bytes_after tokens Style.Squeezed None (own_spellings start tokens numbers)
  own_bytes [] Style.AsWas numbers = omega (arith, no_bytes numbers)
  own_bytes (t ∷ tokens) Style.AsWas numbers = bytes_after (t ∷ tokens) Style.AsWas None (own_spellings start (t ∷ tokens) numbers)

  no_longer_after : (tokens : List PlacedToken) (style : Style) (last : Option ℕ) (r : Respelling)
      → All (λ (p : SpelledToken). length p.word ≤ length (spelling_at start tokens p.number)) r
      → length (respelled_after skips start tokens style last r)
      ≤ length (respelled_after skips start tokens style last (own_spellings start tokens (numbers_of r)))
  no_longer_after tokens style last [] all = omega arith
  no_longer_after tokens style last (p ∷ r) all =
      let P : SpelledToken → Type 0 = λ (q : SpelledToken). length q.word ≤ length (spelling_at start tokens q.number) in
      let gap = before skips start tokens style last p.number in
      let own_word = spelling_at start tokens p.number in
      let later = respelled_after skips start tokens style (Some p.number) r in
      let own_later = respelled_after skips start tokens style (Some p.number) (own_spellings start tokens (numbers_of r)) in
      let first = All-head P p r all in
      let rest = no_longer_after tokens style (Some p.number) r (All-tail P p r all) in
      omega (
        arith,
        length-append gap (p.word ++ later),
        length-append p.word later,
        length-append gap (own_word ++ own_later),
        length-append own_word own_later,
        first,
        rest,
      )

  -- with spellings that aren't longer the text isn't either
  pub no_longer_text : (tokens : List PlacedToken) (style : Style) (r : Respelling)
      → All (λ (p : SpelledToken). length p.word ≤ length (spelling_at start tokens p.number)) r
      → length (respelled_text skips start tokens style r) ≤ length (respelled_text skips start tokens style (own_spellings start tokens (numbers_of r)))
  no_longer_text tokens Style.Squeezed r all = no_longer_after tokens Style.Squeezed None r all
  no_longer_text [] Style.AsWas r all = omega arith
  no_longer_text (t ∷ tokens) Style.AsWas r all = no_longer_after (t ∷ tokens) Style.AsWas None r all
