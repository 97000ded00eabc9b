-- A text that is printed of some of the start's tokens, by the pairs along its offsets.
use Rattle.std.proofs.Common.{◌≡◌, ◌≤◌, ℕ, List, [], ◌∷◌, None, length, map, arith, refl, sym, ap, ◌∙◌, subst}
use denote.Ref.{Bor}
use Rattle.std.specs.Prelude.{◌↔◌}
use Rattle.std.specs.Str.{chars, IsUtf8}
use Rattle.std.proofs.lemmas.List.{length-map}
use Rattle.std.proofs.lemmas.List.Elements.{All-weaker}
use Rattle.grammar_tree.specs.Written.{CheckedGrammar, WrittenGrammar}
use Rattle.grammar_tree.specs.Checked.{IsChecked}
use Rattle.grammar_tree.specs.Lexes.{Piece, PlacedToken}
use Rattle.lexer.specs.Tokens.{HasTokens, token_of}
use Rattle.lexer.specs.declared.token.Token.{Token}
use Rattle.lexer.specs.declared.token.Tokens.{Tokens}
use Rattle.normal_form.specs.Form.{NormalForm}
use Rattle.normal_form.specs.NormalOf.{normal_of}
use Rattle.reduce_step.specs.Limits.{text_limit}
use Rattle.reduce_trees_mode.specs.Candidates.{InLanguage}
use Rattle.token_print.specs.LexingLaws.{AreInOrder, IsSlice, TokensAreInOrder, TokensAreLongestMatches, TokensAreUnique}
use Rattle.token_print.specs.Spelling.{kind_and_spelling, kinds_and_spellings, spelling, spelling_at}
use Rattle.token_print.specs.Spells.{EqualCharactersEqualBytes, SpellsTokens}
use Rattle.token_print.specs.Laws.{PrintedOneWay}
use Rattle.token_print.specs.declared.style.Skips.{Skips}
use Rattle.token_print.specs.declared.style.Style.{Style}
use Rattle.token_print.specs.Printed.{AreSkipped, IsPrinted, printed, printed_after}
use Rattle.cert_check_texts.specs.inner.Fields.{AreFieldsOf, IsPrintedInPieces, tokens_in}
use Rattle.cert_check_texts.specs.inner.Numbers.{HasNumbers}
use Rattle.cert_check_texts.specs.declared.numbers.Numbers.{Numbers}
use Rattle.cert_check_texts.specs.inner.Reached.{AreSeparators, CanEnd}
use Rattle.cert_check_texts.specs.Texts.{IsPrintOf, IsTreeStart, TreeStart}
use Rattle.cert_check_texts.proofs.SameKinds.{AreUtf8, bytes_too, kinds_too, rise_first, rise_strictly}

in_pieces : (skips : Skips) (start : List ℕ) (tokens : List PlacedToken) (kept : List ℕ) (style : Style) → IsPrintedInPieces tokens style
    → printed skips start tokens kept style ≡ printed_after skips start tokens style None kept
in_pieces skips start tokens kept Style.Squeezed some = refl
in_pieces skips start [] kept Style.AsWas some = absurd (some refl)
in_pieces skips start (t ∷ tokens) kept Style.AsWas some = refl

-- a text that has these tokens spells those that have their kinds and spellings
spells : TokensAreUnique → (G : WrittenGrammar) (text : List ℕ) (pieces : List Piece) (found : List PlacedToken) → IsUtf8 text → HasTokens G (chars text) found
    → (map (kind_and_spelling text) found ≡ pieces) ↔ SpellsTokens G text pieces
spells unique G text pieces found utf8 has = (
  λ same. record { utf8 = utf8; tokens = found; has = has; same = same },
  λ s. ap (map (kind_and_spelling text)) (unique G (chars text) found s.tokens has s.has) ∙ s.same,
)

module _ (unique : TokensAreUnique) (one_way : PrintedOneWay) (equal : EqualCharactersEqualBytes) (longest : TokensAreLongestMatches) (from : TreeStart)
    (is : IsTreeStart from) (skips : Skips) (agree : AreSkipped (from.grammar).grammar skips) (style : Style) (some : IsPrintedInPieces from.tokens style)
    (text : List ℕ) (utf8 : IsUtf8 text) (found : List PlacedToken) (has : HasTokens (from.grammar).grammar (chars text) found) where
  abbrev Ends : Type 0
  Ends = CanEnd skips from.start from.tokens style text None 0 (map (spelling text) found)

  -- what can be ended from the beginning is printed so
  is_print : Ends → IsPrintOf from style text
  is_print can =
      let same =
      kinds_too (from.grammar).grammar text from.start from.tokens (longest (from.grammar).grammar from.start from.tokens is.utf8 is.has_tokens) found can.kept
      (longest (from.grammar).grammar text found utf8 has) can.there can.spelled in
      record {
        kept = can.kept;
        are_kept = record { rise = rise_strictly None can.kept can.rise; there = can.there };
        printed_so = record { skips = skips; agree = agree; same = can.printed ∙ sym (in_pieces skips from.start from.tokens can.kept style some) };
        keeps = (spells unique (from.grammar).grammar text (kinds_and_spellings from.start from.tokens can.kept) found utf8 has).0 same;
      }

  -- and what is printed so can be ended from the beginning
  ends_so : AreUtf8 from.start from.tokens → AreUtf8 text found → (one : IsPrintOf from style text) → Ends
  ends_so start_utf8 text_utf8 one =
      let ours : IsPrinted (from.grammar).grammar from.start from.tokens one.kept style (printed skips from.start from.tokens one.kept style) =
      record { skips = skips; agree = agree; same = refl } in
      let is_ours : text ≡ printed skips from.start from.tokens one.kept style =
      one_way (from.grammar).grammar from.start from.tokens one.kept style text (printed skips from.start from.tokens one.kept style) one.printed_so ours in
      record {
        kept = one.kept;
        rise = rise_first one.kept (one.are_kept).rise;
        there = (one.are_kept).there;
        spelled =
            bytes_too equal text from.start from.tokens start_utf8 found one.kept text_utf8 (one.are_kept).there
            ((spells unique (from.grammar).grammar text (kinds_and_spellings from.start from.tokens one.kept) found utf8 has).1 one.keeps);
        printed = is_ours ∙ in_pieces skips from.start from.tokens one.kept style some;
      }

  -- The text can be ended from the beginning exactly where it is printed so.
  pub ends_where_printed : AreUtf8 from.start from.tokens → AreUtf8 text found → Ends ↔ IsPrintOf from style text
  ends_where_printed start_utf8 text_utf8 = (is_print, ends_so start_utf8 text_utf8)

-- what tokens are spelled is UTF-8
are_utf8 : TokensAreInOrder → (G : WrittenGrammar) (text : List ℕ) (tokens : List PlacedToken) → IsUtf8 text → HasTokens G (chars text) tokens
    → AreUtf8 text tokens
are_utf8 order G text tokens utf8 has =
    All-weaker (λ (t : PlacedToken). IsSlice text t.start t.end) (λ (t : PlacedToken). IsUtf8 (spelling text t)) (λ t is. is.utf8) tokens
    (order G text tokens utf8 has).slices

-- So it is with what the code has of them: its own tokens, the bytes of the text, and the tokens that were found.
pub exact : TokensAreUnique → PrintedOneWay → EqualCharactersEqualBytes → TokensAreLongestMatches → TokensAreInOrder → (from : TreeStart) → IsTreeStart from
    → (skips : Skips) → AreSkipped (from.grammar).grammar skips
    → (style : Style) → IsPrintedInPieces from.tokens style → (own : List Token) → map token_of own ≡ from.tokens → (text bytes : List ℕ) → bytes ≡ text
    → IsUtf8 text → (found seen : List Token) → seen ≡ found
    → HasTokens (from.grammar).grammar (chars text) (map token_of found)
    → CanEnd skips from.start (map token_of own) style bytes None 0 (map (spelling text) (map token_of seen)) ↔ IsPrintOf from style text
exact unique one_way equal longest order from is skips agree style some own own_is text bytes bytes_are utf8 found seen seen_are has =
    let base =
    ends_where_printed unique one_way equal longest from is skips agree style some text utf8 (map token_of found) has
    (are_utf8 order (from.grammar).grammar from.start from.tokens is.utf8 is.has_tokens)
    (are_utf8 order (from.grammar).grammar text (map token_of found) utf8 has) in
    let by_tokens =
    subst (λ (ts : List PlacedToken). CanEnd skips from.start ts style text None 0 (map (spelling text) (map token_of found)) ↔ IsPrintOf from style text)
    (sym own_is) base in
    let by_bytes =
    subst (λ (b : List ℕ). CanEnd skips from.start (map token_of own) style b None 0 (map (spelling text) (map token_of found)) ↔ IsPrintOf from style text)
    (sym bytes_are) by_tokens in
    subst (λ (ts : List Token). CanEnd skips from.start (map token_of own) style bytes None 0 (map (spelling text) (map token_of ts))
    ↔ IsPrintOf from style text) (sym seen_are) by_bytes

-- A start without tokens is printed whole.
module _ (from : TreeStart) (is : IsTreeStart from) (skips : Skips) (agree : AreSkipped (from.grammar).grammar skips) (none : from.tokens ≡ [])
    (text : List ℕ) where
  whole_is : (skips' : Skips) (kept : List ℕ) → printed skips' from.start from.tokens kept Style.AsWas ≡ from.start
  whole_is skips' kept = ap (λ (ts : List PlacedToken). printed skips' from.start ts kept Style.AsWas) none

  printed_whole : text ≡ from.start → IsPrintOf from Style.AsWas text
  printed_whole same = record {
    kept = [];
    are_kept = record { rise = λ k within. absurd (omega (arith, within)); there = λ k d within. absurd (omega (arith, within)) };
    printed_so = record { skips = skips; agree = agree; same = same ∙ sym (whole_is skips []) };
    keeps = record {
      utf8 = subst IsUtf8 (sym same) is.utf8;
      tokens = from.tokens;
      has = subst (λ (t : List ℕ). HasTokens (from.grammar).grammar (chars t) from.tokens) (sym same) is.has_tokens;
      same = ap (map (kind_and_spelling text)) none;
    };
  }

  pub where_whole : (text ≡ from.start) ↔ IsPrintOf from Style.AsWas text
  where_whole = (printed_whole, λ one. (one.printed_so).same ∙ whole_is (one.printed_so).skips one.kept)

-- what is kept of a start is such a start
pub start_is : (grammar : CheckedGrammar) (start : List ℕ) (tokens : Tokens) (form : NormalForm) (skips : Skips) (separators : List (Bor (List ℕ)))
    (equal : Numbers) (keeps : List (List ℕ)) → AreFieldsOf grammar start tokens form skips separators equal
    → IsTreeStart (record { grammar = grammar; start = start; tokens = tokens_in tokens; keeps = keeps })
start_is grammar start tokens form skips separators equal keeps are = record { checked = are.checked; utf8 = are.utf8; has_tokens = are.has_tokens }

-- what is kept of a start, as it was found
pub fields_are : (grammar lexer : CheckedGrammar) (start : List ℕ) (tokens : Tokens) (form : NormalForm) (skips : Skips) (separators : List (Bor (List ℕ)))
    (equal : Numbers) → IsChecked grammar → lexer ≡ grammar → InLanguage grammar start → length start ≤ text_limit
    → HasTokens lexer.grammar (chars start) (tokens_in tokens) → form ≡ normal_of grammar → AreSkipped lexer.grammar skips
    → AreSeparators skips start (tokens_in tokens) (length (tokens_in tokens)) separators
    → HasNumbers equal (spelling_at start (tokens_in tokens)) (length (tokens_in tokens)) → AreFieldsOf lexer start tokens form skips separators equal
fields_are grammar lexer start tokens form skips separators equal is same language short has form_is agree separate lists = record {
  checked = subst IsChecked (sym same) is;
  utf8 = language.utf8;
  short = short;
  has_tokens = has;
  form_is = form_is ∙ ap normal_of (sym same);
  agree = agree;
  separate = separate;
  equal = lists;
}

-- its tokens, as they are lent
pub lists_in : (equal : Numbers) (start : List ℕ) (tokens : Tokens) (lent : List Token) → lent ≡ tokens.items.items
    → HasNumbers equal (spelling_at start (map token_of lent)) (length lent)
    → HasNumbers equal (spelling_at start (tokens_in tokens)) (length (tokens_in tokens))
lists_in equal start tokens lent is lists =
    subst (λ (n : ℕ). HasNumbers equal (spelling_at start (tokens_in tokens)) n) (sym (length-map tokens.items.items token_of))
    (subst (λ (l : List Token). HasNumbers equal (spelling_at start (map token_of l)) (length l)) is lists)

pub separate_in : (skips : Skips) (start : List ℕ) (tokens : Tokens) (separators : List (Bor (List ℕ))) (lent : List Token) → lent ≡ tokens.items.items
    → AreSeparators skips start (map token_of lent) (length lent) separators
    → AreSeparators skips start (tokens_in tokens) (length (tokens_in tokens)) separators
separate_in skips start tokens separators lent is are =
    subst (λ (n : ℕ). AreSeparators skips start (tokens_in tokens) n separators) (sym (length-map tokens.items.items token_of))
    (subst (λ (l : List Token). AreSeparators skips start (map token_of l) (length l) separators) is are)

pub order_in : TokensAreInOrder → (lexer : CheckedGrammar) (start : List ℕ) (tokens : Tokens) → IsUtf8 start
    → HasTokens lexer.grammar (chars start) (tokens_in tokens) → (lent : List Token) → lent ≡ tokens.items.items → AreInOrder start (map token_of lent)
order_in order lexer start tokens utf8 has lent is =
    subst (λ (l : List Token). AreInOrder start (map token_of l)) (sym is) (order lexer.grammar start (tokens_in tokens) utf8 has)
