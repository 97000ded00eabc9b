-- The grammar of two texts is no larger than the texts.
use Rattle.std.proofs.Common.{◌≡◌, ◌≤◌, ◌+◌, ◌-◌, ℕ, List, [], ◌∷◌, ◌++◌, Option, Some, None, length, take, drop}
use Rattle.std.proofs.Common.{refl, ap, sym, subst, ◌∙◌, arith, length-append, length-drop}
use Rattle.std.specs.Prelude.{codes, option_map, replicate}
use Rattle.std.specs.Str.{bytes_eq, is_utf8}
use Rattle.std.proofs.lemmas.List.{length-replicate, length-take-le}
use Rattle.grammar_tree.specs.Size.{grammar_size}
use Rattle.grammar_tree.specs.Written.{WrittenGrammar}
use Rattle.grammar_reader_notation.proofs.Lent.{profile_fits}
use Rattle.grammar_reader_words.specs.Spans.{spans_of}
use Rattle.grammar_reader_words.specs.Words.{words_of}
use Rattle.grammar_reader_words.specs.declared.span.Span.{Span}
use Rattle.grammar_reader_words.proofs.Lent.{AreWithin, choose, spans_within}
use Rattle.grammar_pair.specs.Bodies.{WrittenEntry, after_word, all_blanked, are_entry, blanked, entries_from, entries_of, entry_at}
use Rattle.grammar_pair.specs.Bodies.{entry_of, first_word, lexer_body, name_of, parser_body, put, spelled, words_in}
use Rattle.grammar_pair.specs.Joined.{IsJoined}
use Rattle.grammar_pair.specs.declared.entries.Part.{Part}
use Rattle.grammar_pair.specs.declared.entries.Part.TheVariants.{Head, Prequels, Options, Tokens, InTokens, AtEntry, InEntry, Rules}
use Rattle.grammar_pair.proofs.Pairs.{joined_size}

blanked_length : (span : Span) (bytes : List ℕ) → span.start ≤ span.end → span.end ≤ length bytes → length (blanked span bytes) ≡ length bytes
blanked_length span bytes order within =
    let parts : length (blanked span bytes) ≡ length (take span.start bytes) + length {A = ℕ} (replicate (span.end - span.start) 32 ++ drop span.end bytes) =
    length-append (take span.start bytes) (replicate (span.end - span.start) 32 ++ drop span.end bytes) in
    let more : length {A = ℕ} (replicate (span.end - span.start) 32 ++ drop span.end bytes) ≡ length {A = ℕ} (replicate (span.end - span.start) 32) + length
    (drop span.end bytes) = length-append (replicate (span.end - span.start) 32) (drop span.end bytes) in
    let before : length (take span.start bytes) ≡ span.start = length-take-le span.start bytes (omega (arith, order, within)) in
    let spaces : length {A = ℕ} (replicate (span.end - span.start) 32) ≡ span.end - span.start = length-replicate (span.end - span.start) 32 in
    let after : length (drop span.end bytes) ≡ length bytes - span.end = length-drop span.end bytes in
    omega (arith, parts, more, before, spaces, after, order, within)

all_blanked_length : (spans : List Span) (bytes : List ℕ) → AreWithin (length bytes) spans → length (all_blanked spans bytes) ≡ length bytes
all_blanked_length [] bytes within = refl
all_blanked_length (span ∷ spans) bytes within =
    let same : length (blanked span bytes) ≡ length bytes = blanked_length span bytes within.0.0 within.0.1 in
    all_blanked_length spans (blanked span bytes) (subst (λ n. AreWithin n spans) (sym same) within.1) ∙ same

module _ (total : ℕ) where
  first_within : (word bytes : List ℕ) (spans : List Span) → AreWithin total spans → AreWithin total (first_word word bytes spans)
  first_within word bytes [] within = tt
  first_within word bytes (span ∷ spans) within = choose (AreWithin total) (bytes_eq (spelled bytes span) word) {x = span ∷ []} {y = []} (within.0, tt) tt

  put_within : (o : Option WrittenEntry) (entries : List WrittenEntry) → AreWithin total (words_in (put o [])) → AreWithin total (words_in entries)
      → AreWithin total (words_in (put o entries))
  put_within None entries first later = later
  put_within (Some entry) entries first later = (first.0, (first.1.0, (first.1.1.0, (first.1.1.1.0, later))))

  with_name : (a b c d : Span) → AreWithin total (a ∷ b ∷ c ∷ d ∷ []) → (o : Option (List ℕ)) →
      AreWithin total
      (words_in (put (option_map (λ name. let entry : WrittenEntry = record { keyword = a; equals = b; named = c; semicolon = d; name = name } in entry) o) []))
  with_name a b c d within None = tt
  with_name a b c d within (Some name) = within

  entry_within : (bytes : List ℕ) (spans : List Span) → AreWithin total spans → AreWithin total (words_in (put (entry_of bytes spans) []))
  entry_within bytes [] within = tt
  entry_within bytes (a ∷ []) within = tt
  entry_within bytes (a ∷ b ∷ []) within = tt
  entry_within bytes (a ∷ b ∷ c ∷ []) within = tt
  entry_within bytes (a ∷ b ∷ c ∷ d ∷ spans) within =
      choose (λ o. AreWithin total (words_in (put o []))) (are_entry bytes a b d) {y = None}
      (with_name a b c d (within.0, (within.1.0, (within.1.1.0, (within.1.1.1.0, tt)))) (name_of (words_of (spelled bytes c)))) tt

  at_within : (part : Part) (bytes : List ℕ) (spans : List Span) → AreWithin total spans → AreWithin total (words_in (put (entry_at part bytes spans) []))
  at_within Head bytes spans within = tt
  at_within Prequels bytes spans within = tt
  at_within Options bytes spans within = tt
  at_within Tokens bytes spans within = tt
  at_within InTokens bytes spans within = tt
  at_within AtEntry bytes spans within = entry_within bytes spans within
  at_within InEntry bytes spans within = tt
  at_within Rules bytes spans within = tt

  entries_within : (part : Part) (bytes : List ℕ) (spans : List Span) → AreWithin total spans → AreWithin total (words_in (entries_from part bytes spans))
  entries_within part bytes [] within = tt
  entries_within part bytes (span ∷ spans) within =
      put_within (entry_at part bytes (span ∷ spans)) (entries_from (after_word part (spelled bytes span)) bytes spans)
      (at_within part bytes (span ∷ spans) within)
      (entries_within (after_word part (spelled bytes span)) bytes spans within.1)

lexer_body_length : (bytes : List ℕ) → length (lexer_body bytes) ≡ length bytes
lexer_body_length bytes =
    choose (λ body. length body ≡ length bytes) (is_utf8 bytes)
    (all_blanked_length (first_word (codes "lexer") bytes (spans_of bytes)) bytes
    (first_within (length bytes) (codes "lexer") bytes (spans_of bytes) (spans_within bytes))) refl

parser_body_length : (bytes : List ℕ) → length (parser_body bytes) ≡ length bytes
parser_body_length bytes =
    let body : List ℕ = all_blanked (first_word (codes "parser") bytes (spans_of bytes)) bytes in
    let same : length body ≡ length bytes =
    all_blanked_length (first_word (codes "parser") bytes (spans_of bytes)) bytes
    (first_within (length bytes) (codes "parser") bytes (spans_of bytes) (spans_within bytes)) in
    let within : AreWithin (length body) (words_in (entries_of bytes)) =
    subst (λ n. AreWithin n (words_in (entries_of bytes))) (sym same) (entries_within (length bytes) Head bytes (spans_of bytes) (spans_within bytes)) in
    choose (λ body. length body ≡ length bytes) (is_utf8 bytes) (all_blanked_length (words_in (entries_of bytes)) body within ∙ same) refl

pub joined_fits : (lexer parser : List ℕ) (G : WrittenGrammar) → IsJoined lexer parser G → grammar_size G ≤ length lexer + length parser
joined_fits lexer parser G j =
    let of_lexer : grammar_size j.lexer_grammar ≤ length (lexer_body lexer) = profile_fits j.lexer_text.read in
    let of_parser : grammar_size j.parser_grammar ≤ length (parser_body parser) = profile_fits j.parser_text.read in
    let size : grammar_size G ≡ grammar_size j.lexer_grammar + grammar_size j.parser_grammar =
    ap grammar_size j.is_joined ∙ joined_size j.lexer_grammar j.parser_grammar in
    omega (arith, of_lexer, of_parser, size, lexer_body_length lexer, parser_body_length parser)
