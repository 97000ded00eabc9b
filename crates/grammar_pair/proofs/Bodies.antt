-- Reading the body of a text.
use Rattle.std.proofs.Common.{◌≡◌, ◌≢◌, ℕ, Bool, true, false, cond, IsTrue, List, inl, inr, Err, ap, sym, subst}
use Rattle.std.specs.Prelude.{IfErr, IsErrAnd, Ok, Result, codes}
use Rattle.std.specs.Str.{IsUtf8, is_utf8}
use Rattle.std.proofs.lemmas.Bool.{cases_Bool}
use Rattle.std.proofs.lemmas.Str.{IsUtf8-from_is_utf8}
use Rattle.faults.specs.Memory.{ran_out}
use Rattle.grammar_tree.specs.Written.{WrittenGrammar}
use Rattle.grammar_reader_notation.specs.Reads.{IsFaultOf, IsProfile}
use Rattle.grammar_reader_notation.specs.declared.fault.ReadFault.{ReadFault}
use Rattle.grammar_reader_notation.specs.declared.fault.ReadFault.TheVariants as read
use Rattle.grammar_reader_words.specs.Spans.{spans_of}
use Rattle.grammar_pair.specs.Bodies.{all_blanked, entries_of, first_word, lexer_body, parser_body, vocabularies, words_in}
use Rattle.grammar_pair.specs.Joined.{IsLexerFault, IsLexerText, IsParserFault, IsParserText}
use Rattle.grammar_pair.specs.inner.Read.{IsLexerBody, IsParserBody}
use Rattle.grammar_pair.specs.declared.fault.PairFault.{PairFault}
use Rattle.grammar_pair.specs.declared.fault.PairFault.TheVariants as f

-- what is answered where memory runs out
pub memory_gives : {A : Type 0} (P : PairFault → Type 0) → P (f.Memory ran_out) → (r : Result A PairFault)
    → IsErrAnd r (λ fault. fault ≡ f.Memory ran_out) → IfErr r P
memory_gives P memory (Ok a) h = absurd h
memory_gives P memory (Err fault) h = subst P (sym h) memory

-- a body that is UTF-8 is that of a text which is
utf8_of : (bytes replaced : List ℕ) → IsUtf8 (cond (is_utf8 bytes) replaced bytes) → IsUtf8 bytes
utf8_of bytes replaced u = elim (cases_Bool (is_utf8 bytes)) [
  | inl h ↦ IsUtf8-from_is_utf8 bytes h
  | inr h ↦ subst IsUtf8 (ap (λ b. cond b replaced bytes) h) u
]

false_of : (b : Bool) → b ≡ false → IsTrue b → ⊥
false_of true e t = cc e
false_of false e t = cc t

module _ {bytes items body : List ℕ} {found : Bool} (same : body ≡ items) (of_items : IsLexerBody bytes items found) where
  lexer_is : IsLexerBody bytes body found
  lexer_is = subst (λ b. IsLexerBody bytes b found) (sym same) of_items

  lexer_profile : (L : WrittenGrammar) → IsProfile body L → IsProfile (lexer_body bytes) L
  lexer_profile L p = subst (λ b. IsProfile b L) lexer_is.is_body p

  lexer_utf8 : (L : WrittenGrammar) → IsProfile (lexer_body bytes) L → IsUtf8 bytes
  lexer_utf8 L p = utf8_of bytes (all_blanked (first_word (codes "lexer") bytes (spans_of bytes)) bytes) p.utf8

  pub not_lexer : (L : WrittenGrammar) → found ≡ false → IsProfile body L → IsLexerFault bytes f.NotLexer
  not_lexer L e p = let q : IsProfile (lexer_body bytes) L =
      lexer_profile L p in IsLexerFault.not_lexer q (λ b. false_of found e ((lexer_is.is_found (lexer_utf8 L q)).1 b))

  pub never_lexer : (L : WrittenGrammar) → found ≡ false → IsLexerText bytes L → ⊥
  never_lexer L e t = false_of found e ((lexer_is.is_found (lexer_utf8 L t.read)).1 t.lexer)

  pub lexer_read : (L : WrittenGrammar) → IsLexerText bytes L → IsProfile body L
  lexer_read L t = subst (λ b. IsProfile b L) (sym lexer_is.is_body) t.read

  pub lexer_fault : (fault : ReadFault) → fault ≢ read.Memory ran_out → IsFaultOf body (Err fault) → IsLexerFault bytes (f.LexerText fault)
  lexer_fault fault some h = IsLexerFault.lexer_text some (subst (λ b. IsFaultOf b (Err fault)) lexer_is.is_body h)

module _ {bytes items body : List ℕ} {found : Bool} {names : List (List ℕ)} (same : body ≡ items) (of_items : IsParserBody bytes items found names) where
  parser_is : IsParserBody bytes body found names
  parser_is = subst (λ b. IsParserBody bytes b found names) (sym same) of_items

  parser_profile : (P : WrittenGrammar) → IsProfile body P → IsProfile (parser_body bytes) P
  parser_profile P p = subst (λ b. IsProfile b P) parser_is.is_body p

  parser_utf8 : (P : WrittenGrammar) → IsProfile (parser_body bytes) P → IsUtf8 bytes
  parser_utf8 P p = utf8_of bytes (all_blanked (words_in (entries_of bytes)) (all_blanked (first_word (codes "parser") bytes (spans_of bytes)) bytes)) p.utf8

  pub names_read : (P : WrittenGrammar) → IsProfile body P → names ≡ vocabularies (entries_of bytes)
  names_read P p = parser_is.are_names (parser_utf8 P (parser_profile P p))

  pub parser_text : (P : WrittenGrammar) → found ≡ true → IsProfile body P → IsParserText bytes P
  parser_text P e p = let q : IsProfile (parser_body bytes) P =
      parser_profile P p in record { read = q; parser = (parser_is.is_found (parser_utf8 P q)).0 e }

  pub not_parser : (P : WrittenGrammar) → found ≡ false → IsProfile body P → IsParserFault bytes f.NotParser
  not_parser P e p = let q : IsProfile (parser_body bytes) P =
      parser_profile P p in IsParserFault.not_parser q (λ b. false_of found e ((parser_is.is_found (parser_utf8 P q)).1 b))

  pub never_parser : (P : WrittenGrammar) → found ≡ false → IsParserText bytes P → ⊥
  never_parser P e t = false_of found e ((parser_is.is_found (parser_utf8 P t.read)).1 t.parser)

  pub parser_read : (P : WrittenGrammar) → IsParserText bytes P → IsProfile body P
  parser_read P t = subst (λ b. IsProfile b P) (sym parser_is.is_body) t.read

  pub parser_fault : (fault : ReadFault) → fault ≢ read.Memory ran_out → IsFaultOf body (Err fault) → IsParserFault bytes (f.ParserText fault)
  parser_fault fault some h = IsParserFault.parser_text some (subst (λ b. IsFaultOf b (Err fault)) parser_is.is_body h)
