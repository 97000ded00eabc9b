-- The bodies that are made of the two texts.
use Rattle.std.proofs.Common.{◌≡◌, ◌≤◌, ◌↔◌, ℕ, Bool, false, cond, IsTrue, List, inl, inr, ◌++◌, length, take, drop, ap, sym, subst, ◌∙◌, arith}
use Rattle.std.specs.Prelude.{codes}
use Rattle.std.specs.Str.{IsUtf8, is_utf8}
use Rattle.std.proofs.lemmas.Bool.{cases_Bool}
use Rattle.std.proofs.lemmas.List.{append-nil, drop_all, take_all}
use Rattle.std.proofs.lemmas.Str.{IsUtf8-from_is_utf8, is_utf8-from_IsUtf8}
use Rattle.grammar_reader_words.specs.Spans.{spans_of}
use Rattle.grammar_pair.specs.Bodies.{BeginsWith, all_blanked, entries_of, first_word, vocabularies, words_in}
use Rattle.grammar_pair.specs.inner.Read.{IsLexerBody, IsParserBody}

-- bytes that were lent and came back, as many as before
pub written_back : (len : ℕ) (new items : List ℕ) → length new ≡ length items → length items ≤ len → take len (new ++ drop (length new) items) ≡ new
written_back len new items same fits =
    ap (λ l. take len (new ++ l)) (drop_all (length new) items (omega (arith, same))) ∙ ap (take len) (append-nil new)
    ∙ take_all len new (omega (arith, same, fits))

module _ (bytes text : List ℕ) (same : text ≡ bytes) (utf8 : IsUtf8 bytes) where
  replaced : (spaced : List ℕ) → spaced ≡ cond (is_utf8 bytes) spaced bytes
  replaced spaced = sym (ap (λ b. cond b spaced bytes) (is_utf8-from_IsUtf8 bytes utf8))

  pub lexer_made : (body : List ℕ) (found : Bool) → body ≡ all_blanked (first_word (codes "lexer") text (spans_of text)) bytes
      → length body ≡ length bytes → (IsTrue found ↔ BeginsWith (codes "lexer") text) → IsLexerBody bytes body found
  lexer_made body found made len is = record {
    is_body =
        made ∙ ap (λ t. all_blanked (first_word (codes "lexer") t (spans_of t)) bytes) same
        ∙ replaced (all_blanked (first_word (codes "lexer") bytes (spans_of bytes)) bytes);
    same_length = len;
    is_found = λ _. subst (λ t. IsTrue found ↔ BeginsWith (codes "lexer") t) same is;
  }

  pub parser_made : (body first : List ℕ) (found : Bool) (names : List (List ℕ)) → first ≡ all_blanked (first_word (codes "parser") text (spans_of text)) bytes
      → body ≡ all_blanked (words_in (entries_of text)) first → length body ≡ length bytes → (IsTrue found ↔ BeginsWith (codes "parser") text)
      → names ≡ vocabularies (entries_of text) → IsParserBody bytes body found names
  parser_made body first found names begun made len is are = record {
    is_body =
        made ∙ ap (all_blanked (words_in (entries_of text))) begun
        ∙ ap (λ t. all_blanked (words_in (entries_of t)) (all_blanked (first_word (codes "parser") t (spans_of t)) bytes)) same
        ∙ replaced (all_blanked (words_in (entries_of bytes)) (all_blanked (first_word (codes "parser") bytes (spans_of bytes)) bytes));
    same_length = len;
    is_found = λ _. subst (λ t. IsTrue found ↔ BeginsWith (codes "parser") t) same is;
    are_names = λ _. are ∙ ap (λ t. vocabularies (entries_of t)) same;
  }

-- bytes that aren't UTF-8 are read as they are
module _ (bytes : List ℕ) (broken : ¬ IsUtf8 bytes) where
  unread : is_utf8 bytes ≡ false
  unread = elim (cases_Bool (is_utf8 bytes)) [
    | inl h ↦ absurd (broken (IsUtf8-from_is_utf8 bytes h))
    | inr h ↦ h
  ]

  as_it_is : (spaced : List ℕ) → bytes ≡ cond (is_utf8 bytes) spaced bytes
  as_it_is spaced = sym (ap (λ b. cond b spaced bytes) unread)

  module _ (body : List ℕ) (same : body ≡ bytes) where
    pub lexer_broken : IsLexerBody bytes body false
    lexer_broken = record {
      is_body = same ∙ as_it_is (all_blanked (first_word (codes "lexer") bytes (spans_of bytes)) bytes);
      same_length = ap length same;
      is_found = λ utf8. absurd (broken utf8);
    }

    pub parser_broken : (names : List (List ℕ)) → IsParserBody bytes body false names
    parser_broken names = record {
      is_body = same ∙ as_it_is (all_blanked (words_in (entries_of bytes)) (all_blanked (first_word (codes "parser") bytes (spans_of bytes)) bytes));
      same_length = ap length same;
      is_found = λ utf8. absurd (broken utf8);
      are_names = λ utf8. absurd (broken utf8);
    }
