-- Terms as values that are stored: each as the grammar that has it alone, by the code of grammars.
use Rattle.std.specs.Prelude.{List, [], ◌∷◌, false, refl}
use Rattle.std.specs.Coded.{Coded, code_by}
use Rattle.grammar_tree.specs.Written.{WrittenTerm, WrittenSeq, WrittenAlts, LexerTerm, LexerSeq, LexerAlts, WrittenRule, WrittenGrammar}
use Rattle.grammar_tree.specs.inner.Code.{grammar_coded}

abbrev lexer_part : LexerTerm → WrittenGrammar
lexer_part t =
    record {
      name = [];
      tokens = [];
      rules =
          WrittenRule.lexer_rule (record { name = []; fragment = false; gap = false; alts = LexerAlts.or (LexerSeq.next t LexerSeq.done) LexerAlts.none }) ∷ [];
    }

abbrev lexer_first : LexerAlts → LexerTerm
lexer_first (LexerAlts.or (LexerSeq.next t s) a) = t
lexer_first _ = LexerTerm.literal []

abbrev lexer_back : List WrittenRule → LexerTerm
lexer_back (WrittenRule.lexer_rule r ∷ rs) = lexer_first r.alts
lexer_back _ = LexerTerm.literal []

abbrev pub lexer_term_coded : Coded LexerTerm
lexer_term_coded = code_by WrittenGrammar grammar_coded lexer_part (λ g. lexer_back g.rules) (λ _. refl)

abbrev parser_part : WrittenTerm → WrittenGrammar
parser_part t =
    record {
      name = [];
      tokens = [];
      rules = WrittenRule.parser_rule (record { name = []; alts = WrittenAlts.or (WrittenSeq.next t WrittenSeq.done) WrittenAlts.none }) ∷ [];
    }

abbrev parser_first : WrittenAlts → WrittenTerm
parser_first (WrittenAlts.or (WrittenSeq.next t s) a) = t
parser_first _ = WrittenTerm.any

abbrev parser_back : List WrittenRule → WrittenTerm
parser_back (WrittenRule.parser_rule r ∷ rs) = parser_first r.alts
parser_back _ = WrittenTerm.any

abbrev pub parser_term_coded : Coded WrittenTerm
parser_term_coded = code_by WrittenGrammar grammar_coded parser_part (λ g. parser_back g.rules) (λ _. refl)
