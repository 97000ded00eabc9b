-- Beside `../Reads.antt`: what private functions and proofs need.
use Rattle.std.specs.Prelude.{ℕ, Option, MatchOption, length, refl, ⊤}
use Rattle.std.specs.Coded.{Coded, code_by, coded×, coded_ℕ}
use Rattle.grammar_tree.specs.Written.{CheckedGrammar}
use Rattle.grammar_tree.specs.inner.Code.{checked_coded}
use Rattle.lexer.specs.declared.rules.Rules.{Rules}
use Rattle.lexer.specs.inner.Built.{IsBuilt}
use Rattle.lexer_match.specs.declared.reading.Reading.{Reading}
use Rattle.lexer_match.specs.Reading.{IsReady}
use Rattle.lexer.specs.Reads.{LexReads}

abbrev pub lex_reads_coded : Coded LexReads
lex_reads_coded =
    code_by (CheckedGrammar × ℕ) (coded× checked_coded coded_ℕ) (λ r. (r.checked, r.reads)) (λ p. record { checked = p.0; reads = p.1 }) (λ _. refl)

-- The rules are those of the grammar, and what reading by them takes is ready, where there is some.
pub record IsReaderOf (checked : CheckedGrammar) (rules : Rules) (reading : Option Reading) : Type 0 where
  pub built : IsBuilt checked rules
  pub ready : MatchOption reading ⊤ (IsReady (length rules.states.items))
