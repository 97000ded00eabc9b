-- What contracts see of a start with its pieces.
use Rattle.std.specs.Prelude.{ℕ, List, refl}
use Rattle.std.specs.Coded.{Coded, code_by, coded×, coded_ℕ, coded_list}
use Rattle.grammar_tree.specs.Written.{CheckedGrammar}
use Rattle.grammar_tree.specs.inner.Code.{checked_coded}

-- The grammar by which the text was cut, and the text's bytes.
pub record TextOf : Type 0 where
  pub grammar : CheckedGrammar
  pub bytes : List ℕ

abbrev pub text_of_coded : Coded TextOf
text_of_coded =
    code_by (CheckedGrammar × List ℕ) (coded× checked_coded (coded_list coded_ℕ)) (λ t. (t.grammar, t.bytes)) (λ p. record { grammar = p.0; bytes = p.1 })
    (λ _. refl)
