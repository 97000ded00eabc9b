-- The codes of starts, by which a proof tells two apart.
use Rattle.std.specs.Prelude.{ℕ, List, refl}
use Rattle.std.specs.Coded.{Coded, code_by, coded×, coded_ℕ, coded_list}
use Rattle.grammar_tree.specs.Written.{CheckedGrammar}
use Rattle.grammar_tree.specs.Lexes.{PlacedToken}
use Rattle.grammar_tree.specs.inner.Code.{checked_coded}
use Rattle.cert_check_texts.specs.Texts.{LineStart, TreeStart}

abbrev token_coded : Coded PlacedToken
token_coded =
    code_by (ℕ × (ℕ × ℕ)) (coded× coded_ℕ (coded× coded_ℕ coded_ℕ)) (λ t. (t.kind, (t.start, t.end))) (λ p. record { kind = p.0; start = p.1.0; end = p.1.1 })
    (λ _. refl)

abbrev pub start_coded : Coded TreeStart
start_coded =
    code_by (CheckedGrammar × (List ℕ × (List PlacedToken × List (List ℕ))))
    (coded× checked_coded (coded× (coded_list coded_ℕ) (coded× (coded_list token_coded) (coded_list (coded_list coded_ℕ)))))
    (λ s. (s.grammar, (s.start, (s.tokens, s.keeps)))) (λ p. record { grammar = p.0; start = p.1.0; tokens = p.1.1.0; keeps = p.1.1.1 }) (λ _. refl)

abbrev pub lines_coded : Coded LineStart
lines_coded =
    code_by (List ℕ × List (List ℕ)) (coded× (coded_list coded_ℕ) (coded_list (coded_list coded_ℕ))) (λ s. (s.start, s.keeps))
    (λ p. record { start = p.0; keeps = p.1 }) (λ _. refl)
