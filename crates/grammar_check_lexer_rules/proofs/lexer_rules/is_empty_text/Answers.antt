use Rattle.std.proofs.Common.{◌≡◌, ℕ, List, [], ◌∷◌, eqb, length, inl, inr, arith, refl, sym, ap, ◌∙◌}
use Rattle.std.proofs.lemmas.Bool.{cases_Bool}
use Rattle.std.proofs.lemmas.Bool.Decides.{Decides-eqb}
use Rattle.std.specs.Prelude.{encode_utf8_all}
use Rattle.std.specs.Str.{IsUtf8, chars}
use Rattle.std.proofs.lemmas.Str.{chars-nil, encodes-chars}
use Rattle.grammar_check_lexer_rules.specs.Lexer.{is_nil}
use Rattle.grammar_check_lexer_rules.proofs.lexer_rules.is_empty_text.Goals as goal

nil_chars : (bytes cs : List ℕ) → IsUtf8 bytes → chars bytes ≡ cs → eqb (length bytes) 0 ≡ is_nil cs
nil_chars [] [] u e = refl
nil_chars [] (c ∷ cs) u e = let bad : c ∷ cs ≡ [] = sym e ∙ chars-nil in absurd cc
nil_chars (b ∷ bytes) (c ∷ cs) u e =
    elim (cases_Bool (eqb (length (b ∷ bytes)) 0)) [ inl t ↦ absurd (omega (arith, (Decides-eqb (length (b ∷ bytes)) 0).0 t)) | inr more ↦ more ]
nil_chars (b ∷ bytes) [] u e = let bad : b ∷ bytes ≡ [] = sym (encodes-chars (b ∷ bytes) u) ∙ ap encode_utf8_all e in absurd cc

pub returns : goal.returns
returns c = c.is_empty.ensures ∙ nil_chars c.as_str.result.now c.args.text.now c.as_str.utf8 c.as_str.ensures
