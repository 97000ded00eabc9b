-- Texts that spell given tokens.
use Rattle.std.proofs.Common.{◌≡◌, ℕ, List, [], ◌∷◌, map, refl, sym, ap, ◌∙◌}
use Rattle.std.specs.Prelude.{encode_utf8_all}
use Rattle.std.specs.Str.{chars}
use Rattle.std.proofs.lemmas.Str.{encodes-chars}
use Rattle.grammar_tree.specs.Lexes.{Piece, PlacedToken}
use Rattle.token_print.specs.Spelling.{kind_and_spelling}
use Rattle.token_print.specs.Spells.{EqualCharactersEqualBytes, SpelledKinds, SpelledOneWay}
use Rattle.token_print.proofs.Once.{unique}

pub one_way : SpelledOneWay
one_way G text spelled others a b = sym a.same ∙ ap (map (kind_and_spelling text)) (unique G (chars text) a.tokens b.tokens a.has b.has) ∙ b.same

-- their spellings leave the kinds of tokens as they are
pub kinds : (text : List ℕ) (tokens : List PlacedToken)
    → map (λ (t : PlacedToken). t.kind) tokens ≡ map (λ (p : Piece). p.kind) (map (kind_and_spelling text) tokens)
kinds text [] = refl
kinds text (t ∷ tokens) = ap (λ l. t.kind ∷ l) (kinds text tokens)

pub have_kinds : SpelledKinds
have_kinds G text spelled s = (s.tokens, s.has, kinds text s.tokens ∙ ap (map (λ (p : Piece). p.kind)) s.same)

pub equal : EqualCharactersEqualBytes
equal u v left right = (λ e. sym (encodes-chars u left) ∙ ap encode_utf8_all e ∙ encodes-chars v right, λ e. ap chars e)
