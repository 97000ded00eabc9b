-- Beside `../Tokens.antt`: what private functions and proofs need.
use Rattle.std.specs.Prelude.{cond, List, [], ◌∷◌}
use Rattle.grammar_tree.specs.Written.{WrittenGrammar}
use Rattle.grammar_tree.specs.Lexes.{PlacedToken, is_gap_kind}

-- the token alone, and none where its kind is a gap kind
abbrev pub unless_gap : WrittenGrammar → PlacedToken → List PlacedToken
unless_gap G t = cond (is_gap_kind G t.kind) [] (t ∷ [])
