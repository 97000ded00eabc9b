-- The tokens of a text, and where reading it stops.
use Rattle.std.specs.Prelude.{◌≡◌, ℕ, true, List, [], ◌∷◌, ⊤}
use Rattle.grammar_tree.specs.Written.{WrittenGrammar}
use Rattle.grammar_tree.specs.Lexes.{Lexes, Piece, PlacedToken, StopsAt, is_gap_kind, placed_tokens}
use Rattle.lexer.specs.declared.token.Token.{Token}
use Rattle.lexer.specs.declared.token.LexFault.{LexFault}

abbrev pub token_of : Token → PlacedToken
token_of t = record { kind = t.kind; start = t.start; end = t.end }

-- the text is cut into pieces, and these are the tokens among them
abbrev pub HasTokens : WrittenGrammar → List ℕ → List PlacedToken → Type 0
HasTokens G text tokens = (pieces : List Piece) × Lexes G text pieces × (tokens ≡ placed_tokens G 0 pieces)

-- the fault reports the offset at which the reading stops
abbrev pub ReportsStop : WrittenGrammar → List ℕ → LexFault → Type 0
ReportsStop G text (LexFault.NoToken offset) = StopsAt G text offset
ReportsStop G text (LexFault.Memory _) = ⊤

-- the text of this one character is one piece of a gap kind
abbrev pub IsGapText : WrittenGrammar → ℕ → Type 0
IsGapText G c = (kind : ℕ) × Lexes G (c ∷ []) (record { kind = kind; text = c ∷ [] } ∷ []) × (is_gap_kind G kind ≡ true)
