-- The spellings of tokens, and the gaps between them. A text is its UTF-8 bytes here, since the offsets of tokens count bytes.
use Rattle.std.specs.Prelude.{ℕ, zero, suc, List, [], ◌++◌, map, slice_get, length}
use Rattle.std.specs.List.{between, filter_map, flat_map, range_with_len}
use Rattle.std.specs.Option.{option_map_or}
use Rattle.std.specs.Str.{chars}
use Rattle.grammar_tree.specs.Lexes.{Piece, PlacedToken}

-- a token's spelling: the bytes from its start up to its end
abbrev pub spelling : List ℕ → PlacedToken → List ℕ
spelling text t = between t.start t.end text

-- the kind of a token, with the characters of its spelling
abbrev pub kind_and_spelling : List ℕ → PlacedToken → Piece
kind_and_spelling text t = record { kind = t.kind; text = chars (spelling text t) }

-- the kinds and spellings of the tokens with these numbers, in the order of the list
abbrev pub kinds_and_spellings : List ℕ → List PlacedToken → List ℕ → List Piece
kinds_and_spellings text tokens numbers = map (kind_and_spelling text) (filter_map (slice_get tokens) numbers)

-- the spelling of the token with this number; empty where there is none
abbrev pub spelling_at : List ℕ → List PlacedToken → ℕ → List ℕ
spelling_at text tokens i = option_map_or (spelling text) (slice_get tokens i) []

-- Where the gap with this number begins: the first one at the beginning of the text, each other one at
-- the end of the token before it; and where there is no such token, at the end of the text.
abbrev pub gap_start : List ℕ → List PlacedToken → ℕ → ℕ
gap_start text tokens zero = 0
gap_start text tokens (suc i) = option_map_or (λ (t : PlacedToken). t.end) (slice_get tokens i) (length text)

-- Where it ends: at the start of the token with its number; and where there is no such token, at the end of the text.
abbrev pub gap_end : List ℕ → List PlacedToken → ℕ → ℕ
gap_end text tokens i = option_map_or (λ (t : PlacedToken). t.start) (slice_get tokens i) (length text)

-- The gap with this number: what is between the token before it and the token with its
-- number. Gap 0 leads, and the gap whose number is that of all tokens trails.
abbrev pub gap_text : List ℕ → List PlacedToken → ℕ → List ℕ
gap_text text tokens i = between (gap_start text tokens i) (gap_end text tokens i) text

-- a token's own gap, and then its spelling
abbrev pub gap_and_spelling : List ℕ → List PlacedToken → ℕ → List ℕ
gap_and_spelling text tokens i = gap_text text tokens i ++ spelling_at text tokens i

-- each token's gap and spelling, one after another, and then the trailing gap
abbrev pub gaps_and_spellings : List ℕ → List PlacedToken → List ℕ
gaps_and_spellings text tokens = flat_map (gap_and_spelling text tokens) (range_with_len 0 (length tokens)) ++ gap_text text tokens (length tokens)
