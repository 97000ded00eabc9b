-- Kept tokens of a start with the spellings that they take. Tokens have their numbers from 0.
use Rattle.std.specs.Prelude.{◌≡◌, ◌<◌, ℕ, zero, suc, List, [], ◌∷◌, length, map, slice_get}
use Rattle.std.specs.List.{All, Contains}
use Rattle.std.specs.Option.{option_map_or}
use Rattle.grammar_tree.specs.Lexes.{PlacedToken}
use Rattle.token_print.specs.Spelling.{spelling, spelling_at}
use Rattle.token_print.specs.Kept.{AreKept}

-- a token of the start, by its number, and the bytes of a spelling
pub record SpelledToken : Type 0 where
  pub number : ℕ
  pub word : List ℕ

-- kept tokens, each with one spelling
abbrev pub Respelling : Type 0
Respelling = List SpelledToken

-- the numbers of its tokens
abbrev pub numbers_of : Respelling → List ℕ
numbers_of r = map (λ (p : SpelledToken). p.number) r

-- the kind of the token with this number
abbrev pub kind_at : List PlacedToken → ℕ → ℕ
kind_at tokens i = option_map_or (λ (t : PlacedToken). t.kind) (slice_get tokens i) 0

-- Some token of the same kind has this spelling in the start.
pub record IsSpelled (start : List ℕ) (tokens : List PlacedToken) (p : SpelledToken) : Type 0 where
  pub token : PlacedToken
  pub there : Contains tokens token
  pub kind : token.kind ≡ kind_at tokens p.number
  pub word : p.word ≡ spelling start token

-- The numbers are those of tokens and rise strictly, and each spelling is that of a token of the same kind in the start.
pub record IsRespelling (start : List ℕ) (tokens : List PlacedToken) (r : Respelling) : Type 0 where
  pub kept : AreKept tokens (numbers_of r)
  pub spelled : All (IsSpelled start tokens) r

-- each token with its own spelling
abbrev pub own_spellings : List ℕ → List PlacedToken → List ℕ → Respelling
own_spellings start tokens numbers = map (λ i. record { number = i; word = spelling_at start tokens i }) numbers

-- the spelling of the token at this index, and another in its place
abbrev pub word_at : Respelling → ℕ → List ℕ
word_at r k = option_map_or (λ (p : SpelledToken). p.word) (slice_get r k) []

abbrev pub number_at : Respelling → ℕ → ℕ
number_at r k = option_map_or (λ (p : SpelledToken). p.number) (slice_get r k) 0

abbrev pub with_word_at : Respelling → ℕ → List ℕ → Respelling
with_word_at [] k word = []
with_word_at (p ∷ r) zero word = record p { word = word } ∷ r
with_word_at (p ∷ r) (suc k) word = p ∷ with_word_at r k word

-- One spelling is changed to one with fewer bytes, of a token of the same kind in the start.
pub record IsShorterNeighbour (start : List ℕ) (tokens : List PlacedToken) (r other : Respelling) : Type 0 where
  pub index : ℕ
  pub within : index < length r
  pub word : List ℕ
  pub spelled : IsSpelled start tokens (record { number = number_at r index; word = word })
  pub shorter : length word < length (word_at r index)
  pub same : other ≡ with_word_at r index word
