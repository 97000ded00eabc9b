-- How much of a text decides which of its beginnings belong to a language.
use Rattle.std.specs.Prelude.{◌≡◌, ◌≤◌, ℕ, List, ◌∷◌, ◌++◌, length, encode_utf8_all}
use Rattle.lexer_match.specs.declared.alternative.Seen.{Seen}
use Rattle.lexer_match.specs.declared.alternative.Extent.{Extent}
use Rattle.lexer_match.specs.Longest.{IsLongestLen}

-- the text is a proper prefix of some word of the language
abbrev pub IsProperPrefix : (List ℕ → Type 0) → List ℕ → Type 0
IsProperPrefix Language front = (c : ℕ) × (w : List ℕ) × Language (front ++ c ∷ w)

-- The beginning is the least one of the text that isn't a proper prefix of any word of the language.
pub record IsSeen (Language : List ℕ → Type 0) (text front back : List ℕ) : Type 0 where
  pub cut : text ≡ front ++ back
  pub over : ¬ IsProperPrefix Language front
  pub least : (other left : List ℕ) → text ≡ other ++ left → ¬ IsProperPrefix Language other → length front ≤ length other

-- Up to there the text decides: what remains after the least such beginning, in bytes; or there is no such beginning.
abbrev pub IsSeenTo : (List ℕ → Type 0) → List ℕ → Seen → Type 0
IsSeenTo Language text (Seen.Until remaining) =
    (front : List ℕ) × (back : List ℕ) × IsSeen Language text front back × (remaining ≡ length (encode_utf8_all back))
IsSeenTo Language text Seen.All = (front back : List ℕ) → text ≡ front ++ back → ¬ ¬ IsProperPrefix Language front

-- how far the language matches a text, and up to where the text decides it
pub record IsExtent (Language : List ℕ → Type 0) (text : List ℕ) (e : Extent) : Type 0 where
  pub longest : IsLongestLen Language text e.longest
  pub seen : IsSeenTo Language text e.seen
