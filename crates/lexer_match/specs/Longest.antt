-- The longest beginning of a text that belongs to a language.
use Rattle.std.specs.Prelude.{◌≡◌, ◌≢◌, ◌⊎◌, ◌≤◌, ℕ, List, [], ◌++◌, length, encode_utf8_all}

-- no beginning of at least one character belongs to the language
abbrev pub HasNone : (List ℕ → Type 0) → List ℕ → Type 0
HasNone Language text = (front back : List ℕ) → text ≡ front ++ back → front ≢ [] → ¬ Language front

-- The beginning has at least one character and belongs to the language, and no longer one does.
pub record IsLongest (Language : List ℕ → Type 0) (text front back : List ℕ) : Type 0 where
  pub cut : text ≡ front ++ back
  pub some : front ≢ []
  pub belongs : Language front
  pub longest : (other left : List ℕ) → text ≡ other ++ left → Language other → length other ≤ length front

-- the length, in bytes, of the longest beginning of at least one character; 0 where there is none
abbrev pub IsLongestLen : (List ℕ → Type 0) → List ℕ → ℕ → Type 0
IsLongestLen Language text n =
    ((n ≡ 0) × HasNone Language text)
    ⊎ ((front : List ℕ) × (back : List ℕ) × IsLongest Language text front back × (n ≡ length (encode_utf8_all front)))
