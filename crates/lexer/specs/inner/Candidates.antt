-- Which alternatives have to be read, and what comes next by them.
use Rattle.std.specs.Prelude.{◌≡◌, ◌≢◌, ◌<◌, ◌≤◌, ℕ, List, [], ◌∷◌, ◌++◌, Some, slice_get, length, map, encode_utf8_all, Vec, ⊤}
use Rattle.std.specs.List.{Contains}
use Rattle.lexer_match.specs.declared.nfa.State.{State}
use Rattle.lexer_match.specs.declared.alternative.Alternative.{Alternative}
use Rattle.lexer_match.specs.declared.alternative.Seen.{Seen}
use Rattle.lexer.specs.declared.candidates.Beginning.{Beginning}
use Rattle.lexer_match.specs.Nfa.{Reads}
use Rattle.lexer_match.specs.StateSets.{AreFirst}
use Rattle.lexer_match.specs.Longest.{IsLongestLen}
use Rattle.lexer_match.specs.Reading.{IsRead}
use Rattle.lexer_match.specs.Alternatives.{HasAlternative}

-- Some of the alternatives, with all that can read a text which begins with the character.
pub record AreCandidates (P : List State) (all some : List Alternative) (c : ℕ) : Type 0 where
  pub among : (a : Alternative) → Contains some a → Contains all a
  pub complete : (a : Alternative) (w : List ℕ) → Contains all a → Reads P a.start (c ∷ w) → Contains some a

-- the states are in the NFA, and are the first ones of the alternative
pub record IsBeginning (P : List State) (b : Beginning) : Type 0 where
  pub inside : (n : ℕ) → Contains b.states.items n → n < length P
  pub first : AreFirst P b.alternative.start b.states.items

-- each alternative has its beginning, in their order
pub record AreBeginnings (P : List State) (all : List Alternative) (list : List Beginning) : Type 0 where
  pub alternatives : map (λ (b : Beginning). b.alternative) list ≡ all
  pub each : (b : Beginning) → Contains list b → IsBeginning P b

-- each list has candidates for the character that is its index
abbrev pub AreListed : {A : Type 0} → List State → List Alternative → List (Vec Alternative A) → Type 0
AreListed {A} P all lists = (c : ℕ) (list : Vec Alternative A) → slice_get lists c ≡ Some list → AreCandidates P all list.items c

-- no alternative matches a beginning of at least one character
abbrev pub HasNoNext : List State → List Alternative → List ℕ → Type 0
HasNoNext P all text = (k : ℕ) (front back : List ℕ) → text ≡ front ++ back → front ≢ [] → ¬ HasAlternative P all k front

-- The text begins with a match of the kind, which has so many bytes. No alternative has a longer one, and none of a lesser kind has the same.
pub record ComesNext (P : List State) (all : List Alternative) (text : List ℕ) (kind len : ℕ) : Type 0 where
  pub front : List ℕ
  pub back : List ℕ
  pub cut : text ≡ front ++ back
  pub some : front ≢ []
  pub matched : HasAlternative P all kind front
  pub longest : (other : ℕ) (f b : List ℕ) → text ≡ f ++ b → HasAlternative P all other f → length f ≤ length front
  pub least : (other : ℕ) → HasAlternative P all other front → kind ≤ other
  pub bytes : len ≡ length (encode_utf8_all front)

-- the other one is no nearer in the text
abbrev pub IsNoNearer : Seen → Seen → Type 0
IsNoNearer (Seen.Until left) (Seen.Until other) = other ≤ left
IsNoNearer (Seen.Until left) Seen.All = ⊤
IsNoNearer Seen.All (Seen.Until other) = ⊥
IsNoNearer Seen.All Seen.All = ⊤

-- one of the alternatives matches the text
abbrev pub IsMatchedByOne : List State → List Alternative → List ℕ → Type 0
IsMatchedByOne P list w = (a : Alternative) × Contains list a × IsRead P a w

-- The best match of the alternatives: the longest one, and that of the least kind on a tie. The length 0 means none.
pub record IsBestOf (P : List State) (list : List Alternative) (text : List ℕ) (kind len : ℕ) : Type 0 where
  pub each : (a : Alternative) → Contains list a → (n : ℕ) × IsLongestLen (IsRead P a) text n × (n ≤ len) × (n ≡ len → 0 < len → kind ≤ a.kind)
  pub some : 0 < len → (a : Alternative) × Contains list a × (a.kind ≡ kind) × IsLongestLen (IsRead P a) text len
