-- Positions in a list that are marked, and what a pattern spans, given what the rules do.
use Rattle.std.specs.Prelude.{◌≡◌, ◌↔◌, ◌<◌, ◌⊎◌, ℕ, suc, Bool, true, false, ⊤, List, [], ◌∷◌, ◌++◌, Some, slice_get, slice_index_or, vec_len}
use Rattle.std.specs.List.{Contains}
use Rattle.grammar_tree.specs.Chars.{has}
use Rattle.cases_languages.specs.Patterns.{Pattern, Spans}
use Rattle.cases_languages.specs.declared.chart.Row.{Row}

-- the position is marked
abbrev pub IsIn : List Bool → ℕ → Type 0
IsIn marks j = slice_index_or marks j false ≡ true

-- one step or more by the relation
pub data Many (R : ℕ → ℕ → Type 0) : ℕ → ℕ → Type 0 where
  last : (i j : ℕ) → R i j → Many R i j
  more : (i m j : ℕ) → R i m → Many R m j → Many R i j

-- From the position i the pattern spans up to the position j, where `known` says what each rule spans.
abbrev pub SpansBy : (ℕ → ℕ → ℕ → Type 0) → List ℕ → Pattern → ℕ → ℕ → Type 0
SpansBy known list Pattern.never i j = ⊥
SpansBy known list Pattern.empty i j = i ≡ j
SpansBy known list (Pattern.one ranges) i j = (k : ℕ) × (slice_get list i ≡ Some k) × (has ranges k ≡ true) × (suc i ≡ j)
SpansBy known list (Pattern.rule r) i j = known r i j
SpansBy known list (Pattern.seq p q) i j = (m : ℕ) × SpansBy known list p i m × SpansBy known list q m j
SpansBy known list (Pattern.alt p q) i j = SpansBy known list p i j ⊎ SpansBy known list q i j
SpansBy known list (Pattern.plus p) i j = Many (λ a b. SpansBy known list p a b) i j

-- some row says that the rule spans from i up to j
abbrev pub Known : List Row → ℕ → ℕ → ℕ → Type 0
Known rows r i j = (row : Row) × Contains rows row × (row.rule ≡ r) × (row.start ≡ i) × IsIn row.ends.items j

-- Each row starts at one of so many positions, and marks some of them.
abbrev pub Fit : List Row → ℕ → Type 0
Fit rows count = (row : Row) → Contains rows row → (vec_len row.ends ≡ count) × (row.start < count)

-- `to` marks the positions up to which the pattern spans from a position that `from` marks.
abbrev pub AreEnds : (ℕ → ℕ → ℕ → Type 0) → List ℕ → Pattern → List Bool → List Bool → Type 0
AreEnds known list p from to = (j : ℕ) → IsIn to j ↔ ((i : ℕ) × IsIn from i × SpansBy known list p i j)

-- What the pattern, and steps by it, reach from the positions in `from`: `all` has all that one step reaches, and nothing that no steps reach.
pub record Begun (known : ℕ → ℕ → ℕ → Type 0) (list : List ℕ) (p : Pattern) (from all : List Bool) : Type 0 where
  pub one : (i j : ℕ) → IsIn from i → SpansBy known list p i j → IsIn all j
  pub sound : (j : ℕ) → IsIn all j → (i : ℕ) × IsIn from i × SpansBy known list (Pattern.plus p) i j

-- The two lists are as long as one another, and each two of their elements at one position are so related.
abbrev pub Pairs : (Row → Row → Type 0) → List Row → List Row → Type 0
Pairs R [] [] = ⊤
Pairs R [] (y ∷ ys) = ⊥
Pairs R (x ∷ xs) [] = ⊥
Pairs R (x ∷ xs) (y ∷ ys) = R x y × Pairs R xs ys

-- There is a row for each of so many rules and each of so many positions.
pub record AreRows (rows : List Row) (rules count : ℕ) : Type 0 where
  pub fit : Fit rows count
  pub within : (row : Row) → Contains rows row → row.rule < rules
  pub all : (r i : ℕ) → r < rules → i < count → (row : Row) × Contains rows row × (row.rule ≡ r) × (row.start ≡ i)

-- no row marks a position
abbrev pub IsBlank : List Row → Type 0
IsBlank rows = (row : Row) → Contains rows row → (j : ℕ) → ¬ IsIn row.ends.items j

-- the body of a rule spans that part, given what the rules do
abbrev pub BodySpans : (ℕ → ℕ → ℕ → Type 0) → List Pattern → List ℕ → ℕ → ℕ → ℕ → Type 0
BodySpans known bodies list r i j = (p : Pattern) × (slice_get bodies r ≡ Some p) × SpansBy known list p i j

-- The new row is the old one, which also marks the positions up to which its rule's body spans.
pub record Grows (known : ℕ → ℕ → ℕ → Type 0) (bodies : List Pattern) (list : List ℕ) (old new : Row) : Type 0 where
  pub rule : new.rule ≡ old.rule
  pub start : new.start ≡ old.start
  pub len : vec_len new.ends ≡ vec_len old.ends
  pub marks : (j : ℕ) → IsIn new.ends.items j ↔ (IsIn old.ends.items j ⊎ BodySpans known bodies list old.rule old.start j)

abbrev pub SameEnds : Row → Row → Type 0
SameEnds old new = old.ends.items ≡ new.ends.items

abbrev pub SameLength : Row → Row → Type 0
SameLength old new = vec_len old.ends ≡ vec_len new.ends

-- Each rule is known to span only where it does, and everywhere where it does from one of so many positions on.
pub record IsExact (rows : List Row) (bodies : List Pattern) (list : List ℕ) (count : ℕ) : Type 0 where
  pub sound : (r i j : ℕ) → Known rows r i j → Spans bodies list (Pattern.rule r) i j
  pub all : (r i j : ℕ) → i < count → Spans bodies list (Pattern.rule r) i j → Known rows r i j

-- Rows of one rule, one for each of the first `done` of so many positions, are added, and mark nothing.
pub record AddsRows (old new : List Row) (rule count done : ℕ) : Type 0 where
  pub added : List Row
  pub appended : new ≡ old ++ added
  pub blank : (row : Row) → Contains added row → (row.rule ≡ rule) × (vec_len row.ends ≡ count) × (row.start < count) × ((j : ℕ) → ¬ IsIn row.ends.items j)
  pub all : (i : ℕ) → i < done → (row : Row) × Contains added row × (row.start ≡ i)
