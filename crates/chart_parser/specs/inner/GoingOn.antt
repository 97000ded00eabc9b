-- Positions from which the rest of an alternative or of a list goes on to its end.
use Rattle.std.specs.Prelude.{◌≡◌, ◌⊎◌, ◌↔◌, ℕ, ◌<◌, ◌≤◌, List, [], drop, length, map, slice_index_or, take}
use Rattle.std.specs.Global.{Vec}
use Rattle.std.specs.List.{Contains}
use Rattle.std.specs.List.Sorted.{IsStrictlyIncreasing}
use Rattle.normal_form.specs.declared.normal.Sym.{Sym}
use Rattle.normal_form.specs.Form.{NormalForm}
use Rattle.normal_form.specs.Spans.{DerivesSpan, DerivesSpanSeq, DerivesSpanMany}

-- The symbol can end at x, which is at most j, from one of the positions.
abbrev pub EndsFrom : NormalForm → List ℕ → Sym → List ℕ → ℕ → ℕ → Type 0
EndsFrom N kinds s positions j x = (p : ℕ) × Contains positions p × DerivesSpan N kinds s p x × (x ≤ j)

-- It is one of the positions, and the symbol can end from it at one of the later ones.
abbrev pub Meets : NormalForm → List ℕ → Sym → List ℕ → List ℕ → ℕ → Type 0
Meets N kinds s positions later p = Contains positions p × ((e : ℕ) × Contains later e × DerivesSpan N kinds s p e)

-- The positions, which rise, have each one up to j where the symbols that begin at i can end.
pub record HasReached (N : NormalForm) (kinds : List ℕ) (ss : List Sym) (i j : ℕ) (positions : List ℕ) : Type 0 where
  pub rising : IsStrictlyIncreasing positions
  pub all : (x : ℕ) → DerivesSpanSeq N kinds ss i x → x ≤ j → Contains positions x

-- From each of the positions, which rise, the symbols derive what is before j; and they have each one of which P holds and from which the symbols do.
pub record HasGoingOn (N : NormalForm) (kinds : List ℕ) (ss : List Sym) (j : ℕ) (P : ℕ → Type 0) (positions : List ℕ) : Type 0 where
  pub rising : IsStrictlyIncreasing positions
  pub only : (x : ℕ) → Contains positions x → DerivesSpanSeq N kinds ss x j
  pub all : (x : ℕ) → P x → DerivesSpanSeq N kinds ss x j → Contains positions x

-- the list of positions with the number k
abbrev pub set_at : List (Vec ℕ) → ℕ → List ℕ
set_at sets k = slice_index_or (map (λ set. set.items) sets) k []

-- Before n, the list with the number k has the positions that the first k symbols reach.
abbrev pub AreReached : NormalForm → List ℕ → List Sym → ℕ → ℕ → ℕ → List (Vec ℕ) → Type 0
AreReached N kinds ss i j n sets = (k : ℕ) → k < n → HasReached N kinds (take k ss) i j (set_at sets k)

-- From n on, the list with the number k has of these positions those from which the symbols after the first k go on to j.
abbrev pub AreGoingOn : NormalForm → List ℕ → List Sym → ℕ → ℕ → ℕ → List (Vec ℕ) → Type 0
AreGoingOn N kinds ss i j n sets = (k : ℕ) → n ≤ k → k ≤ length ss → HasGoingOn N kinds (drop k ss) j (DerivesSpanSeq N kinds (take k ss) i) (set_at sets k)

-- Each element ends after the position where it begins.
abbrev pub MovesOn : NormalForm → List ℕ → Sym → Type 0
MovesOn N kinds s = (p q : ℕ) → DerivesSpan N kinds s p q → p < q

-- The positions have each one before j that elements reach from one of them.
abbrev pub IsClosedBefore : NormalForm → List ℕ → Sym → ℕ → List ℕ → Type 0
IsClosedBefore N kinds s j positions = (p q : ℕ) → Contains positions p → DerivesSpan N kinds s p q → q < j → Contains positions q

-- It is j or one of the positions, and elements go on from it to j.
abbrev pub ElementsGoOn : NormalForm → List ℕ → Sym → ℕ → List ℕ → ℕ → Type 0
ElementsGoOn N kinds s j positions p = (Contains positions p ⊎ (p ≡ j)) × DerivesSpanMany N kinds s p j

-- What begins at i is a list of the symbol: where it has any kinds, it derives what the symbol does any number of times.
abbrev pub IsListOf : NormalForm → List ℕ → Sym → Sym → ℕ → Type 0
IsListOf N kinds list s i = (e : ℕ) → i < e → DerivesSpan N kinds list i e ↔ DerivesSpanMany N kinds s i e

-- From each of the positions, which rise, elements go on to j; and they have each one where
-- an element of a list that begins at i can end and from which elements do.
pub record HasEndsOfElements (N : NormalForm) (kinds : List ℕ) (s : Sym) (i j : ℕ) (positions : List ℕ) : Type 0 where
  pub rising : IsStrictlyIncreasing positions
  pub only : (x : ℕ) → Contains positions x → DerivesSpanMany N kinds s x j
  pub all : (x : ℕ) → i < x → DerivesSpanMany N kinds s i x → DerivesSpanMany N kinds s x j → Contains positions x
