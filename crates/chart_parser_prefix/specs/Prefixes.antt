-- With which lists of kinds the lists of a symbol begin.
use Rattle.std.specs.Prelude.{◌↔◌, ℕ, ◌≤◌, List, [], ◌∷◌, ◌++◌, length, take, IsTrue}
use Rattle.normal_form.specs.declared.normal.Sym.{Sym}
use Rattle.normal_form.specs.Form.{NormalForm}
use Rattle.normal_form.specs.NormalDerives.{NormalDerives}
use Rattle.chart_parser_prefix.specs.Following.{AreFirst}
use Rattle.chart_parser_prefix.specs.declared.prefix.LongestPrefix.{LongestPrefix}

-- The symbol derives some list that begins with this one.
abbrev pub IsViablePrefix : NormalForm → Sym → List ℕ → Type 0
IsViablePrefix N s w = (rest : List ℕ) × NormalDerives N s (w ++ rest)

-- The kind can follow this list: the symbol derives some list that begins with it and then has the kind.
abbrev pub CanFollow : NormalForm → Sym → List ℕ → ℕ → Type 0
CanFollow N s w k = IsViablePrefix N s (w ++ k ∷ [])

-- The first n of the kinds are the longest beginning of them that is viable.
pub record IsLongestViable (N : NormalForm) (s : Sym) (kinds : List ℕ) (n : ℕ) : Type 0 where
  pub within : n ≤ length kinds
  pub viable : IsViablePrefix N s (take n kinds)
  pub longest : (m : ℕ) → m ≤ length kinds → IsViablePrefix N s (take m kinds) → m ≤ n

-- It is the longest viable beginning of the kinds, and says whether that is derived itself, and which kinds can follow it.
pub record IsLongestPrefix (N : NormalForm) (s : Sym) (kinds : List ℕ) (p : LongestPrefix) : Type 0 where
  pub longest : IsLongestViable N s kinds p.length
  pub ends : IsTrue p.may_end ↔ NormalDerives N s (take p.length kinds)
  pub following : AreFirst (CanFollow N s (take p.length kinds)) p.next.items p.has_more
