-- What is kept of the symbols that fit each rule, and how it is found.
use Rattle.std.specs.Prelude.{◌≡◌, ◌↔◌, ◌⊎◌, ℕ, ◌+◌, ◌<◌, ◌≤◌, if◌then◌else◌, nat_eq, Bool, List, [], ◌∷◌, Some, length, slice_get, slice_index, sum_by}
use Rattle.std.specs.List.{Contains, filter, flat_map}
use Rattle.normal_form.specs.declared.normal.Sym.{Sym}
use Rattle.normal_form.specs.declared.normal.Sym.TheVariants.{Kind, Set, Rule}
use Rattle.normal_form.specs.Form.{RuleForm}
use Rattle.compat_table.specs.Nullable.{is_nullable}

-- 0 for a symbol that derives the empty list, where this says which rules do, and 1 for others
abbrev pub need : (ℕ → Bool) → Sym → ℕ
need nulls s = if is_nullable nulls s then 0 else 1

-- how many of the symbols don't derive the empty list
abbrev pub needed : (ℕ → Bool) → List Sym → ℕ
needed nulls [] = 0
needed nulls (s ∷ ss) = need nulls s + needed nulls ss

-- the symbols of an alternative that can be alone in it: those beside which all others derive the empty list
abbrev pub lone_symbols : (ℕ → Bool) → List Sym → List Sym
lone_symbols nulls alt = filter (λ s. nat_eq (need nulls s) (needed nulls alt)) alt

-- the symbols for which what fits them fits the rule: those that can be alone in an alternative of it, and the symbol of a plus
abbrev pub next_symbols : (ℕ → Bool) → RuleForm → List Sym
next_symbols nulls (RuleForm.regular alts) = flat_map (lone_symbols nulls) alts
next_symbols nulls (RuleForm.star s) = []
next_symbols nulls (RuleForm.plus s) = s ∷ []
next_symbols nulls (RuleForm.opt s) = []

-- The symbol is one of those of the rule r.
abbrev pub HasEdge : List (List Sym) → ℕ → Sym → Type 0
HasEdge edges r t = (symbols : List Sym) × (slice_get edges r ≡ Some symbols) × Contains symbols t

-- Such symbols, one after another, lead from the rule r to the symbol t.
pub data LeadsTo (edges : List (List Sym)) : ℕ → Sym → Type 0 where
  by_edge : (r : ℕ) (t : Sym) → HasEdge edges r t → LeadsTo edges r t
  by_edges : (r q : ℕ) (t : Sym) → HasEdge edges r (Rule q) → LeadsTo edges q t → LeadsTo edges r t

-- Symbols, by their numbers.
pub record Symbols : Type 0 where
  pub kinds : List ℕ
  pub sets : List ℕ
  pub rules : List ℕ

abbrev pub IsAmong : Symbols → Sym → Type 0
IsAmong row (Kind k) = Contains row.kinds k
IsAmong row (Set i) = Contains row.sets i
IsAmong row (Rule r) = Contains row.rules r

-- The row has exactly the symbols that the rule r leads to.
pub record IsRowOf (edges : List (List Sym)) (r : ℕ) (row : Symbols) : Type 0 where
  pub sound : (t : Sym) → IsAmong row t → LeadsTo edges r t
  pub complete : (t : Sym) → LeadsTo edges r t → IsAmong row t

-- how many symbols the row has, each as often as it is there
abbrev pub size : Symbols → ℕ
size row = length row.kinds + length row.sets + length row.rules

-- The row has grown by these symbols.
pub record IsGrown (symbols : List Sym) (old new : Symbols) : Type 0 where
  pub only : (t : Sym) → IsAmong new t → IsAmong old t ⊎ Contains symbols t
  pub kept : (t : Sym) → IsAmong old t → IsAmong new t
  pub added : (t : Sym) → Contains symbols t → IsAmong new t
  pub few : size new ≤ size old + length symbols
  pub longer : length old.rules ≤ length new.rules
  pub front : (k : ℕ) → k < length old.rules → slice_index new.rules k ≡ slice_index old.rules k

-- how many symbols the rows have in all
abbrev pub size_of_all : List Symbols → ℕ
size_of_all rows = sum_by size rows

-- how many rules are not marked by the number
abbrev pub unmarked : ℕ → List ℕ → ℕ
unmarked number marks = sum_by (λ m. if nat_eq m number then 0 else 1) marks

-- Each rule with the mark is in the row, and the row has each of its rules once.
pub record IsMarked (marks : List ℕ) (number : ℕ) (row : Symbols) : Type 0 where
  pub known : (q : ℕ) → q < length marks → slice_index marks q ≡ number → Contains row.rules q
  pub counted : length row.rules + unmarked number marks ≡ length marks
  pub within : (q : ℕ) → Contains row.rules q → q < length marks

-- A search from the rule r has found only symbols that it leads to; it has found those to which it
-- has an edge, and those to which the first so many rules that it has found have one.
pub record IsSearched (edges : List (List Sym)) (r : ℕ) (row : Symbols) (done : ℕ) : Type 0 where
  pub sound : (t : Sym) → IsAmong row t → LeadsTo edges r t
  pub began : (t : Sym) → HasEdge edges r t → IsAmong row t
  pub closed : (k : ℕ) (t : Sym) → k < done → HasEdge edges (slice_index row.rules k) t → IsAmong row t

-- The rule r is a star of the symbol, or one of these others is.
abbrev pub HasStar : List RuleForm → ℕ → List ℕ → Sym → Type 0
HasStar rules r others t = (q : ℕ) × ((q ≡ r) ⊎ Contains others q) × (slice_get rules q ≡ Some (RuleForm.star t))

-- Of the stars among the rule r and these others these are exactly the symbols.
abbrev pub AreStars : List RuleForm → ℕ → List ℕ → Symbols → Type 0
AreStars rules r others stars = (t : Sym) → IsAmong stars t ↔ HasStar rules r others t
