-- What is known of how the rules of a normal form begin. It may be too much, and is never too little.
use Rattle.std.specs.Prelude.{◌≡◌, ◌⊎◌, ℕ, ◌<◌, ◌≤◌, true, List, [], ◌∷◌, length, Some, slice_get, slice_index_or, vec_len}
use Rattle.std.specs.List.{Contains, sum_by}
use Rattle.normal_form.specs.declared.normal.Sym.{Sym}
use Rattle.normal_form.specs.declared.normal.Sym.TheVariants.{Kind, Set, Rule}
use Rattle.normal_form.specs.Form.{RuleForm, NormalForm}
use Rattle.normal_form.specs.NormalDerives.{NormalDerives}
use Rattle.chart_parser_ends.specs.declared.firsts.FirstRow.{FirstRow}
use Rattle.chart_parser_ends.specs.inner.Exact.{IsTokenOf}

-- The row has the kind, or the kind is past its kinds.
abbrev pub HasKind : FirstRow → ℕ → Type 0
HasKind row k = slice_index_or row.begins.items k true ≡ true

-- The row has cells for so many kinds, at most.
abbrev pub HasCells : ℕ → FirstRow → Type 0
HasCells kinds row = vec_len row.begins ≤ kinds

-- how many cells the rows have in all
abbrev pub cells : List FirstRow → ℕ
cells rows = sum_by (λ row. vec_len row.begins) rows

-- The symbol may derive the empty list, as far as these rows say.
abbrev pub MayBeEmpty : List FirstRow → Sym → Type 0
MayBeEmpty rows (Kind k) = ⊥
MayBeEmpty rows (Set g) = ⊥
MayBeEmpty rows (Rule r) = (row : FirstRow) → slice_get rows r ≡ Some row → row.empty ≡ true

-- The symbol may begin with the kind, as far as they say.
abbrev pub MayBegin : NormalForm → List FirstRow → Sym → ℕ → Type 0
MayBegin N rows (Kind own) k = own ≡ k
MayBegin N rows (Set g) k = IsTokenOf N (Set g) k
MayBegin N rows (Rule r) k = (row : FirstRow) → slice_get rows r ≡ Some row → HasKind row k

-- The rows say of no symbol less than is so.
pub record AreFirsts (N : NormalForm) (rows : List FirstRow) : Type 0 where
  pub empty : (s : Sym) → NormalDerives N s [] → MayBeEmpty rows s
  pub begins : (s : Sym) (k : ℕ) (w : List ℕ) → NormalDerives N s (k ∷ w) → MayBegin N rows s k

-- The row has all kinds that the symbol may begin with.
abbrev pub HasWhatBegins : NormalForm → List FirstRow → Sym → FirstRow → Type 0
HasWhatBegins N rows s row = (k : ℕ) → MayBegin N rows s k → HasKind row k

-- The new row has what the old one has.
pub record Keeps (old new : FirstRow) : Type 0 where
  pub empty : old.empty ≡ true → new.empty ≡ true
  pub kinds : (k : ℕ) → HasKind old k → HasKind new k

-- The first symbols, fewer than n, may all derive the empty list.
abbrev pub MayBeEmptyBefore : List FirstRow → List Sym → ℕ → Type 0
MayBeEmptyBefore rows alt n = (i : ℕ) (s : Sym) → i < n → slice_get alt i ≡ Some s → MayBeEmpty rows s

-- The row has the kinds of each symbol that may be first in the alternative, and may be empty if all symbols may.
pub record CoversAlternative (N : NormalForm) (rows : List FirstRow) (alt : List Sym) (row : FirstRow) : Type 0 where
  pub empty : MayBeEmptyBefore rows alt (length alt) → row.empty ≡ true
  pub begins : (i : ℕ) (s : Sym) → slice_get alt i ≡ Some s → MayBeEmptyBefore rows alt i → HasWhatBegins N rows s row

-- The row has all that a rule of this form makes it have.
abbrev pub Covers : NormalForm → List FirstRow → RuleForm → FirstRow → Type 0
Covers N rows (RuleForm.regular alts) row = (alt : List Sym) → Contains alts alt → CoversAlternative N rows alt row
Covers N rows (RuleForm.star s) row = (row.empty ≡ true) × HasWhatBegins N rows s row
Covers N rows (RuleForm.opt s) row = (row.empty ≡ true) × HasWhatBegins N rows s row
Covers N rows (RuleForm.plus s) row = (MayBeEmpty rows s → row.empty ≡ true) × HasWhatBegins N rows s row

-- The row with the number r, if there is one, has all that a rule of this form makes it have.
abbrev pub IsCovered : NormalForm → List FirstRow → ℕ → RuleForm → Type 0
IsCovered N rows r form = (row : FirstRow) → slice_get rows r ≡ Some row → Covers N rows form row

-- Each row has all that its rule makes it have.
abbrev pub AreClosed : NormalForm → List FirstRow → Type 0
AreClosed N rows = (r : ℕ) (form : RuleForm) → slice_get N.rules r ≡ Some form → IsCovered N rows r form

-- The rule is a star or an optional.
abbrev pub CanBeLeftOut : NormalForm → ℕ → Type 0
CanBeLeftOut N r = (s : Sym) × ((slice_get N.rules r ≡ Some (RuleForm.star s)) ⊎ (slice_get N.rules r ≡ Some (RuleForm.opt s)))
