-- How a row grows while it is made.
use Rattle.std.proofs.Common.{◌≡◌, ℕ, zero, suc, ◌+◌, ◌/◌, ◌<◌, ◌≤◌, ◌⊎◌, inl, inr, true, List, [], ◌∷◌, length, vec_len}
use Rattle.std.proofs.Common.{Some, slice_get, get_or, refl, sym, ap, ◌∙◌, subst, arith}
use Rattle.std.proofs.lemmas.List.Sums.{sum_by-le}
use Rattle.std.proofs.lemmas.Nat.{div-add-mod', mul-le}
use Rattle.std.specs.Global.{Vec}
use Rattle.std.specs.List.{All, Contains}
use Rattle.normal_form.specs.declared.normal.Sym.{Sym}
use Rattle.normal_form.specs.declared.normal.Sym.TheVariants.{Rule}
use Rattle.normal_form.specs.Form.{RuleForm, NormalForm}
use Rattle.normal_form.specs.View.{alts_form}
use Rattle.chart_parser_ends.specs.declared.firsts.FirstRow.{FirstRow}
use Rattle.chart_parser_ends.specs.inner.Firsts.{Covers, CoversAlternative, HasCells, HasKind, HasWhatBegins, IsCovered, Keeps, MayBeEmpty}
use Rattle.chart_parser_ends.specs.inner.Firsts.{MayBeEmptyBefore, cells}
use Rattle.chart_parser_ends.proofs.Rising.{order}

pub covers_more : (N : NormalForm) (rows : List FirstRow) (alt : List Sym) (a b : FirstRow) → Keeps a b → CoversAlternative N rows alt a
    → CoversAlternative N rows alt b
covers_more N rows alt a b x c = record { empty = λ h. x.empty (c.empty h); begins = λ i s at before k h. x.kinds k (c.begins i s at before k h) }

-- The row has what the first symbols begin with, fewer than n.
abbrev pub HasFirst : NormalForm → List FirstRow → List Sym → ℕ → FirstRow → Type 0
HasFirst N rows alt n row = (i : ℕ) (s : Sym) → i < n → slice_get alt i ≡ Some s → HasWhatBegins N rows s row

same_at : (alt : List Sym) (i : ℕ) (s d : Sym) → slice_get alt i ≡ Some s → s ≡ get_or alt i d
same_at [] i s d e = absurd (cc)
same_at (t ∷ alt) zero s d e = cc
same_at (t ∷ alt) (suc i) s d e = same_at alt i s d e

pub first_more : (N : NormalForm) (rows : List FirstRow) (alt : List Sym) (n : ℕ) (d : Sym) (a b : FirstRow) → Keeps a b
    → HasWhatBegins N rows (get_or alt n d) b → HasFirst N rows alt n a → HasFirst N rows alt (n + 1) b
first_more N rows alt n d a b x h has i s l at = by (order i n)
  where
    by : (i < n) ⊎ (n ≤ i) → HasWhatBegins N rows s b
    by (inl m) = λ k begins. x.kinds k (has i s m at k begins)
    by (inr m) =
        let e : i ≡ n = omega (arith, l, m) in
        let same : s ≡ get_or alt n d = same_at alt n s d (subst (λ j. slice_get alt j ≡ Some s) e at) in
        subst (λ t. HasWhatBegins N rows t b) (sym same) h

some_at : (alt : List Sym) (n : ℕ) (d : Sym) → n < length alt → slice_get alt n ≡ Some (get_or alt n d)
some_at [] n d l = absurd (omega (arith, l))
some_at (t ∷ alt) zero d l = refl
some_at (t ∷ alt) (suc n) d l = some_at alt n d (omega (arith, l))

-- A symbol that isn't empty comes before all after it.
pub covers_stopped : (N : NormalForm) (rows : List FirstRow) (alt : List Sym) (n : ℕ) (d : Sym) (row : FirstRow) → n < length alt
    → (MayBeEmpty rows (get_or alt n d) → ⊥) → HasFirst N rows alt (n + 1) row → CoversAlternative N rows alt row
covers_stopped N rows alt n d row l stops has =
    record { empty = λ all. absurd (stops (all n (get_or alt n d) l (some_at alt n d l))); begins = λ i s at before. by i s at before (order n i) }
  where
    by : (i : ℕ) (s : Sym) → slice_get alt i ≡ Some s → MayBeEmptyBefore rows alt i → (n < i) ⊎ (i ≤ n) → HasWhatBegins N rows s row
    by i s at before (inl m) = absurd (stops (before n (get_or alt n d) m (some_at alt n d l)))
    by i s at before (inr m) = has i s (omega (arith, m)) at

-- The first alternatives, fewer than n, are covered.
abbrev pub CoversFirst : NormalForm → List FirstRow → List (Vec Sym) → ℕ → FirstRow → Type 0
CoversFirst N rows alts n row = (i : ℕ) (alt : List Sym) → i < n → slice_get (alts_form alts) i ≡ Some alt → CoversAlternative N rows alt row

alt_at : (alts : List (Vec Sym)) (i : ℕ) (alt : List Sym) (d : Vec Sym) → slice_get (alts_form alts) i ≡ Some alt → alt ≡ (get_or alts i d).items
alt_at [] i alt d e = absurd (cc)
alt_at (t ∷ alts) zero alt d e = cc
alt_at (t ∷ alts) (suc i) alt d e = alt_at alts i alt d e

pub covers_first_more : (N : NormalForm) (rows : List FirstRow) (alts : List (Vec Sym)) (n : ℕ) (d : Vec Sym) (a b : FirstRow) → Keeps a b
    → CoversAlternative N rows (get_or alts n d).items b → CoversFirst N rows alts n a → CoversFirst N rows alts (n + 1) b
covers_first_more N rows alts n d a b x h has i alt l at = by (order i n)
  where
    by : (i < n) ⊎ (n ≤ i) → CoversAlternative N rows alt b
    by (inl m) = covers_more N rows alt a b x (has i alt m at)
    by (inr m) =
        let e : i ≡ n = omega (arith, l, m) in
        subst (λ t. CoversAlternative N rows t b) (sym (alt_at alts n alt d (subst (λ j. slice_get (alts_form alts) j ≡ Some alt) e at))) h

number_of : (xs : List (List Sym)) (x : List Sym) → Contains xs x → (i : ℕ) × (i < length xs) × (slice_get xs i ≡ Some x)
number_of [] x (k, l, e) = absurd (omega (arith, l))
number_of (y ∷ xs) x (zero, l, e) = (0, omega arith, ap Some e)
number_of (y ∷ xs) x (suc k, l, e) = let (i, m, at) = number_of xs x (k, omega (arith, l), e) in (suc i, omega (arith, m), at)

pub covers_all : (N : NormalForm) (rows : List FirstRow) (alts : List (Vec Sym)) (n : ℕ) (row : FirstRow) → length (alts_form alts) ≤ n
    → CoversFirst N rows alts n row → (alt : List Sym) → Contains (alts_form alts) alt → CoversAlternative N rows alt row
covers_all N rows alts n row all has alt c = let (i, l, at) = number_of (alts_form alts) alt c in has i alt (omega (arith, l, all)) at

-- What one row covers, another one covers that has all of it.
pub covers_within : (N : NormalForm) (rows : List FirstRow) (form : RuleForm) (a b : FirstRow) → Keeps a b → Covers N rows form a → Covers N rows form b
covers_within N rows (RuleForm.regular alts) a b x c = λ alt h. covers_more N rows alt a b x (c alt h)
covers_within N rows (RuleForm.star s) a b x c = (x.empty c.0, λ k h. x.kinds k (c.1 k h))
covers_within N rows (RuleForm.plus s) a b x c = (λ h. x.empty (c.0 h), λ k h. x.kinds k (c.1 k h))
covers_within N rows (RuleForm.opt s) a b x c = (x.empty c.0, λ k h. x.kinds k (c.1 k h))

-- The first kinds, fewer than n, are in the other row if they are in the row.
abbrev pub KeepsFirst : FirstRow → FirstRow → ℕ → Type 0
KeepsFirst a b n = (k : ℕ) → k < n → HasKind a k → HasKind b k

-- The first rows, fewer than n, have all that their rules make them have.
abbrev pub AreFirstClosed : NormalForm → List FirstRow → ℕ → Type 0
AreFirstClosed N rows n = (r : ℕ) (form : RuleForm) → r < n → slice_get N.rules r ≡ Some form → IsCovered N rows r form

same_form : (a b : RuleForm) → Some a ≡ Some b → a ≡ b
same_form a b e = cc

pub closed_more : (N : NormalForm) (rows : List FirstRow) (n : ℕ) (this : RuleForm) → slice_get N.rules n ≡ Some this → IsCovered N rows n this
    → AreFirstClosed N rows n → AreFirstClosed N rows (n + 1)
closed_more N rows n this there covered before r form l at = by (order r n)
  where
    by : (r < n) ⊎ (n ≤ r) → IsCovered N rows r form
    by (inl m) = before r form m at
    by (inr m) =
        let e : r ≡ n = omega (arith, l, m) in
        let same : this ≡ form = same_form this form (sym there ∙ ap (slice_get N.rules) (sym e) ∙ at) in
        subst (λ i. IsCovered N rows i form) (sym e) (subst (IsCovered N rows n) same covered)

pub same_row : (a b : FirstRow) → Some a ≡ Some b → a ≡ b
same_row a b e = cc

-- What a row says of its rule, as far as it says that this may be empty.
pub empty_by_row : (rows : List FirstRow) (r : ℕ) (row : FirstRow) → slice_get rows r ≡ Some row → (row.empty ≡ true → MayBeEmpty rows (Rule r))
    × (MayBeEmpty rows (Rule r) → row.empty ≡ true)
empty_by_row rows r row there = (λ e other at. subst (λ x. x.empty ≡ true) (same_row row other (sym there ∙ at)) e, λ h. h row there)

-- So few rows, each with so few cells, have few cells in all.
pub few_cells : (rows : List FirstRow) (kinds count size most : ℕ) → All (HasCells kinds) rows → length rows ≤ count → count ≤ size → size ≤ most / kinds
    → cells rows ≤ most
few_cells rows kinds count size most each few within small =
    let by_rows = sum_by-le (λ (row : FirstRow). vec_len row.begins) kinds rows each in
    let product = mul-le (length rows) kinds (most / kinds) kinds (omega (arith, few, within, small)) (omega arith) in
    omega (arith, by_rows, product, div-add-mod' most kinds)
