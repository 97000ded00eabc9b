-- How the lists of expected symbols grow.
use Rattle.std.proofs.Common.{◌≡◌, ◌≢◌, ◌⊎◌, inl, inr, ℕ, zero, suc, ◌+◌, ◌<◌, ◌≤◌, List, [], ◌∷◌, ◌++◌, length}
use Rattle.std.proofs.Common.{take, get_or, refl, sym, ap, ◌∙◌, subst, arith, append_assoc}
use Rattle.std.proofs.lemmas.Bool.{cases_eq}
use Rattle.std.proofs.lemmas.List.{append-nil, length-set, take_more}
use Rattle.std.proofs.lemmas.List.Elements.{Contains-append_left, Contains-push, Contains-push_cases}
use Rattle.std.proofs.Math.ListN.{set}
use Rattle.std.specs.Global.{Vec}
use Rattle.std.specs.List.{Contains}
use Rattle.normal_form.specs.declared.normal.Sym.{Sym}
use Rattle.chart_parser_prefix.specs.inner.Walk.{Expects, ExpectsAll, HasOneMore, IsAtOneOf, IsGrownBy, IsWithout, symbols_at}

pub contains_none : {X : Type 0} (x : X) → Contains [] x → ⊥
contains_none x (k, l, e) = omega (arith, l)

pub set_same : (lists : List (Vec Sym)) (i : ℕ) (v : Vec Sym) → i < length lists → symbols_at (set lists i v) i ≡ v.items
set_same [] i v l = absurd (omega (arith, l))
set_same (x ∷ lists) zero v l = refl
set_same (x ∷ lists) (suc i) v l = set_same lists i v (omega (arith, l))

pub set_other : (lists : List (Vec Sym)) (i m : ℕ) (v : Vec Sym) → m ≢ i → symbols_at (set lists i v) m ≡ symbols_at lists m
set_other [] i m v ne = refl
set_other (x ∷ lists) zero zero v ne = absurd (ne refl)
set_other (x ∷ lists) zero (suc m) v ne = refl
set_other (x ∷ lists) (suc i) zero v ne = refl
set_other (x ∷ lists) (suc i) (suc m) v ne = set_other lists i m v (λ e. ne (ap suc e))

pub read_at : (lists : List (Vec Sym)) (m : ℕ) (v : Vec Sym) → m < length lists → v ≡ get_or lists m v → v.items ≡ symbols_at lists m
read_at [] m v l e = absurd (omega (arith, l))
read_at (x ∷ lists) zero v l e = ap (λ (y : Vec Sym). y.items) e
read_at (x ∷ lists) (suc m) v l e = read_at lists m v (omega (arith, l)) e

module _ {P : Sym → ℕ → Type 0} where
  pub grown_none : (lists : List (Vec Sym)) → IsGrownBy P lists lists
  grown_none lists = record { count = refl; longer = λ m. ([], sym (append-nil (symbols_at lists m))); only = λ s m h. inl h }

  pub kept : {old new : List (Vec Sym)} → IsGrownBy P old new → (s : Sym) (m : ℕ) → Expects old s m → Expects new s m
  kept {old} {new} g s m h =
      let (added, e) = g.longer m in
      subst (λ l. Contains l s) (sym e) (Contains-append_left (symbols_at old m) added s h)

  pub grown_then : {a b c : List (Vec Sym)} → IsGrownBy P a b → IsGrownBy P b c → IsGrownBy P a c
  grown_then {a} {b} {c} g h = record { count = h.count ∙ g.count; longer = longer; only = λ s m x. by s m (h.only s m x) }
    where
      longer : (m : ℕ) → (added : List Sym) × (symbols_at c m ≡ symbols_at a m ++ added)
      longer m =
          let (first, e) = g.longer m in
          let (second, f) = h.longer m in
          (first ++ second, f ∙ ap (λ l. l ++ second) e ∙ append_assoc (symbols_at a m) first second)

      by : (s : Sym) (m : ℕ) → Expects b s m ⊎ P s m → Expects a s m ⊎ P s m
      by s m (inl x) = g.only s m x
      by s m (inr p) = inr p

pub grown_weaker : {P Q : Sym → ℕ → Type 0} {old new : List (Vec Sym)} → ((s : Sym) (m : ℕ) → P s m → Q s m) → IsGrownBy P old new → IsGrownBy Q old new
grown_weaker {P} {Q} {old} {new} f g = record { count = g.count; longer = g.longer; only = λ s m x. by s m (g.only s m x) }
  where
    by : (s : Sym) (m : ℕ) → Expects old s m ⊎ P s m → Expects old s m ⊎ Q s m
    by s m (inl h) = inl h
    by s m (inr p) = inr (f s m p)

-- one symbol was added at a position
pub added_at : (old : List (Vec Sym)) (p : ℕ) (symbol : Sym) (v w : Vec Sym) → p < length old → v ≡ get_or old p v → HasOneMore v.items symbol w.items
    → IsGrownBy (IsAtOneOf symbol (p ∷ [])) old (set old p w) × ExpectsAll (IsAtOneOf symbol (p ∷ [])) (set old p w)
added_at old p symbol v w l is more = (
  record { count = length-set old p w; longer = λ m. longer m (cases_eq m p); only = λ s m h. only s m (cases_eq m p) h },
  λ s m (e, c). subst (λ i. Expects new s i) (sym (one m c)) (subst (λ t. Expects new t p) (sym e) (has more)),
)
  where
    new : List (Vec Sym)
    new = set old p w

    before : v.items ≡ symbols_at old p
    before = read_at old p v l is

    after : symbols_at new p ≡ w.items
    after = set_same old p w l

    one : (m : ℕ) → Contains (p ∷ []) m → m ≡ p
    one m (zero, n, e) = sym e
    one m (suc k, n, e) = absurd (omega (arith, n))

    more_of : HasOneMore v.items symbol w.items → (added : List Sym) × (w.items ≡ v.items ++ added)
    more_of (inl e) = (symbol ∷ [], e)
    more_of (inr (e, c)) = ([], e ∙ sym (append-nil v.items))

    longer : (m : ℕ) → (m ≡ p) ⊎ (m ≢ p) → (added : List Sym) × (symbols_at new m ≡ symbols_at old m ++ added)
    longer m (inl e) =
        let (added, f) = more_of more in
        (added, ap (symbols_at new) e ∙ after ∙ f ∙ ap (λ x. x ++ added) (before ∙ ap (symbols_at old) (sym e)))
    longer m (inr ne) = ([], set_other old p m w ne ∙ sym (append-nil (symbols_at old m)))

    has : HasOneMore v.items symbol w.items → Expects new symbol p
    has (inl e) = subst (λ x. Contains x symbol) (sym (after ∙ e)) (Contains-push v.items symbol)
    has (inr (e, c)) = subst (λ x. Contains x symbol) (sym (after ∙ e)) c

    either : (s : Sym) → HasOneMore v.items symbol w.items → Contains w.items s → Contains v.items s ⊎ (s ≡ symbol)
    either s (inl e) h = by (Contains-push_cases v.items symbol s (subst (λ x. Contains x s) e h))
      where
        by : Contains v.items s ⊎ (symbol ≡ s) → Contains v.items s ⊎ (s ≡ symbol)
        by (inl c) = inl c
        by (inr same) = inr (sym same)
    either s (inr (e, c)) h = inl (subst (λ x. Contains x s) e h)

    only : (s : Sym) (m : ℕ) → (m ≡ p) ⊎ (m ≢ p) → Expects new s m → Expects old s m ⊎ IsAtOneOf symbol (p ∷ []) s m
    only s m (inl e) h = by (either s more (subst (λ x. Contains x s) (ap (symbols_at new) e ∙ after) h))
      where
        by : Contains v.items s ⊎ (s ≡ symbol) → Expects old s m ⊎ IsAtOneOf symbol (p ∷ []) s m
        by (inl c) = inl (subst (λ x. Contains x s) (before ∙ ap (symbols_at old) (sym e)) c)
        by (inr same) = inr (same, (0, omega arith, sym e))
    only s m (inr ne) h = inl (subst (λ x. Contains x s) (set_other old p m w ne) h)

-- the list of a position was let go
pub let_go : (old : List (Vec Sym)) (p : ℕ) (w : Vec Sym) → p < length old → w.items ≡ [] → IsWithout p old (set old p w)
let_go old p w l none = record { count = length-set old p w; none = set_same old p w l ∙ none; others = λ m ne. set_other old p m w ne }

-- one more of the positions at which a symbol is added
pub taken_cases : {X : Type 0} (xs : List X) (i : ℕ) (d x : X) → i < length xs → Contains (take (i + 1) xs) x → Contains (take i xs) x ⊎ (x ≡ get_or xs i d)
taken_cases xs i d x l h = by (Contains-push_cases (take i xs) (get_or xs i d) x (subst (λ ys. Contains ys x) (take_more xs i d l) h))
  where
    by : Contains (take i xs) x ⊎ (get_or xs i d ≡ x) → Contains (take i xs) x ⊎ (x ≡ get_or xs i d)
    by (inl c) = inl c
    by (inr e) = inr (sym e)

pub taken_before : {X : Type 0} (xs : List X) (i : ℕ) (d x : X) → i < length xs → Contains (take i xs) x → Contains (take (i + 1) xs) x
taken_before xs i d x l h = subst (λ ys. Contains ys x) (sym (take_more xs i d l)) (Contains-append_left (take i xs) (get_or xs i d ∷ []) x h)

pub taken_last : {X : Type 0} (xs : List X) (i : ℕ) (d : X) → i < length xs → Contains (take (i + 1) xs) (get_or xs i d)
taken_last xs i d l = subst (λ ys. Contains ys (get_or xs i d)) (sym (take_more xs i d l)) (Contains-push (take i xs) (get_or xs i d))

pub each_more : (symbol : Sym) (positions : List ℕ) (i p : ℕ) (old mid new : List (Vec Sym)) → i < length positions → p ≡ get_or positions i 0 →
    IsGrownBy (IsAtOneOf symbol (take i positions)) old mid → ExpectsAll (IsAtOneOf symbol (take i positions)) mid
    → IsGrownBy (IsAtOneOf symbol (p ∷ [])) mid new → ExpectsAll (IsAtOneOf symbol (p ∷ [])) new →
    IsGrownBy (IsAtOneOf symbol (take (i + 1) positions)) old new × ExpectsAll (IsAtOneOf symbol (take (i + 1) positions)) new
each_more symbol positions i p old mid new l is before has grown all =
    (grown_then (grown_weaker first before) (grown_weaker second grown), λ s m (e, c). by s m e (taken_cases positions i 0 m l c))
  where
    first : (s : Sym) (m : ℕ) → IsAtOneOf symbol (take i positions) s m → IsAtOneOf symbol (take (i + 1) positions) s m
    first s m (e, c) = (e, taken_before positions i 0 m l c)

    one : (m : ℕ) → Contains (p ∷ []) m → m ≡ p
    one m (zero, n, e) = sym e
    one m (suc k, n, e) = absurd (omega (arith, n))

    second : (s : Sym) (m : ℕ) → IsAtOneOf symbol (p ∷ []) s m → IsAtOneOf symbol (take (i + 1) positions) s m
    second s m (e, c) = (e, subst (Contains (take (i + 1) positions)) (sym (one m c ∙ is)) (taken_last positions i 0 l))

    by : (s : Sym) (m : ℕ) → s ≡ symbol → Contains (take i positions) m ⊎ (m ≡ get_or positions i 0) → Expects new s m
    by s m e (inl c) = kept grown s m (has s m (e, c))
    by s m e (inr at) = all s m (e, (0, omega arith, is ∙ sym at))

pub pushed_empty : (lists : List (Vec Sym)) (v : Vec Sym) → v.items ≡ [] → ((m : ℕ) → symbols_at lists m ≡ []) → (m : ℕ) → symbols_at (lists ++ v ∷ []) m ≡ []
pushed_empty [] v e h zero = e
pushed_empty [] v e h (suc m) = refl
pushed_empty (x ∷ lists) v e h zero = h zero
pushed_empty (x ∷ lists) v e h (suc m) = pushed_empty lists v e (λ k. h (suc k)) m

pub done_before : {X : Type 0} (xs : List X) (n k : ℕ) (x d : X) → k < n → n ≤ length xs → get_or xs k d ≡ x → Contains (take n xs) x
done_before [] n k x d l le e = absurd (omega (arith, l, le))
done_before (y ∷ xs) zero k x d l le e = absurd (omega (arith, l))
done_before (y ∷ xs) (suc n) zero x d l le e = (0, omega arith, e)
done_before (y ∷ xs) (suc n) (suc k) x d l le e = let h = done_before xs n k x d (omega (arith, l)) (omega (arith, le)) e in (suc h.0, omega (arith, h.1), h.2)
