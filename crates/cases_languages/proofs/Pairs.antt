-- Rows that are related, position by position, and rows that are added.
use Rattle.std.proofs.Common.{◌≡◌, ◌<◌, ◌≤◌, ◌+◌, ◌⊎◌, inl, inr, ℕ, zero, suc, List, [], ◌∷◌, ◌++◌, length}
use Rattle.std.proofs.Common.{vec_len, get_or, append_assoc, refl, sym, ap, ◌∙◌, subst, arith}
use Rattle.std.specs.List.{Contains}
use Rattle.std.proofs.lemmas.List.{append-nil}
use Rattle.std.proofs.lemmas.Bool.{cases_lt}
use Rattle.std.proofs.lemmas.List.Elements.{Contains-append_left, Contains-append_right, Contains-append_cases}
use Rattle.cases_languages.specs.Positions.{AddsRows, AreRows, IsBlank, IsIn, Pairs, SameEnds}
use Rattle.cases_languages.specs.declared.chart.Row.{Row}
use Rattle.cases_languages.proofs.Marks.{unmarked}
use Rattle.cases_languages.proofs.Rows.{contains_only}

here : (x : Row) (xs : List Row) → Contains (x ∷ xs) x
here x xs = (0, omega arith, refl)

there : (x y : Row) (xs : List Row) → Contains xs x → Contains (y ∷ xs) x
there x y xs (k, h, e) = (suc k, omega arith, e)

cases : (x y : Row) (xs : List Row) → Contains (y ∷ xs) x → (x ≡ y) ⊎ Contains xs x
cases x y xs (zero, h, e) = inl (sym e)
cases x y xs (suc k, h, e) = inr (k, omega arith, e)

pub in_none : (x : Row) → Contains [] x → ⊥
in_none x h = absurd (omega (arith, h.1))

pub pairs_length : (R : Row → Row → Type 0) (xs ys : List Row) → Pairs R xs ys → length xs ≡ length ys
pairs_length R [] [] h = refl
pairs_length R [] (y ∷ ys) h = absurd h
pairs_length R (x ∷ xs) [] h = absurd h
pairs_length R (x ∷ xs) (y ∷ ys) h = ap suc (pairs_length R xs ys h.1)

pub pairs_more : (R : Row → Row → Type 0) (xs ys : List Row) (x y : Row) → Pairs R xs ys → R x y → Pairs R (xs ++ x ∷ []) (ys ++ y ∷ [])
pairs_more R [] [] x y h r = (r, tt)
pairs_more R [] (b ∷ ys) x y h r = absurd h
pairs_more R (a ∷ xs) [] x y h r = absurd h
pairs_more R (a ∷ xs) (b ∷ ys) x y h r = (h.0, pairs_more R xs ys x y h.1 r)

pub pairs_at : (R : Row → Row → Type 0) (xs ys : List Row) (k : ℕ) (x y : Row) → Pairs R xs ys → k < length xs → x ≡ get_or xs k x → y ≡ get_or ys k y → R x y
pairs_at R [] ys k x y h l d e = absurd (omega (arith, l))
pairs_at R (a ∷ xs) [] k x y h l d e = absurd h
pairs_at R (a ∷ xs) (b ∷ ys) zero x y h l d e = let P : Row → Type 0 = λ z. R z y in let Q : Row → Type 0 = λ z. R a z in subst P (sym d) (subst Q (sym e) h.0)
pairs_at R (a ∷ xs) (b ∷ ys) (suc k) x y h l d e = pairs_at R xs ys k x y h.1 (omega arith) d e

pub pairs_map : (R S : Row → Row → Type 0) → ((x y : Row) → R x y → S x y) → (xs ys : List Row) → Pairs R xs ys → Pairs S xs ys
pairs_map R S f [] [] h = tt
pairs_map R S f [] (y ∷ ys) h = absurd h
pairs_map R S f (x ∷ xs) [] h = absurd h
pairs_map R S f (x ∷ xs) (y ∷ ys) h = (f x y h.0, pairs_map R S f xs ys h.1)

pub pairs_both : (R S : Row → Row → Type 0) (xs ys : List Row) → Pairs R xs ys → Pairs S xs ys → Pairs (λ x y. R x y × S x y) xs ys
pairs_both R S [] [] h k = tt
pairs_both R S [] (y ∷ ys) h k = absurd h
pairs_both R S (x ∷ xs) [] h k = absurd h
pairs_both R S (x ∷ xs) (y ∷ ys) h k = ((h.0, k.0), pairs_both R S xs ys h.1 k.1)

pub pairs_old : (R : Row → Row → Type 0) (xs ys : List Row) (y : Row) → Pairs R xs ys → Contains ys y → (x : Row) × Contains xs x × R x y
pairs_old R [] [] y h c = absurd (in_none y c)
pairs_old R [] (b ∷ ys) y h c = absurd h
pairs_old R (a ∷ xs) [] y h c = absurd h
pairs_old R (a ∷ xs) (b ∷ ys) y h c = go (cases y b ys c) (pairs_old R xs ys y h.1)
  where
    go : (y ≡ b) ⊎ Contains ys y → (Contains ys y → (x : Row) × Contains xs x × R x y) → (x : Row) × Contains (a ∷ xs) x × R x y
    go (inl e) f = let P : Row → Type 0 = λ z. R a z in (a, here a xs, subst P (sym e) h.0)
    go (inr d) f = let z = f d in (z.0, there z.0 a xs z.1, z.2)

pub pairs_new : (R : Row → Row → Type 0) (xs ys : List Row) (x : Row) → Pairs R xs ys → Contains xs x → (y : Row) × Contains ys y × R x y
pairs_new R [] [] x h c = absurd (in_none x c)
pairs_new R [] (b ∷ ys) x h c = absurd h
pairs_new R (a ∷ xs) [] x h c = absurd h
pairs_new R (a ∷ xs) (b ∷ ys) x h c = go (cases x a xs c) (pairs_new R xs ys x h.1)
  where
    go : (x ≡ a) ⊎ Contains xs x → (Contains xs x → (y : Row) × Contains ys y × R x y) → (y : Row) × Contains (b ∷ ys) y × R x y
    go (inl e) f = let P : Row → Type 0 = λ z. R z b in (b, here b ys, subst P (sym e) h.0)
    go (inr d) f = let z = f d in (z.0, there z.0 b ys z.1, z.2)

-- how many positions the rows leave unmarked
abbrev pub total : List Row → ℕ
total [] = 0
total (x ∷ xs) = unmarked x.ends.items + total xs

pub total_falls : (R : Row → Row → Type 0) → ((x y : Row) → R x y → (y.ends.items ≡ x.ends.items) ⊎ (unmarked y.ends.items < unmarked x.ends.items))
    → (xs ys : List Row) → Pairs R xs ys →
    (Pairs SameEnds xs ys × (total ys ≡ total xs)) ⊎ (total ys < total xs)
total_falls R f [] [] h = inl (tt, refl)
total_falls R f [] (y ∷ ys) h = absurd h
total_falls R f (x ∷ xs) [] h = absurd h
total_falls R f (x ∷ xs) (y ∷ ys) h = go (f x y h.0) (total_falls R f xs ys h.1)
  where
    go : (y.ends.items ≡ x.ends.items) ⊎ (unmarked y.ends.items < unmarked x.ends.items) → (Pairs SameEnds xs ys × (total ys ≡ total xs))
        ⊎ (total ys < total xs) →
        (Pairs SameEnds (x ∷ xs) (y ∷ ys) × (total (y ∷ ys) ≡ total (x ∷ xs))) ⊎ (total (y ∷ ys) < total (x ∷ xs))
    go (inl e) (inl (p, q)) = inl ((sym e, p), omega (arith, ap unmarked e, q))
    go (inl e) (inr q) = inr (omega (arith, ap unmarked e, q))
    go (inr e) (inl (p, q)) = inr (omega (arith, e, q))
    go (inr e) (inr q) = inr (omega (arith, e, q))

split : (i n : ℕ) → i < n + 1 → (i < n) ⊎ (i ≡ n)
split i n k = go (cases_lt i n)
  where
    go : (i < n) ⊎ (n ≤ i) → (i < n) ⊎ (i ≡ n)
    go (inl h) = inl h
    go (inr h) = inr (omega (arith, k, h))

pub adds_none : (rows : List Row) (rule count : ℕ) → AddsRows rows rows rule count 0
adds_none rows rule count =
    record { added = []; appended = sym (append-nil rows); blank = λ row c. absurd (in_none row c); all = λ i h. absurd (omega (arith, h)) }

pub adds_more : (old rows : List Row) (rule count done : ℕ) (row : Row) → AddsRows old rows rule count done → row.rule ≡ rule → vec_len row.ends ≡ count
    → row.start ≡ done → done < count →
    ((j : ℕ) → IsIn row.ends.items j → ⊥) → AddsRows old (rows ++ row ∷ []) rule count (done + 1)
adds_more old rows rule count done row a r l s h none = record {
  added = a.added ++ row ∷ [];
  appended = ap (λ x. x ++ row ∷ []) a.appended ∙ append_assoc old a.added (row ∷ []);
  blank = λ x c. blank x (Contains-append_cases a.added (row ∷ []) x c);
  all = λ i k. all i k;
}
  where
    blank : (x : Row) → Contains a.added x ⊎ Contains (row ∷ []) x → (x.rule ≡ rule) × (vec_len x.ends ≡ count) × (x.start < count)
        × ((j : ℕ) → IsIn x.ends.items j → ⊥)
    blank x (inl c) = a.blank x c
    blank x (inr c) =
        let P : Row → Type 0 = λ z. (z.rule ≡ rule) × (vec_len z.ends ≡ count) × (z.start < count) × ((j : ℕ) → IsIn z.ends.items j → ⊥) in
        subst P (sym (contains_only x row c)) (r, l, omega (arith, s, h), none)

    at : (i : ℕ) → (i < done) ⊎ (i ≡ done) → (x : Row) × Contains (a.added ++ row ∷ []) x × (x.start ≡ i)
    at i (inl k) = let z = a.all i k in (z.0, Contains-append_left a.added (row ∷ []) z.0 z.1, z.2)
    at i (inr e) = (row, Contains-append_right a.added (row ∷ []) row (here row []), s ∙ sym e)

    all : (i : ℕ) → i < done + 1 → (x : Row) × Contains (a.added ++ row ∷ []) x × (x.start ≡ i)
    all i k = at i (split i done k)

pub rows_none : (count : ℕ) → AreRows [] 0 count
rows_none count = record { fit = λ row c. absurd (in_none row c); within = λ row c. absurd (in_none row c); all = λ r i h k. absurd (omega (arith, h)) }

pub rows_more : (old new : List Row) (rule count : ℕ) → AreRows old rule count → AddsRows old new rule count count → AreRows new (rule + 1) count
rows_more old new rule count o a = let P : List Row → Type 0 = λ l. AreRows l (rule + 1) count in subst P (sym a.appended) (record {
  fit = λ row c. fit row (Contains-append_cases old a.added row c);
  within = λ row c. within row (Contains-append_cases old a.added row c);
  all = λ r i h k. all r i (split r rule h) k;
})
  where
    fit : (row : Row) → Contains old row ⊎ Contains a.added row → (vec_len row.ends ≡ count) × (row.start < count)
    fit row (inl c) = o.fit row c
    fit row (inr c) = let b = a.blank row c in (b.1, b.2)

    within : (row : Row) → Contains old row ⊎ Contains a.added row → row.rule < rule + 1
    within row (inl c) = omega (arith, o.within row c)
    within row (inr c) = omega (arith, (a.blank row c).0)

    all : (r i : ℕ) → (r < rule) ⊎ (r ≡ rule) → i < count → (row : Row) × Contains (old ++ a.added) row × (row.rule ≡ r) × (row.start ≡ i)
    all r i (inl h) k = let z = o.all r i h k in (z.0, Contains-append_left old a.added z.0 z.1, z.2, z.3)
    all r i (inr e) k = let z = a.all i k in (z.0, Contains-append_right old a.added z.0 z.1, (a.blank z.0 z.1).0 ∙ sym e, z.2)

pub blank_none : IsBlank []
blank_none row c = absurd (in_none row c)

pub blank_more : (old new : List Row) (rule count : ℕ) → IsBlank old → AddsRows old new rule count count → IsBlank new
blank_more old new rule count o a = let P : List Row → Type 0 =
    λ l. IsBlank l in subst P (sym a.appended) (λ row c. blank row (Contains-append_cases old a.added row c))
  where
    blank : (row : Row) → Contains old row ⊎ Contains a.added row → (j : ℕ) → IsIn row.ends.items j → ⊥
    blank row (inl c) = o row c
    blank row (inr c) = (a.blank row c).3
