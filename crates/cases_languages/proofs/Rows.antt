-- What rows say.
use Rattle.std.proofs.Common.{◌≡◌, ◌<◌, ◌+◌, ◌⊎◌, ◌↔◌, inl, inr, ℕ, zero, suc, Bool, List, [], ◌∷◌, length, get_or, take, refl, sym, ◌∙◌, subst, arith}
use Rattle.std.specs.List.{Contains}
use Rattle.std.proofs.lemmas.List.{take_more}
use Rattle.std.proofs.lemmas.List.Elements.{Contains-append_left, Contains-append_right, Contains-append_cases}
use Rattle.cases_languages.specs.Positions.{IsIn, Known}
use Rattle.cases_languages.specs.declared.chart.Row.{Row}

module _ {X : Type 0} where
  pub contains_only : (x y : X) → Contains (y ∷ []) x → x ≡ y
  contains_only x y (k, h, e) = only k h e
    where
      only : (k : ℕ) → k < 1 → get_or (y ∷ []) k x ≡ x → x ≡ y
      only zero h e = sym e
      only (suc k) h e = absurd (omega (arith, h))

  pub contains_more : (xs : List X) (i : ℕ) (x y : X) → i < length xs → y ≡ get_or xs i y → Contains (take (i + 1) xs) x → Contains (take i xs) x ⊎ (x ≡ y)
  contains_more xs i x y h e c =
      let P : List X → Type 0 = λ l. Contains l x in
      go (Contains-append_cases (take i xs) (get_or xs i y ∷ []) x (subst P (take_more xs i y h) c))
    where
      go : Contains (take i xs) x ⊎ Contains (get_or xs i y ∷ []) x → Contains (take i xs) x ⊎ (x ≡ y)
      go (inl p) = inl p
      go (inr p) = inr (contains_only x (get_or xs i y) p ∙ sym e)

  pub contains_before : (xs : List X) (i : ℕ) (x y : X) → i < length xs → y ≡ get_or xs i y → Contains (take i xs) x → Contains (take (i + 1) xs) x
  contains_before xs i x y h e c =
      let P : List X → Type 0 = λ l. Contains l x in subst P (sym (take_more xs i y h)) (Contains-append_left (take i xs) (get_or xs i y ∷ []) x c)

  pub contains_last : (xs : List X) (i : ℕ) (y : X) → i < length xs → y ≡ get_or xs i y → Contains (take (i + 1) xs) y
  contains_last xs i y h e =
      let P : List X → Type 0 = λ l. Contains l y in
      let at : Contains (get_or xs i y ∷ []) y = (0, omega arith, sym e) in
      subst P (sym (take_more xs i y h)) (Contains-append_right (take i xs) (get_or xs i y ∷ []) y at)

-- what one more row says
pub known_more : (rows : List Row) (i : ℕ) (row : Row) (r a j : ℕ) → i < length rows → row ≡ get_or rows i row →
    Known (take (i + 1) rows) r a j ↔ (Known (take i rows) r a j ⊎ ((row.rule ≡ r) × (row.start ≡ a) × IsIn row.ends.items j))
known_more rows i row r a j h e = (into, back)
  where
    into : Known (take (i + 1) rows) r a j → Known (take i rows) r a j ⊎ ((row.rule ≡ r) × (row.start ≡ a) × IsIn row.ends.items j)
    into (other, c, p, q, m) = go (contains_more rows i other row h e c)
      where
        go : Contains (take i rows) other ⊎ (other ≡ row) → Known (take i rows) r a j ⊎ ((row.rule ≡ r) × (row.start ≡ a) × IsIn row.ends.items j)
        go (inl c) = inl (other, c, p, q, m)
        go (inr s) = let P : Row → Type 0 = λ x. (x.rule ≡ r) × (x.start ≡ a) × IsIn x.ends.items j in inr (subst P s (p, q, m))

    back : Known (take i rows) r a j ⊎ ((row.rule ≡ r) × (row.start ≡ a) × IsIn row.ends.items j) → Known (take (i + 1) rows) r a j
    back (inl (other, c, p, q, m)) = (other, contains_before rows i other row h e c, p, q, m)
    back (inr (p, q, m)) = (row, contains_last rows i row h e, p, q, m)

-- `to` marks where the rule is known to span up to, from the positions in `from`
abbrev pub Reached : List Row → ℕ → List Bool → List Bool → Type 0
Reached rows r from to = (j : ℕ) → IsIn to j ↔ ((i : ℕ) × IsIn from i × Known rows r i j)

module _ (rows : List Row) (i : ℕ) (row : Row) (r : ℕ) (from to : List Bool) (h : i < length rows) (e : row ≡ get_or rows i row) where
  pub reached_more : (next : List Bool) → row.rule ≡ r → IsIn from row.start → ((j : ℕ) → IsIn next j ↔ (IsIn to j ⊎ IsIn row.ends.items j)) →
      Reached (take i rows) r from to → Reached (take (i + 1) rows) r from next
  reached_more next same start u b j = (λ p. into ((u j).0 p), λ (a, f, k). back a f ((known_more rows i row r a j h e).0 k))
    where
      into : IsIn to j ⊎ IsIn row.ends.items j → (a : ℕ) × IsIn from a × Known (take (i + 1) rows) r a j
      into (inl p) = let x = (b j).0 p in (x.0, x.1, (known_more rows i row r x.0 j h e).1 (inl x.2))
      into (inr p) = (row.start, start, (known_more rows i row r row.start j h e).1 (inr (same, refl, p)))

      back : (a : ℕ) → IsIn from a → Known (take i rows) r a j ⊎ ((row.rule ≡ r) × (row.start ≡ a) × IsIn row.ends.items j) → IsIn next j
      back a f (inl k) = (u j).1 (inl ((b j).1 (a, f, k)))
      back a f (inr (p, q, m)) = (u j).1 (inr m)

  pub reached_same : (row.rule ≡ r → IsIn from row.start → ⊥) → Reached (take i rows) r from to → Reached (take (i + 1) rows) r from to
  reached_same none b j =
      (λ p. let x = (b j).0 p in (x.0, x.1, (known_more rows i row r x.0 j h e).1 (inl x.2)), λ (a, f, k). back a f ((known_more rows i row r a j h e).0 k))
    where
      back : (a : ℕ) → IsIn from a → Known (take i rows) r a j ⊎ ((row.rule ≡ r) × (row.start ≡ a) × IsIn row.ends.items j) → IsIn to j
      back a f (inl k) = (b j).1 (a, f, k)
      back a f (inr (p, q, m)) = let P : ℕ → Type 0 = λ n. IsIn from n in absurd (none p (subst P (sym q) f))
