-- Lists of tokens in a span.
use Rattle.std.proofs.Common.{◌≡◌, ℕ, suc, ◌+◌, List, [], ◌∷◌, ◌++◌, length, refl, sym, ap, ◌∙◌, arith, length-append}
use Rattle.std.specs.Prelude.{Bool, true, false, not, cond}
use Rattle.std.specs.List.{filter}

-- One list is what passes a test, in a longer one that has it as a part: then the others are what doesn't pass.
module _ (f : ℕ → Bool) where
  abbrev others : List ℕ → List ℕ
  others xs = filter (λ x. not (f x)) xs

  by_test : (b : Bool) (x : ℕ) (passed rest : List ℕ)
      → length (cond b (x ∷ passed) passed) + length (cond (not b) (x ∷ rest) rest) ≡ suc (length passed + length rest)
  by_test true x passed rest = omega arith
  by_test false x passed rest = omega arith

  lengths : (xs : List ℕ) → length (filter f xs) + length (others xs) ≡ length xs
  lengths [] = refl
  lengths (x ∷ xs) = by_test (f x) x (filter f xs) (others xs) ∙ ap suc (lengths xs)

  pub filter_both : (g : ℕ → Bool) (xs ys : List ℕ) → filter g (xs ++ ys) ≡ filter g xs ++ filter g ys
  filter_both g [] ys = refl
  filter_both g (x ∷ xs) ys =
      ap (λ (l : List ℕ). cond (g x) (x ∷ l) l) (filter_both g xs ys)
      ∙ (elim (g x) as (λ b. cond b (x ∷ (filter g xs ++ filter g ys)) (filter g xs ++ filter g ys) ≡ cond b (x ∷ filter g xs) (filter g xs) ++ filter g ys)
      [ true ↦ refl | false ↦ refl ])

  no_length : (xs : List ℕ) → length xs ≡ 0 → xs ≡ []
  no_length [] e = refl
  no_length (x ∷ xs) e = absurd (omega (arith, e))

  head_fails : (b : Bool) (x : ℕ) (passed : List ℕ) → length (cond b (x ∷ passed) passed) ≡ 0 → (b ≡ false) × (length passed ≡ 0)
  head_fails true x passed e = absurd (omega (arith, e))
  head_fails false x passed e = (refl, e)

  none_passes : (xs : List ℕ) → length (filter f xs) ≡ 0 → others xs ≡ xs
  none_passes [] e = refl
  none_passes (x ∷ xs) e =
      let both = head_fails (f x) x (filter f xs) e in
      ap (λ (b : Bool). cond (not b) (x ∷ others xs) (others xs)) both.0 ∙ ap (λ (l : List ℕ). x ∷ l) (none_passes xs both.1)

  again : (xs : List ℕ) → filter f (filter f xs) ≡ filter f xs
  again [] = refl
  again (x ∷ xs) = head_again (f x) x xs refl (again xs)
    where
      head_again : (b : Bool) (x : ℕ) (xs : List ℕ) → f x ≡ b → filter f (filter f xs) ≡ filter f xs
          → filter f (cond b (x ∷ filter f xs) (filter f xs)) ≡ cond b (x ∷ filter f xs) (filter f xs)
      head_again true x xs e rest = ap (λ (b : Bool). cond b (x ∷ filter f (filter f xs)) (filter f (filter f xs))) e ∙ ap (λ (l : List ℕ). x ∷ l) rest
      head_again false x xs e rest = rest

  pub cut_out : (front middle back : List ℕ) → middle ≡ filter f (front ++ (middle ++ back)) → others (front ++ (middle ++ back)) ≡ front ++ back
  cut_out front middle back is =
      let passes : filter f middle ≡ middle = ap (filter f) is ∙ again (front ++ (middle ++ back)) ∙ sym is in
      let parts : filter f (front ++ (middle ++ back)) ≡ filter f front ++ (filter f middle ++ filter f back) =
      filter_both f front (middle ++ back) ∙ ap (λ (l : List ℕ). filter f front ++ l) (filter_both f middle back) in
      let total : length middle ≡ length (filter f front) + (length (filter f middle) + length (filter f back)) =
      ap length (is ∙ parts) ∙ length-append (filter f front) (filter f middle ++ filter f back)
      ∙ ap (λ (n : ℕ). length (filter f front) + n) (length-append (filter f middle) (filter f back)) in
      let same : length (filter f middle) ≡ length middle = ap length passes in
      let no_front : length (filter f front) ≡ 0 = omega (arith, total, same) in
      let no_back : length (filter f back) ≡ 0 = omega (arith, total, same) in
      let no_middle : others middle ≡ [] = no_length (others middle) (let both = lengths middle in omega (arith, both, same)) in
      filter_both (λ x. not (f x)) front (middle ++ back)
      ∙ ap (λ (l : List ℕ). others front ++ l) (filter_both (λ x. not (f x)) middle back)
      ∙ ap (λ (l : List ℕ). l ++ (others middle ++ others back)) (none_passes front no_front)
      ∙ ap (λ (l : List ℕ). front ++ (l ++ others back)) no_middle
      ∙ ap (λ (l : List ℕ). front ++ l) (none_passes back no_back)

  -- in the part alone there are as many
  pub as_many : (front middle back : List ℕ) → middle ≡ filter f (front ++ (middle ++ back)) → length (filter f (middle ++ back)) ≡ length middle
  as_many front middle back is =
      let passes : filter f middle ≡ middle = ap (filter f) is ∙ again (front ++ (middle ++ back)) ∙ sym is in
      let total : length middle ≡ length (filter f front) + length (filter f (middle ++ back)) =
      ap length (is ∙ filter_both f front (middle ++ back)) ∙ length-append (filter f front) (filter f (middle ++ back)) in
      let inner : length (filter f (middle ++ back)) ≡ length (filter f middle) + length (filter f back) =
      ap length (filter_both f middle back) ∙ length-append (filter f middle) (filter f back) in
      let same : length (filter f middle) ≡ length middle = ap length passes in
      omega (arith, total, inner, same)
