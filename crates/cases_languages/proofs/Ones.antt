-- Ranges of one number each.
use Rattle.std.proofs.Common.{◌≡◌, ◌⊎◌, inl, inr, ℕ, true, false, nat_le, [], ◌∷◌, arith}
use Rattle.std.proofs.lemmas.Bool.{and_from, and_parts, le-leb, leb-true, or_cases, or_left}
use Rattle.regex_class.specs.Ranges.{in_range, in_ranges}
use Rattle.grammar_tree.specs.Chars.{has}

within_one : (c k : ℕ) → in_range (c, c) k ≡ true → k ≡ c
unfolding in_range
within_one c k h =
    let x = and_parts (nat_le c k) (nat_le k c) h in let a = leb-true c k x.0 in let b = leb-true k c x.1 in omega arith

at_one : (c : ℕ) → in_range (c, c) c ≡ true
unfolding in_range
at_one c = and_from (nat_le c c) (nat_le c c) (le-leb c c (omega arith)) (le-leb c c (omega arith))

pub one_only : (c k : ℕ) → has ((c, c) ∷ []) k ≡ true → k ≡ c
unfolding in_ranges
one_only c k h = go (or_cases (in_range (c, c) k) false h)
  where
    go : (in_range (c, c) k ≡ true) ⊎ (false ≡ true) → k ≡ c
    go (inl e) = within_one c k e
    go (inr e) = absurd (cc)

pub one_itself : (c : ℕ) → has ((c, c) ∷ []) c ≡ true
unfolding in_ranges
one_itself c = or_left (in_range (c, c) c) false (at_one c)
