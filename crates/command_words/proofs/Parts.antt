-- What is after the hyphens of a word.
use Rattle.std.proofs.Common.{◌≡◌, ◌∙◌, inl, inr, ℕ, suc, ◌+◌, ◌-◌, Bool, true, false, cond, not, ◌||◌, List, [], ◌∷◌, length, drop, take, nat_lt}
use Rattle.std.proofs.Common.{Some, None, refl, sym, ap, if◌then◌else◌, arith, le-ltb, lt-ltb, ltb-false, length-drop, position}
use Rattle.std.specs.List.{after_first, before_first, list_any, position_or_len}
use Rattle.std.proofs.lemmas.Bool.{cases_lt}
use Rattle.std.proofs.lemmas.List.{take_all}
use Rattle.command_words.specs.Options.{is_equals, is_value, name_and_value}
use Rattle.command_words.specs.inner.Read.{is_option_part}

shifted : (a b : ℕ) → nat_lt a b ≡ nat_lt (1 + a) (suc b)
shifted a b = elim (cases_lt a b) [
  | inl lt ↦ lt-ltb a b lt ∙ sym (lt-ltb (1 + a) (suc b) (omega arith))
  | inr ge ↦ le-ltb a b ge ∙ sym (le-ltb (1 + a) (suc b) (omega arith))
]

-- an element passes exactly where there is a first one
pub any_by_place : (p : ℕ → Bool) (xs : List ℕ) → list_any p xs ≡ nat_lt (position_or_len p xs) (length xs)
any_by_place p [] = refl
any_by_place p (x ∷ xs) = go (p x) (any_by_place p xs)
  where
    go : (b : Bool) → list_any p xs ≡ nat_lt (position_or_len p xs) (length xs)
        → (b || list_any p xs) ≡ nat_lt (cond (not b) (1 + position_or_len p xs) 0) (length (x ∷ xs))
    go true later = sym (lt-ltb 0 (length (x ∷ xs)) (omega arith))
    go false later = later ∙ shifted (position_or_len p xs) (length xs)

place_none : (b : Bool) (i : ℕ) → cond b (Some i) None ≡ None → b ≡ false
place_none true i is = cc is
place_none false i is = refl

place_some : (b : Bool) (i end : ℕ) → cond b (Some i) None ≡ Some end → (b ≡ true) × (i ≡ end)
place_some true i end is = (refl, cc is)
place_some false i end is = absurd (cc is)

-- a name alone
pub part_alone : (option : List ℕ) → position is_equals option ≡ None → (option ≡ [] → ⊥)
    → is_option_part (name_and_value option).name (name_and_value option).value ≡ true
part_alone [] none some = absurd (some refl)
part_alone (x ∷ xs) none some =
    let past : nat_lt (position_or_len is_equals (x ∷ xs)) (length (x ∷ xs)) ≡ false = place_none _ _ none in
    let whole : before_first is_equals (x ∷ xs) ≡ x ∷ xs = take_all (position_or_len is_equals (x ∷ xs)) (x ∷ xs) (ltb-false _ _ past) in
    ap (λ (b : Bool). is_option_part (before_first is_equals (x ∷ xs)) (if b then Some (after_first is_equals (x ∷ xs)) else None))
    (any_by_place is_equals (x ∷ xs) ∙ past)
    ∙ ap (λ (name : List ℕ). nat_lt 0 (length name)) whole ∙ lt-ltb 0 (length (x ∷ xs)) (omega arith)

-- a name with a value
pub part_with_value : (option : List ℕ) (end : ℕ) → position is_equals option ≡ Some end
    → is_option_part (name_and_value option).name (name_and_value option).value ≡ is_value (drop (end + 1) option)
part_with_value option end some =
    let place = place_some (nat_lt (position_or_len is_equals option) (length option)) (position_or_len is_equals option) end some in
    ap (λ (b : Bool). is_option_part (before_first is_equals option) (if b then Some (after_first is_equals option) else None))
    (any_by_place is_equals option ∙ place.0)
    ∙ ap (λ (i : ℕ). is_value (drop (i + 1) option)) place.1

-- as many elements as there are after the first of them
pub rest_whole : (xs : List ℕ) (k : ℕ) → take (length xs - k) (drop k xs) ≡ drop k xs
rest_whole xs k = take_all (length xs - k) (drop k xs) (omega (arith, length-drop k xs))
