-- What is admitted where something must stay: texts, and lines or tokens.
use Rattle.std.specs.Prelude.{ℕ, ◌==◌, ◌&&◌, Bool, List}
use Rattle.std.specs.List.{list_all, list_any}
use Rattle.keep_guard.specs.Keep.{holds_all}

-- each number of the second list is one of the first
abbrev pub keeps_numbers : List ℕ → List ℕ → Bool
keeps_numbers kept must = list_all (λ number. list_any (λ one. one == number) kept) must

-- what must stay: these texts, and the lines or tokens of these numbers, from 0
pub record Stays : Type 0 where
  pub texts : List (List ℕ)
  pub numbers : List ℕ

-- a candidate is admitted where each of the texts occurs in it, and it keeps each of the numbers
abbrev pub stays_admit : Stays → List ℕ → List ℕ → Bool
stays_admit stays kept text = holds_all stays.texts text && keeps_numbers kept stays.numbers
