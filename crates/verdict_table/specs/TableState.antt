-- The table of verdicts.
use Rattle.std.specs.Prelude.{◌≡◌, ◌<◌, ◌≤◌, ℕ, ◌+◌, ◌-◌, ◌==◌, List, [], ◌∷◌, ◌++◌, All, length, map, find, filter, not, slice_get}
use Rattle.std.specs.Prelude.{Option, Some, None, option_map, unwrap_or, nat_eq, if◌then◌else◌}
use Rattle.std.specs.List.{IsDistinct}
use Rattle.std.specs.Str.{bytes_eq}
use Rattle.script_gate_trait.specs.declared.gate.Verdict.{Verdict}
use Rattle.verdict_table.specs.declared.found.Found.{Found}
use Rattle.verdict_table.specs.declared.found.Found.TheVariants.{Absent, Claimed, Filled}
use Rattle.verdict_table.specs.declared.record.Record.{Record}
use Rattle.verdict_table.specs.declared.table.Claim.{Claim}

-- the open claims, the records in their order, and for each record the number of its claim
pub record TableState : Type 0 where
  pub claims : List Claim
  pub records : List Record
  pub filled : List ℕ

-- the texts of records, the texts of open claims and their numbers, in order
abbrev pub texts_of : List Record → List (List ℕ)
texts_of records = map (λ r. r.text) records

abbrev pub claimed_texts : List Claim → List (List ℕ)
claimed_texts claims = map (λ c. c.text) claims

abbrev pub numbers_of : List Claim → List ℕ
numbers_of claims = map (λ c. c.number) claims

-- the texts of the records and of the open claims
abbrev pub all_texts : TableState → List (List ℕ)
all_texts table = texts_of table.records ++ claimed_texts table.claims

-- the numbers of all claims that were ever made
abbrev pub all_numbers : TableState → List ℕ
all_numbers table = table.filled ++ numbers_of table.claims

-- each text is in the table at most once
abbrev pub HasOnce : TableState → Type 0
HasOnce table = IsDistinct bytes_eq (all_texts table)

-- how many claims were ever made
abbrev pub claim_count : TableState → ℕ
claim_count table = length table.claims + length table.records

-- what holds of every table: each text once, each claim's number once and below their count,
-- and one claim's number for each record
pub record IsSound (table : TableState) : Type 0 where
  pub once : HasOnce table
  pub numbered : IsDistinct nat_eq (all_numbers table)
  pub below : All (λ number. number < claim_count table) (all_numbers table)
  pub filled : length table.filled ≡ length table.records

-- the map of the records: a text's verdict, where it has one
abbrev pub verdict_in : List Record → List ℕ → Option Verdict
verdict_in [] text = None
verdict_in (r ∷ records) text = if bytes_eq text r.text then Some r.verdict else verdict_in records text

-- these verdicts have each record's
abbrev pub Extends : (List ℕ → Option Verdict) → List Record → Type 0
Extends verdicts [] = Unit {0}
Extends verdicts (r ∷ records) = (verdicts r.text ≡ Some r.verdict) × Extends verdicts records

-- the record with this text, where the first has this number and these are the numbers of their claims
abbrev pub record_from : ℕ → List ℕ → List Record → List ℕ → Option Found
record_from number text [] claims = None
record_from number text (r ∷ records) [] = None
record_from number text (r ∷ records) (claim ∷ claims) =
    if bytes_eq text r.text then Some (Filled claim number r.verdict) else record_from (number + 1) text records claims

-- the open claim with this text
abbrev pub claim_in : List ℕ → List Claim → Option Found
claim_in text claims = option_map (λ c. Claimed c.number) (find (λ c. bytes_eq text c.text) claims)

-- what the table holds for a text: a record with it, numbered from 1, or an open claim
abbrev pub found_in : TableState → List ℕ → Found
found_in table text =
    unwrap_or (record_from 1 text table.records table.filled) (unwrap_or (claim_in text table.claims) Absent)

-- a record that was found has its number, this text, and its verdict
abbrev pub IsThere : TableState → List ℕ → Found → Type 0
IsThere table text (Filled claim number verdict) =
    (0 < number) × (number ≤ length table.records) × (slice_get table.records (number - 1) ≡ Some (record { text = text; verdict = verdict }))
IsThere table text (Claimed claim) = Unit {0}
IsThere table text Absent = Unit {0}

-- the verdict that was found
abbrev pub verdict_found : Found → Option Verdict
verdict_found (Filled claim number verdict) = Some verdict
verdict_found (Claimed claim) = None
verdict_found Absent = None

-- the text of the open claim with this number
abbrev pub text_claimed : ℕ → List Claim → Option (List ℕ)
text_claimed number claims = option_map (λ c. c.text) (find (λ c. c.number == number) claims)

-- the open claims with other numbers
abbrev pub other_claims : ℕ → List Claim → List Claim
other_claims number claims = filter (λ c. not (c.number == number)) claims
