-- Verdicts that are kept from an earlier run.
use Rattle.std.specs.Prelude.{◌≡◌, ℕ, List, [], ◌∷◌, ◌++◌, Option, is_some, option_map, if◌then◌else◌}
use Rattle.verdict_table.specs.declared.record.Record.{Record}
use Rattle.verdict_table.specs.TableState.{verdict_in}

-- these records, and this one where its text has none yet
abbrev pub with_first : Record → List Record → List Record
with_first added records = if is_some (verdict_in records added.text) then records else records ++ added ∷ []

-- the text with its verdict, where it has one
abbrev pub record_in : List Record → List ℕ → Option Record
record_in records text = option_map (λ verdict. record { text = text; verdict = verdict }) (verdict_in records text)

-- each text has the same verdict in both, or none in either: that of its first record
abbrev pub SameVerdicts : List Record → List Record → Type 0
SameVerdicts one other = (text : List ℕ) → verdict_in one text ≡ verdict_in other text
