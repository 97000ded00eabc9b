-- The report of a reduction.
use Rattle.std.specs.Prelude.{ℕ, List, ◌++◌, codes, decimal}
use Rattle.reduce_journal.specs.declared.counts.Counts.{Counts}
use Rattle.reduce_journal.specs.Journal.{line}

-- a line with a number at the start and one at the end
abbrev pub change : List ℕ → ℕ → ℕ → List ℕ
change prefix start end = prefix ++ (decimal start ++ line (codes " -> ") end)

-- the lines for units and bytes at the start and at the end, rounds, and answers
abbrev pub four_lines : (start_units end_units start_bytes end_bytes rounds used : ℕ) → List ℕ
four_lines start_units end_units start_bytes end_bytes rounds used =
    change (codes "units: ") start_units end_units
    ++ (change (codes "bytes: ") start_bytes end_bytes
    ++ (line (codes "rounds: ") rounds
    ++ line (codes "used: ") used))

-- the first four lines of a report
abbrev pub first_lines : Counts → List ℕ
first_lines counts = four_lines counts.start_units counts.end_units counts.start_bytes counts.end_bytes counts.rounds counts.used

-- the five lines
abbrev pub report_text : Counts → List ℕ
report_text counts = first_lines counts ++ line (codes "records: ") counts.records
