-- The options of each command.
use Rattle.std.specs.Prelude.{ℕ, true, false, List, [], ◌∷◌, codes}
use Rattle.command_words.specs.Options.{OptionRow, Values}

-- an option that must be there
abbrev pub required : List ℕ → Values → OptionRow
required name values = record { name = name; values = values; most = 1; is_required = true }

-- an option that may be there once
abbrev pub optional : List ℕ → Values → OptionRow
optional name values = record { name = name; values = values; most = 1; is_required = false }

-- an option that may be there so often
abbrev pub repeated : ℕ → List ℕ → Values → OptionRow
repeated most name values = record { name = name; values = values; most = most; is_required = false }

-- how trees of a grammar are reduced
abbrev pub tree_modes : List (List ℕ)
tree_modes = codes "perses" ∷ codes "hdd" ∷ []

-- lines, by the numbers of the first and the last, from 1
abbrev pub any_lines : Values
any_lines = Values.lines 1 4294967295

-- `--grammar` must be there unless the mode is `lines`, in which it may not be, nor may `--lexer`, `--start` or `--squeeze`: `mode_options` says so.
-- With which options `--respell` may be is said by `fitting_respell`.
abbrev pub reduce_table : List OptionRow
reduce_table =
    required (codes "input") Values.any_text
    ∷ (required (codes "output") Values.any_text
    ∷ (required (codes "script") Values.any_text
    ∷ (optional (codes "grammar") Values.any_text
    ∷ (optional (codes "lexer") Values.any_text
    ∷ (optional (codes "mode") (Values.one_of (codes "lines" ∷ tree_modes))
    ∷ (optional (codes "start") Values.any_text
    ∷ (optional (codes "jobs") (Values.number 1 16)
    ∷ (optional (codes "journal") Values.any_text
    ∷ (optional (codes "resume") Values.any_text
    ∷ (optional (codes "work") Values.any_text
    ∷ (repeated 8 (codes "keep") Values.any_text
    ∷ (optional (codes "squeeze") Values.no_value
    ∷ (optional (codes "respell") Values.no_value
    ∷ (repeated 8 (codes "protect") any_lines
    ∷ (repeated 8 (codes "protect-text") Values.any_text
    ∷ (optional (codes "only") any_lines
    ∷ []))))))))))))))))

-- the files of a run are named, and the mode and the keep texts are said as for `reduce`
abbrev pub check_table : List OptionRow
check_table =
    required (codes "input") Values.any_text
    ∷ (required (codes "output") Values.any_text
    ∷ (required (codes "journal") Values.any_text
    ∷ (optional (codes "grammar") Values.any_text
    ∷ (optional (codes "lexer") Values.any_text
    ∷ (optional (codes "mode") (Values.one_of (codes "lines" ∷ tree_modes))
    ∷ (optional (codes "start") Values.any_text
    ∷ (repeated 8 (codes "keep") Values.any_text
    ∷ (optional (codes "squeeze") Values.no_value
    ∷ []))))))))

abbrev pub normal_table : List OptionRow
normal_table =
    required (codes "grammar") Values.any_text
    ∷ (optional (codes "lexer") Values.any_text
    ∷ (optional (codes "start") Values.any_text
    ∷ []))

abbrev pub selftest_table : List OptionRow
selftest_table =
    required (codes "number") (Values.number 0 4294967295)
    ∷ (required (codes "size") (Values.number 1 1500)
    ∷ (optional (codes "mode") (Values.one_of tree_modes)
    ∷ []))
