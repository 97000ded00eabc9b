-- What is worked on until its entry is there.
use Rattle.std.specs.Prelude.{◌⊎◌, ◌+◌, ◌-◌, ◌*◌, ◌^◌, ℕ, List, length}
use Rattle.std.specs.List.{Contains}
use Rattle.chart_parser_ends.specs.declared.work.Work.{Work}
use Rattle.chart_parser_ends.specs.inner.Entries.{Entry, HasEntry}
use Rattle.chart_parser_ends.specs.inner.Working.{IsOn}

-- There is an entry of the rule at the position `first`, or some work on it.
abbrev pub IsUnderWay : List Entry → List Work → ℕ → ℕ → Type 0
IsUnderWay entries works rule first = HasEntry entries rule first ⊎ ((w : Work) × Contains works w × IsOn rule first w)

-- What is under way stays so: work on a rule at a position ends when its entry is there, and no entry is lost.
abbrev pub KeepsUnderWay : List Entry → List Work → List Entry → List Work → Type 0
KeepsUnderWay old_entries old_works entries works =
    (rule first : ℕ) → IsUnderWay old_entries old_works rule first → IsUnderWay entries works rule first

-- how much there is still to do at most: entries to come, and after that works to be put on a stack that has `works`
abbrev pub work_left : List Entry → ℕ → ℕ
work_left entries works = (2 ^ 32 - length entries) * 2 ^ 65 + (2 ^ 64 - works)
