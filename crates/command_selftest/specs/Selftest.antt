-- The command `selftest`: the summary of the reduction of a generated program.
use Rattle.std.specs.Prelude.{◌≡◌, ◌⊎◌, ℕ, List, codes}
use Rattle.case_reduction.specs.Summary.{IsSummary}
use Rattle.command_words.specs.Commands.{SelftestOptions}
use Rattle.command_ends.specs.World.{CallFailed, IsQuiet, Puts, PutsMessage, PutsPrefix, SeenOut}

-- the text is the summary of the reduction of the program of the number and the size, in the mode
abbrev pub SummarizesCase : SelftestOptions → List ℕ → Type 0
SummarizesCase options text = IsSummary options.mode options.number options.size text

-- How `selftest` ends, by its status.
pub data SelftestEnds (options : SelftestOptions) (out out' : SeenOut) : ℕ → Type 0 where
  -- the summary was put
  done : (text : List ℕ)
      → (summary : SummarizesCase options text)
      → (put : Puts text out out')
      → SelftestEnds options out out' 0
  -- out of memory, for which there is no evidence
  memory : (line : PutsMessage (codes "out of memory") out out')
      → SelftestEnds options out out' 1
  -- the put failed: some prefix of the summary was put, and nothing more
  unput : (text : List ℕ)
      → (summary : SummarizesCase options text)
      → (put : PutsPrefix text out out')
      → SelftestEnds options out out' 4

-- Which status it has to be. This follows from how `selftest` ends.
pub record SelftestMustEnd (out out' : SeenOut) (status : ℕ) : Type 0 where
  -- where no put failed, the summary was put, or memory ran out
  pub complete : ¬ CallFailed out out' → (status ≡ 0) ⊎ (status ≡ 1)
  -- where the put failed, it was that of the summary (4) or of the other line (1)
  pub out_failed : ¬ IsQuiet out out' → (status ≡ 4) ⊎ (status ≡ 1)

pub record RunsSelftest (options : SelftestOptions) (out out' : SeenOut) (status : ℕ) : Type 0 where
  pub ends : SelftestEnds options out out' status
  pub must_end : SelftestMustEnd out out' status
