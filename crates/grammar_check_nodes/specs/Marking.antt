-- Tables of nodes that a test of nodes by a table closes.
use Rattle.std.specs.Prelude.{◌≡◌, ◌<◌, ℕ, Bool, true, false, List, length, slice_set}
use Rattle.grammar_check_nodes.specs.Flags.{flag}

-- The table has no node but those that were marked one after another, each because it passed the test by the table before it.
pub data IsMarked (test : List Bool → ℕ → Bool) : List Bool → Type 0 where
  by_none : (flags : List Bool) → ((node : ℕ) → flag flags node ≡ false) → IsMarked test flags
  by_one : (flags : List Bool) (node : ℕ) → IsMarked test flags → node < length flags → test flags node ≡ true → IsMarked test (slice_set flags node true)

-- The table has the node, where it passes the test by the table.
abbrev pub IsClosedAt : (List Bool → ℕ → Bool) → List Bool → ℕ → Type 0
IsClosedAt test flags node = test flags node ≡ true → flag flags node ≡ true
