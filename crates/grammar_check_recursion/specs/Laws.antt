-- What follows from the definitions, for the proofs of other crates.
use Rattle.std.specs.Prelude.{ℕ, ◌+◌, ◌≤◌}
use Rattle.grammar_tree.specs.Corners.{group_size}
use Rattle.grammar_tree.specs.Derives.{resolved_alts}
use Rattle.grammar_tree.specs.Size.{alts_size}
use Rattle.grammar_tree.specs.Written.{WrittenAlts, WrittenGrammar}

-- A parser rule makes at most four rules more than the size of its alternatives.
abbrev pub GroupsFit : Type 0
GroupsFit = (G : WrittenGrammar) (r : ℕ) (a : WrittenAlts) → group_size r (resolved_alts G a) ≤ alts_size a + 4
