-- A grammar that was checked.
use Rattle.std.specs.Prelude.{◌≡◌, ℕ, ◌<◌, ◌^◌, List}
use Rattle.grammar_tree.specs.Written.{CheckedGrammar}
use Rattle.grammar_tree.specs.Kinds.{kinds_of}
use Rattle.grammar_tree.specs.Derives.{RuleDerives}
use Rattle.grammar_tree.specs.Faults.{IsWellFormed, number_at}
use Rattle.grammar_tree.specs.Size.{grammar_size}

-- The grammar is well-formed for its start, its kinds are those of the grammar, and its
-- rules, alternatives, declared tokens and terms together are fewer than 2^32.
pub record IsChecked (c : CheckedGrammar) : Type 0 where
  pub well_formed : IsWellFormed c.grammar c.start
  pub numbered : c.kinds ≡ kinds_of c.grammar
  pub small : grammar_size c.grammar < 2 ^ 32

-- The start rule derives the list of kinds.
abbrev pub StartDerives : CheckedGrammar → List ℕ → Type 0
StartDerives c w = RuleDerives c.grammar (number_at c.grammar c.start) w
