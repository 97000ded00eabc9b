-- What contracts see of a reader of single pieces.
use Rattle.std.specs.Prelude.{ℕ}
use Rattle.grammar_tree.specs.Written.{CheckedGrammar}

-- The grammar by which it reads, and how often it was called.
pub record LexReads : Type 0 where
  pub checked : CheckedGrammar
  pub reads : ℕ
