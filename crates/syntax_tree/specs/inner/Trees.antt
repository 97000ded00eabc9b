-- Beside `../Trees.antt`: what private functions and proofs need.
use Rattle.std.specs.Prelude.{ℕ, List}
use Rattle.syntax_tree.specs.Trees.{PlainTrees, of_leaves_all}

abbrev pub kinds_of_all : PlainTrees → List ℕ
kinds_of_all ts = of_leaves_all (λ k i. k) ts
