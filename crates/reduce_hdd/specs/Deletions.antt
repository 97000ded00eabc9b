-- What is tried of a tree in a round of mode `hdd`, beside the last yes.
use Rattle.std.specs.Prelude.{◌≡◌, ℕ, List}
use Rattle.std.specs.List.{Contains}
use Rattle.normal_form.specs.Form.{NormalForm}
use Rattle.syntax_tree.specs.Trees.{PlainTree}
use Rattle.syntax_tree.specs.Numbered.{NumbersRise}
use Rattle.syntax_tree_cut.specs.WithoutNodes.{without_nodes}
use Rattle.hdd_levels.specs.Levels.{level}
use Rattle.reduce_rounds.specs.Trials.{EachFollows}
use Rattle.reduce_hdd.specs.Round.{levels}

-- The second tree is the first one without some of its deletable nodes of one depth.
pub record DeletesInLevel (N : NormalForm) (t u : PlainTree) : Type 0 where
  pub depth : ℕ
  pub nodes : List ℕ
  pub of_level : (q : ℕ) → Contains nodes q → Contains (level N depth t) q
  pub rest : u ≡ without_nodes nodes t

-- So does each tree that is tried come from the last that had a yes.
abbrev pub TriesLevelDeletions : Type 0
TriesLevelDeletions = (N : NormalForm) (t : PlainTree) → NumbersRise t → EachFollows (DeletesInLevel N) t (levels N t)
