-- A round of mode `hdd` as a function of a verdict on every text.
use Rattle.std.specs.Prelude.{ℕ, zero, suc, Bool, true, ◌&&◌, List, if◌then◌else◌, length}
use Rattle.normal_form.specs.Form.{NormalForm}
use Rattle.list_ddmin.specs.ListStep.{Outcome, list_step}
use Rattle.reduce_rounds.specs.StateTexts.{StateTexts}
use Rattle.reduce_rounds.specs.Reduction.{RoundEnd, end_at}
use Rattle.reduce_rounds.specs.ListEnd.{after_step, keep_verdict}
use Rattle.syntax_tree.specs.Trees.{PlainTree}
use Rattle.syntax_tree.specs.Levels.{depth}
use Rattle.hdd_levels.specs.Levels.{fills_pluses, is_so_deep, kept_tree, level}

-- the same texts, where a state that doesn't pass the test isn't listed
abbrev pub with_allowed : {T : Type 0} → (T → Bool) → StateTexts T → StateTexts T
with_allowed test texts = record texts { is_listed = λ state. test state && texts.is_listed state }

module _ (texts : StateTexts PlainTree) (verdict : List ℕ → Bool) where
  -- the verdict on a keep list of these nodes: that on the tree that it stands for
  abbrev pub nodes_verdict : List ℕ → PlainTree → List Bool → Bool
  nodes_verdict nodes t keep = keep_verdict texts verdict (λ flags. kept_tree nodes flags t) keep

  -- an outcome of the list step over these nodes, and then what it comes to from the tree that is left
  abbrev pub after_nodes : (PlainTree → RoundEnd PlainTree) → List ℕ → PlainTree → Outcome → RoundEnd PlainTree
  after_nodes go nodes t outcome = after_step texts verdict (λ keep. kept_tree nodes keep t) (λ keep. go (kept_tree nodes keep t)) outcome

  -- the list step over the deletable nodes of a level, which may all go
  abbrev pub level_followed : (PlainTree → RoundEnd PlainTree) → NormalForm → ℕ → PlainTree → RoundEnd PlainTree
  level_followed go N d t = after_nodes go (level N d t) t (list_step (nodes_verdict (level N d t) t) (length (level N d t)) true)

  -- level after level from the depth d on, as long as the tree that is left is so deep, but so many at most
  unfoldable pub levels_followed : NormalForm → ℕ → ℕ → PlainTree → RoundEnd PlainTree
  levels_followed N zero d t = end_at t
  levels_followed N (suc times) d t = if is_so_deep d t then level_followed (λ u. levels_followed N times (suc d) u) N d t else end_at t

-- A round from the tree t: the levels from the root on, where a tree with an empty plus isn't listed, so that
-- it counts as no and isn't asked. No tree that is left is deeper than t, so these are all.
abbrev pub levels_end : NormalForm → StateTexts PlainTree → (List ℕ → Bool) → PlainTree → RoundEnd PlainTree
levels_end N texts verdict t = levels_followed (with_allowed (fills_pluses N) texts) verdict N (suc (depth t)) 0 t
