-- What follows from the definitions, for the proofs of other crates.
use Rattle.std.specs.Prelude.{◌≡◌, ℕ, suc, ◌<◌, Bool, List, length, if◌then◌else◌}
use Rattle.normal_form.specs.declared.normal.Sym.{Sym}
use Rattle.normal_form.specs.Form.{NormalForm}
use Rattle.list_ddmin.specs.Asked.{KeepsFewer}
use Rattle.reduce_rounds.specs.Trials.{Done, AllTried, EachIsSmaller, IsTriedAtNo}
use Rattle.reduce_rounds.specs.StateTexts.{StateTexts}
use Rattle.reduce_rounds.specs.ByTrials.{trials_end}
use Rattle.syntax_tree.specs.Trees.{PlainTree, weight}
use Rattle.syntax_tree.specs.Numbered.{NumbersRise}
use Rattle.syntax_tree.specs.Valid.{IsTreeFor}
use Rattle.syntax_tree.specs.Edits.{IsSingleDeletion}
use Rattle.syntax_tree.specs.Left.{IsRemainderOf}
use Rattle.hdd_levels.specs.Levels.{is_so_deep, kept_tree, level}
use Rattle.reduce_hdd.specs.Round.{level_tried, levels, levels_from}
use Rattle.reduce_hdd.specs.Followed.{levels_end}

-- Where fewer nodes of a level are kept, fewer leaves are left.
abbrev pub FewerNodesAreLighter : Type 0
FewerNodesAreLighter =
    (N : NormalForm) (d : ℕ) (t : PlainTree) (fewer keep : List Bool) → NumbersRise t → length keep ≡ length (level N d t) → KeepsFewer fewer keep →
    weight (kept_tree (level N d t) fewer t) < weight (kept_tree (level N d t) keep t)

-- From a depth on it is that level, and then the levels from the next depth on: the bound in
-- the definition is never met. Where nothing is so deep, nothing more is tried.
abbrev pub GoesByLevels : Type 0
GoesByLevels =
    (N : NormalForm) (d : ℕ) (t : PlainTree) → levels_from N d t ≡ (if is_so_deep d t then level_tried (λ u. levels_from N (suc d) u) N d t else Done)

-- From a tree for the slot that is left of the whole tree only such trees are tried.
abbrev pub TriesKeptTrees : Type 0
TriesKeptTrees = (N : NormalForm) (s : Sym) (whole t : PlainTree) → NumbersRise whole → IsTreeFor N s t → IsRemainderOf whole t →
    AllTried (λ (u : PlainTree). IsTreeFor N s u × IsRemainderOf whole u) (levels N t)

-- Each tree that is tried has fewer leaves than the last that had a yes.
abbrev pub LosesLeaves : Type 0
LosesLeaves = (N : NormalForm) (t : PlainTree) → NumbersRise t → EachIsSmaller weight (weight t) (levels N t)

-- A round whose answers are all no has tried each single deletion of its tree.
abbrev pub TriesSingleDeletions : Type 0
TriesSingleDeletions = (N : NormalForm) (s : Sym) (t u : PlainTree) → IsTreeFor N s t → NumbersRise t → IsSingleDeletion N t u → IsTriedAtNo (levels N t) u

-- Over the trees' texts and a verdict, a round comes to what its levels come to one after another.
abbrev pub EndsByLevels : Type 0
EndsByLevels =
    (N : NormalForm) (texts : StateTexts PlainTree) (verdict : List ℕ → Bool) (t : PlainTree)
    → trials_end texts verdict t (levels N t) ≡ levels_end N texts verdict t
