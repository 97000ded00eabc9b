-- What the run of a tree needs of what walks it.
use Rattle.normal_form.specs.declared.normal.Sym.{Sym}
use Rattle.normal_form.specs.Form.{NormalForm}
use Rattle.reduce_rounds.specs.Trials.{Trials}
use Rattle.syntax_tree.specs.Trees.{PlainTree}
use Rattle.reduce_trees_mode.specs.Laws.{TextsAreNoLonger}
use Rattle.reduce_trees.specs.Ends.{WalksAskCandidates, WalksBegin, WalksEndMinimal}
use Rattle.reduce_trees.specs.Laws.{WalksAreLawful}
use Rattle.spell_shrink.specs.Laws.{RespellsCandidates, RespellsFromStart, RespellsReductions, RespellsToEnd, SpellModeIsLawful, SpellPhasesAgree}

-- Reductions of trees by such rounds begin with their start, ask candidates alone, which aren't longer, are lawful, and end at a tree that is minimal by
-- these edits.
pub record IsTreeMode (round : NormalForm → Sym → PlainTree → Trials PlainTree) (IsEdit : NormalForm → Sym → PlainTree → PlainTree → Type 0) : Type 0 where
  pub begins : WalksBegin round
  pub asks : WalksAskCandidates round
  pub no_longer : TextsAreNoLonger
  pub lawful : WalksAreLawful round
  pub minimal : WalksEndMinimal round IsEdit

-- The same with the respelling of what is left: the reduction of the tree is as without, and its respelling ends where each shorter neighbour has a no.
pub record IsSpellMode (round : NormalForm → Sym → PlainTree → Trials PlainTree) (IsEdit : NormalForm → Sym → PlainTree → PlainTree → Type 0) : Type 0 where
  pub tree_mode : IsTreeMode round IsEdit
  pub begins : RespellsFromStart round
  pub asks : RespellsCandidates round
  pub lawful : SpellModeIsLawful round
  pub agrees : SpellPhasesAgree round
  pub ends : RespellsToEnd round
  pub follows : RespellsReductions round
