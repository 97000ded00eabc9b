-- What a round of mode `hdd` tries, and which edits it tries each by itself.
use Rattle.normal_form.specs.declared.normal.Sym.{Sym}
use Rattle.normal_form.specs.Form.{NormalForm}
use Rattle.reduce_rounds.specs.Trials.{Trials}
use Rattle.syntax_tree.specs.Trees.{PlainTree}
use Rattle.syntax_tree.specs.Edits.{IsSingleDeletion}
use Rattle.reduce_hdd.specs.Round.{levels}

-- it goes through the levels of the tree, whichever symbol the tree is for
abbrev pub level_round : NormalForm → Sym → PlainTree → Trials PlainTree
level_round N s = levels N

-- the single deletions
abbrev pub IsDeletion : NormalForm → Sym → PlainTree → PlainTree → Type 0
IsDeletion N s t u = IsSingleDeletion N t u
