-- What a round of mode `perses` tries.
use Rattle.normal_form.specs.declared.normal.Sym.{Sym}
use Rattle.normal_form.specs.Form.{NormalForm}
use Rattle.reduce_rounds.specs.Trials.{Trials}
use Rattle.syntax_tree.specs.Trees.{PlainTree}
use Rattle.reduce_perses.specs.Visit.{visit}
use Rattle.descend_replace.specs.FitsIn.{fits_in}

-- it visits the nodes of the tree, and a descendant can replace one whose slot it fits
abbrev pub visit_round : NormalForm → Sym → PlainTree → Trials PlainTree
visit_round N = visit N (fits_in N)
