-- What the rounds of a mode owe, where `round` is what one of them tries of a tree for a symbol of a normal form.
use Rattle.normal_form.specs.declared.normal.Sym.{Sym}
use Rattle.normal_form.specs.Form.{NormalForm}
use Rattle.normal_form.specs.NormalOf.{IsNormal}
use Rattle.reduce_rounds.specs.Trials.{AllTried, EachIsSmaller, IsTriedAtNo, Trials}
use Rattle.syntax_tree.specs.Left.{IsRemainderOf}
use Rattle.syntax_tree.specs.Numbered.{NumbersRise}
use Rattle.syntax_tree.specs.Trees.{PlainTree, weight}
use Rattle.syntax_tree.specs.Valid.{IsTreeFor}

module _ (round : NormalForm → Sym → PlainTree → Trials PlainTree) where
  -- From a tree for the symbol that is left of a whole tree only such trees are tried.
  abbrev pub RoundsKeepTrees : Type 0
  RoundsKeepTrees =
      (N : NormalForm) (s : Sym) (whole t : PlainTree) → IsNormal N → NumbersRise whole → IsTreeFor N s t → IsRemainderOf whole t
      → AllTried (λ u. IsTreeFor N s u × IsRemainderOf whole u) (round N s t)

  -- Each tree that is tried has fewer leaves than the last that had a yes.
  abbrev pub RoundsLoseLeaves : Type 0
  RoundsLoseLeaves = (N : NormalForm) (s : Sym) (t : PlainTree) → IsNormal N → NumbersRise t → IsTreeFor N s t → EachIsSmaller weight (weight t) (round N s t)

  -- A round whose answers are all no has tried each of these edits of its tree.
  abbrev pub RoundsTryEdits : (NormalForm → Sym → PlainTree → PlainTree → Type 0) → Type 0
  RoundsTryEdits IsEdit =
      (N : NormalForm) (s : Sym) (t u : PlainTree) → IsNormal N → NumbersRise t → IsTreeFor N s t → IsEdit N s t u → IsTriedAtNo (round N s t) u
