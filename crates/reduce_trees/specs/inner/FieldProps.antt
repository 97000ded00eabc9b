-- What holds of a round's fields is a proposition.
use Rattle.std.specs.Prelude.{ℕ, List, Option, Some, None}
use Rattle.std.specs.Coded.{Coded-set}
use Rattle.std.proofs.Props.{props}
use Rattle.reduce_rounds.specs.Trials.{Trials}
use Rattle.syntax_tree.specs.Trees.{PlainTree}
use Rattle.syntax_tree.specs.Nodes.{SyntaxTree}
use Rattle.token_print.specs.declared.style.Style.{Style}
use Rattle.reduce_trees_mode.specs.Input.{TreeInput}
use Rattle.reduce_trees_mode.specs.inner.InputParts.{form_set, symbol_set}
use Rattle.reduce_trees_mode.specs.Listed.{MayKeepStyle}
use Rattle.reduce_walk.specs.inner.Codes.{tree_coded}
use Rattle.reduce_trees.specs.declared.candidate.Candidate.{Candidate}
use Rattle.reduce_trees.specs.declared.trial.Trial.{Trial}
use Rattle.reduce_trees.specs.declared.trial.Trial.TheVariants.{Over, Squeezed, Edit, Refused}
use Rattle.reduce_trees.specs.inner.Candidates.{IsCandidateIn}
use Rattle.reduce_trees.specs.Fields.{IsTreeOf}
use Rattle.reduce_trees.specs.inner.Fields.{Agrees, IsCandidateIf, IsTried}

tree_set : IsSet PlainTree
tree_set = Coded-set tree_coded

tree_of_prop : (input : TreeInput) (tree : SyntaxTree) → IsProp (IsTreeOf input tree)
tree_of_prop input tree = hlevel (props, form_set, symbol_set, tree_set)

may_keep_prop : (input : TreeInput) (style : Style) → IsProp (MayKeepStyle input style)
may_keep_prop input Style.AsWas = hlevel props
may_keep_prop input Style.Squeezed = hlevel props

candidate_prop : (input : TreeInput) (kept : List ℕ) (style : Style) (candidate : Candidate) → IsProp (IsCandidateIn input kept style candidate)
candidate_prop input kept style candidate = hlevel props

candidate_if_prop : (input : TreeInput) (style : Style) (tree : Option PlainTree) (candidate : Candidate) → IsProp (IsCandidateIf input style tree candidate)
candidate_if_prop input style None candidate = hlevel props
candidate_if_prop input style (Some tree) candidate = hlevel (props, candidate_prop)

tried_prop : (input : TreeInput) (style : Style) (left : PlainTree) (rest : Trials PlainTree) (trial : Trial) → IsProp (IsTried input style left rest trial)
tried_prop input style left rest Over = hlevel props
tried_prop input style left rest (Squeezed candidate) = hlevel (props, tree_set, candidate_prop)
tried_prop input style left rest (Edit candidate) = hlevel (props, candidate_if_prop)
tried_prop input style left rest (Refused memory) = hlevel props

pub agrees_prop : (input : TreeInput) (style : Style) (tree : SyntaxTree) (left : PlainTree) (rest : Trials PlainTree) (trial : Trial)
    → IsProp (Agrees input style tree left rest trial)
agrees_prop input style tree left rest trial = hlevel (props, tree_of_prop, may_keep_prop, tried_prop)
