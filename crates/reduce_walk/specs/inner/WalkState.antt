-- Beside `../WalkState.antt`: what private functions and proofs need.
use Rattle.std.specs.Prelude.{refl}
use Rattle.std.specs.Coded.{Coded, code_by, coded×}
use Rattle.reduce_rounds.specs.Trials.{Trials}
use Rattle.syntax_tree.specs.Trees.{PlainTree}
use Rattle.syntax_tree.specs.Nodes.{SyntaxTree}
use Rattle.reduce_walk.specs.inner.Codes.{syntax_tree_coded, tree_coded, trials_coded}
use Rattle.reduce_walk.specs.WalkState.{WalkState}

-- it has a code, by those of its fields
abbrev pub walk_state_coded : Coded WalkState
walk_state_coded =
    code_by (SyntaxTree × (PlainTree × Trials PlainTree)) (coded× syntax_tree_coded (coded× tree_coded (trials_coded tree_coded)))
    (λ v. (v.tree, (v.left, v.rest))) (λ p. record { tree = p.0; left = p.1.0; rest = p.1.1 }) (λ _. refl)
