use Rattle.std.proofs.Common.{ℕ, List, [], ◌∷◌, ◌++◌, sym, ap, ◌∙◌}
use Rattle.std.specs.Prelude.{slice_index_or}
use Rattle.std.specs.Global.{Vec}
use Rattle.std.proofs.lemmas.Bool.{cond-false, cond-true}
use Rattle.syntax_tree_cut.specs.Cuts.{cut_tree}
use Rattle.hdd_levels.proofs.FoundNodes.{is_left, leaves_more}
use Rattle.hdd_levels.proofs.nodes.push_with_tokens.Goals as goal
use Rattle.hdd_levels.proofs.nodes.push_with_tokens.Goals.{then-has_token+in_ok-push, else-has_token}

pub has_token-requires-clause-left : goal.has_token-requires-clause-left
has_token-requires-clause-left c =
    is_left (cut_tree c.args.tree.now c.args.cut.now) c.args.nodes.now c.requires.nodes.0 c.requires.nodes.1 c.loop-node.node-index 0 c.loop-node-test.true

pub loop-node-preserved : goal.loop-node-preserved
loop-node-preserved c = λ ts are.
    let number : ℕ = slice_index_or c.args.nodes.now c.loop-node.node-index 0 in
    let old : List ℕ = c.loop-node.into.items in
    let more =
    leaves_more (cut_tree c.args.tree.now c.args.cut.now) c.args.nodes.now ts are c.loop-node.node-index 0 c.loop-node-test.true c.has_token.result
    c.has_token.ensures c.args.into.now.items old c.if-has_token.into.items (c.loop-node.invariant ts are) in
    elim c.if-has_token.branch [
      | then-has_token+in_ok-push w ↦
          more (ap (λ (v : Vec ℕ). v.items) w.into-is ∙ w.in_ok-push.ensures.items
          ∙ sym (cond-true c.has_token.result (old ++ number ∷ []) old w.if-has_token.true))
      | else-has_token w ↦ more (ap (λ (v : Vec ℕ). v.items) w.into-is ∙ sym (cond-false c.has_token.result (old ++ number ∷ []) old w.if-has_token.false))
    ]
