use Rattle.std.proofs.lemmas.Result.{on_ok_weaker}
use Rattle.std.proofs.Common.{◌≡◌, sym, ◌∙◌, arith, rules}
use Rattle.syntax_tree_cut.specs.Cuts.{cut_tree}
use Rattle.reduce_perses.proofs.WaitingLemmas.{is_leaf, with_waiting}
use Rattle.reduce_perses.proofs.waiting.push_if_waiting.Goals as goal

pub returns : goal.returns
returns c =
    let leaf : c.eq.result ≡ is_leaf c.shape.result = search rules in
    on_ok_weaker c.push.result (λ pushed u e.
    pushed
    ∙ with_waiting c.args.tree.now.form (cut_tree c.args.tree.now c.args.cut.now) c.args.node c.weight-weight.result c.first_token.result c.shape.result
    c.shape.ensures (sym leaf ∙ c.if-eq.false) c.weight-weight.ensures
    (let some = c.if-weight-eq0.false in omega (arith, some)) c.first_token.ensures c.args.queue.now u e)
    c.push.ensures.ok
