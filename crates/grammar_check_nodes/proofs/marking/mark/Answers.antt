use Rattle.std.proofs.Common.{◌≡◌, true≢false, sym, ap, ◌∙◌, arith}
use Rattle.grammar_check_nodes.specs.Marking.{IsMarked}
use Rattle.grammar_check_nodes.proofs.marking.mark.Goals as goal

pub returns-clause-marked : goal.returns-clause-marked
returns-clause-marked g c = λ before.
    let flags = c.args.flags.now.items in
    let whole : g.T.Test.test c.args.test.now flags c.args.node ≡ c.passes.result =
    sym (c.passes.ensures ∙ ap (λ f. g.T.Test.test c.args.test.now f c.args.node) c.deref.ensures.value) in
    IsMarked.by_one flags c.args.node before (omega (arith, c.requires.node, c.requires.table, c.args.flags.now.ok.0)) (whole ∙ c.if-not-passes.false)

pub returns-clause-same : goal.returns-clause-same
returns-clause-same g c = λ e. absurd (true≢false e)

pub returns-clause-closed : goal.returns-clause-closed
returns-clause-closed g c = λ e. absurd (true≢false e)
