use Rattle.plain_reductions.specs.Results.{result_of}
use Rattle.plain_reductions.specs.Verdicts.{verdicts_by}
use Rattle.plain_reductions.proofs.EndsLemmas.{agreed}
use Rattle.plain_reductions.proofs.compare.agrees.Goals as goal

pub returns : goal.returns
returns c =
    let given = c.args.case in
    let rule = c.args.rule in
    agreed given.grammar.now given.start.now given.mode given.squeezes (verdicts_by rule.start.now rule.seed)
    (result_of c.args.plain.now) c.in-Some.found _ c.agrees_with_plain.result
    (rw c.in-Some.is at c.in_ok-found.ensures.found) (rw c.in-Some.is at c.in_ok-found.ensures.input) c.in_ok-parts.ensures c.agrees_with_plain.ensures
