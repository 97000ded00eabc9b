use Rattle.command_words.specs.Lines.{selftest_read}
use Rattle.command_selftest.proofs.SelftestLemmas.{runs_selftest}
use Rattle.command_selftest.proofs.summary.selftest.Goals as goal

pub returns-clause-ends : goal.returns-clause-ends
returns-clause-ends g c =
    runs_selftest (selftest_read c.args.line) _ _ c.summary_of-outcome.result c.end_with.result c.summary_of-outcome.ensures.summary
    c.summary_of-outcome.ensures.refused c.end_with.ensures.ends
