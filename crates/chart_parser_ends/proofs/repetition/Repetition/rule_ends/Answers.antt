use Rattle.chart_parser_ends.proofs.repetition.Repetition.rule_ends.Goals as goal

pub returns-clause-ends : goal.returns-clause-ends
returns-clause-ends c = c.without_start-ends.ensures
