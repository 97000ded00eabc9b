use Rattle.std.proofs.Common.{◌∙◌, ◌++◌, ap, refl}
use Rattle.keep_guard.specs.Keep.{keeps_admit}
use Rattle.reduce_journal.specs.Report.{first_lines}
use Rattle.case_reduction.specs.Summary.{IsSummary}
use Rattle.case_reduction.proofs.RuleRuns.{all_said, answered, ends_in_memory, ends_with_summary}
use Rattle.case_reduction.proofs.reduce.case_summary.Goals as goal

pub returns-in-Ok : goal.returns-in-Ok
returns-in-Ok g c =
    let ran = c.run_problem-outcome in
    let known = c.of_start-known in
    let sound = ran.ensures.sound.answers in
    let said = all_said known.result.kept ran.result.events.items known.ensures.none sound.resumed sound.said in
    let reduced = c.in-Ok.reduced in
    answered c.summary.result (λ v. v.items) (first_lines reduced.counts ++ reduced.text.items)
    (IsSummary c.args.mode c.args.number c.args.size) c.summary.ensures
    (ends_with_summary c.args.mode c.args.number c.args.size c.in_ok-problem.problem c.in_ok-problem.ensures.case _
    (ap keeps_admit (c.new-guard.ensures ∙ c.new.ensures)) _ said ran.ensures.problem
    c.problems_reduce_alike.ensures reduced c.in-Ok.is)

pub memory_of-requires : goal.memory_of-requires
memory_of-requires g c =
    let ran = c.run_problem-outcome in
    let known = c.of_start-known in
    let sound = ran.ensures.sound.answers in
    let said = all_said known.result.kept ran.result.events.items known.ensures.none sound.resumed sound.said in
    ends_in_memory c.args.mode c.args.number c.args.size c.in_ok-problem.problem c.in_ok-problem.ensures.case _
    (ap keeps_admit (c.new-guard.ensures ∙ c.new.ensures)) _ said ran.ensures.problem
    _ ran.new.workers refl refl c.cases_get_yes.ensures c.requires.least c.in-Err.fault c.in-Err.is
