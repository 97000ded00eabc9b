use Rattle.std.proofs.Common.{sym, ◌∙◌}
use Rattle.std.proofs.lemmas.Result.{IfOk-weaker}
use Rattle.keep_guard.specs.Keep.{keeps_admit}
use Rattle.run_problem.specs.Problem.{Problem}
use Rattle.cert_check.specs.Findings.{head_in}
use Rattle.cert_check.proofs.Setups.{of_whole, other_found, some_input}
use Rattle.cert_check.proofs.check.found_finding.Goals as goal

pub returns-in-Some : goal.returns-in-Some
returns-in-Some c =
    let made =
    some_input c.args.checked.now c.args.start.now c.args.found c.args.keeps.now c.args.squeezes c.is_checked.ensures c.requires.parsed c.requires.input in (
      made.0,
      made.1,
      made.2,
      other_found (keeps_admit c.args.keeps.now) (Problem.of_tree c.args.mode made.0) c.args.files.output.now (head_in c.args.files.journal.now)
          c.args.files.journal.now.events.items c.args.files.journal.now.torn c.as_bytes.result.now ((made.1).same_text ∙ sym c.as_bytes.ensures.value)
          c.in-Some.other (rw c.in-Some.is at c.other_journal.ensures),
    )

pub returns-in-None : goal.returns-in-None
returns-in-None c =
    IfOk-weaker c.parsed_finding.result _ _ (λ finding it. (
      it.0,
      it.1,
      it.2,
      of_whole (keeps_admit c.args.keeps.now) (Problem.of_tree c.args.mode it.0) c.args.files.output.now (head_in c.args.files.journal.now)
          c.args.files.journal.now.events.items c.args.files.journal.now.torn c.as_bytes.result.now ((it.1).same_text ∙ sym c.as_bytes.ensures.value)
          (rw c.in-None.is at c.other_journal.ensures) finding it.3,
    )) c.parsed_finding.ensures
