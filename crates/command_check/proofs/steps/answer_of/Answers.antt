use Rattle.std.proofs.Common.{ℕ, List, ◌∙◌, subst}
use Rattle.std.proofs.lemmas.Result.{err_from_is_err_and}
use Rattle.reduce_journal.specs.declared.head.Head.{Head}
use Rattle.reduce_journal.specs.History.{History, records_of}
use Rattle.verdict_table.specs.TableState.{verdict_in}
use Rattle.run_problem.specs.Problem.{IsReductionOf}
use Rattle.cert_check.specs.Findings.{IsFound, head_in}
use Rattle.cert_check.specs.Setup.{admits_in}
use Rattle.cert_check.specs.declared.finding.Finding.{Finding}
use Rattle.cert_check.specs.declared.finding.Finding.TheVariants.{No}
use Rattle.command_words.specs.Lines.{check_read}
use Rattle.command_ends.specs.World.{SeenCalls, SeenFiles, WereRead, seen}
use Rattle.command_check.specs.Check.{IsResultReached, RunRead, checked_problem, read_paths}
use Rattle.command_check.specs.inner.Check.{CheckFails}
use Rattle.command_check.proofs.FileLemmas.{cause_fails, confirmed_of, found_of, memory_fails, result_reached, run_reads}
use Rattle.command_ends.proofs.Lent.{all_some, same_seen}
use Rattle.command_problem.specs.Problem.{problem_paths}
use Rattle.command_check.proofs.steps.answer_of.Goals as goal

pub returns-in_err-run-clause-refused : goal.returns-in_err-run-clause-refused
returns-in_err-run-clause-refused g c =
    let p = err_from_is_err_and c.from_residual-in_err-run.result c.from_residual-in_err-run.ensures.1 in
    let options = check_read c.args.line.now in
    let files = seen g.F.Files.content g.F.Files.faults c.args.files.now in
    let between = seen g.F.Files.content g.F.Files.faults c.read_setup.new.files in
    let files' = seen g.F.Files.content g.F.Files.faults c.read_run.new.files in
    let same = same_seen files between c.read_setup.ensures.same c.in_ok-setup.ensures.quiet in
    rw (p.1, p.2) (subst (λ (before : SeenFiles). IsResultReached options before → (calls : SeenCalls)
    → WereRead (problem_paths (checked_problem options)) calls (g.F.Files.calls c.read_setup.new.files)
    → CheckFails options before files' calls (g.F.Files.calls c.read_run.new.files) c.in_err-run.field-0.0) same
    c.in_err-run.ensures.refused (result_reached options files c.in_ok-setup.setup c.in_ok-setup.ensures.setup) _ c.in_ok-setup.ensures.read)

pub returns-in_err-check_run-clause-refused : goal.returns-in_err-check_run-clause-refused
returns-in_err-check_run-clause-refused g c =
    let p = err_from_is_err_and c.from_residual-in_err-check_run.result c.from_residual-in_err-check_run.ensures.1 in
    rw (p.1, p.2) (memory_fails (check_read c.args.line.now) (seen g.F.Files.content g.F.Files.faults c.args.files.now)
    (seen g.F.Files.content g.F.Files.faults c.read_run.new.files) _ _ (c.in_ok-run.ensures.quiet ∙ c.in_ok-setup.ensures.quiet)
    (all_some (read_paths (check_read c.args.line.now)) _ _
    (run_reads (check_read c.args.line.now) _ _ _ c.in_ok-setup.ensures.read c.in_ok-run.ensures.read)))

pub returns-in_err-answer_yes-in-Yes-clause-refused : goal.returns-in_err-answer_yes-in-Yes-clause-refused
returns-in_err-answer_yes-in-Yes-clause-refused g c =
    let p = err_from_is_err_and c.from_residual-in_err-answer_yes-in-Yes.result c.from_residual-in_err-answer_yes-in-Yes.ensures.1 in
    rw (p.1, p.2) (memory_fails (check_read c.args.line.now) (seen g.F.Files.content g.F.Files.faults c.args.files.now)
    (seen g.F.Files.content g.F.Files.faults c.read_run.new.files) _ _ (c.in_ok-run.ensures.quiet ∙ c.in_ok-setup.ensures.quiet)
    (all_some (read_paths (check_read c.args.line.now)) _ _
    (run_reads (check_read c.args.line.now) _ _ _ c.in_ok-setup.ensures.read c.in_ok-run.ensures.read)))

pub returns-in-Yes-clause-found : goal.returns-in-Yes-clause-found
returns-in-Yes-clause-found g c =
    let options = check_read c.args.line.now in
    let files = seen g.F.Files.content g.F.Files.faults c.args.files.now in
    let between = seen g.F.Files.content g.F.Files.faults c.read_setup.new.files in
    let same = same_seen files between c.read_setup.ensures.same c.in_ok-setup.ensures.quiet in
    let it = c.in_ok-setup.setup in
    let output : List ℕ = (c.in_ok-run.run').output.items in
    let head : Head = head_in (c.in_ok-run.run').journal in
    let events : History = (c.in_ok-run.run').journal.events.items in
    let torn : ℕ = (c.in_ok-run.run').journal.torn in
    confirmed_of options files it output head events torn c.in_ok-setup.ensures.setup
    (subst (λ (before : SeenFiles). RunRead options before output head events torn) same c.in_ok-run.ensures.run)
    (λ problem is. subst (λ (finding : Finding). IsFound (admits_in it) problem output head events torn finding) c.in-Yes.is
    (subst (λ (text : List ℕ). IsFound (admits_in it) problem text head events torn c.in_ok-check_run.field-0) c.deref.ensures.value
    (c.in_ok-check_run.ensures.finding problem is)))
    (λ problem is. subst (λ (text : List ℕ). IsReductionOf (admits_in it) (verdict_in (records_of events)) problem text) c.deref.ensures.value
    (c.in_ok-check_run.ensures.reduction problem is c.in-Yes.is))

pub returns-clause-refused : goal.returns-clause-refused
returns-clause-refused g c =
    let options = check_read c.args.line.now in
    let files = seen g.F.Files.content g.F.Files.faults c.args.files.now in
    let between = seen g.F.Files.content g.F.Files.faults c.read_setup.new.files in
    let files' = seen g.F.Files.content g.F.Files.faults c.read_run.new.files in
    let same = same_seen files between c.read_setup.ensures.same c.in_ok-setup.ensures.quiet in
    let it = c.in_ok-setup.setup in
    let output : List ℕ = (c.in_ok-run.run').output.items in
    let head : Head = head_in (c.in_ok-run.run').journal in
    let events : History = (c.in_ok-run.run').journal.events.items in
    let torn : ℕ = (c.in_ok-run.run').journal.torn in
    cause_fails options files files' _ _ c.in-No.why c.refusal_of.result
    (found_of options files it output head events torn (No c.in-No.why) c.in_ok-setup.ensures.setup
    (subst (λ (before : SeenFiles). RunRead options before output head events torn) same c.in_ok-run.ensures.run)
    (λ problem is. subst (λ (finding : Finding). IsFound (admits_in it) problem output head events torn finding) c.in-No.is
    (subst (λ (text : List ℕ). IsFound (admits_in it) problem text head events torn c.in_ok-check_run.field-0) c.deref.ensures.value
    (c.in_ok-check_run.ensures.finding problem is))))
    (c.in_ok-run.ensures.quiet ∙ c.in_ok-setup.ensures.quiet) c.refusal_of.ensures
    (run_reads options _ _ _ c.in_ok-setup.ensures.read c.in_ok-run.ensures.read)

pub returns-in-Yes-clause-read : goal.returns-in-Yes-clause-read
returns-in-Yes-clause-read g c = run_reads (check_read c.args.line.now) _ _ _ c.in_ok-setup.ensures.read c.in_ok-run.ensures.read
