use Rattle.std.proofs.Common.{[], ◌∷◌, ◌≤◌, ◌∙◌, ℕ, List, Result, Err, ap, length, subst, sym}
use Rattle.std.proofs.lemmas.Result.{err_from_is_err_and}
use Rattle.edge_io.specs.Files.{Holds}
use Rattle.reduce_journal.specs.Journal.{GivesJournal}
use Rattle.reduce_journal.specs.declared.read.Journal.{Journal}
use Rattle.reduce_journal.specs.declared.read.JournalFault.{JournalFault}
use Rattle.command_words.specs.Lines.{check_read}
use Rattle.command_ends.specs.declared.status.NamedFile.TheVariants as named
use Rattle.command_ends.specs.Status.{ReadFails}
use Rattle.command_ends.specs.World.{SeenFiles, journal_limit, seen}
use Rattle.command_check.proofs.FileLemmas.{both_read, journal_bad, journal_fails, memory_fails, result_fails, run_read}
use Rattle.command_ends.proofs.Lent.{all_some, read_then, same_seen}
use Rattle.command_problem.specs.Problem.{problem_paths}
use Rattle.command_check.specs.Check.{checked_problem, read_paths}
use Rattle.command_check.proofs.files.read_run.Goals as goal

pub returns-in_err-output-clause-refused : goal.returns-in_err-output-clause-refused
returns-in_err-output-clause-refused g c reached calls reads =
    let p = err_from_is_err_and c.from_residual.result c.from_residual.ensures.1 in
    rw (p.1, p.2) (result_fails (check_read c.args.line.now) (seen g.F.Files.content g.F.Files.faults c.args.files.now)
    (seen g.F.Files.content g.F.Files.faults c.read_file.new.files) calls _ _ reached reads c.in_err-output.field-0.0 c.in_err-output.ensures.refused
    c.in_err-output.ensures.calls)

pub returns-in_err-read-clause-refused : goal.returns-in_err-read-clause-refused
returns-in_err-read-clause-refused g c reached calls reads =
    let p = err_from_is_err_and c.from_residual-in_err-read.result c.from_residual-in_err-read.ensures.1 in
    let options = check_read c.args.line.now in
    let files = seen g.F.Files.content g.F.Files.faults c.args.files.now in
    let between = seen g.F.Files.content g.F.Files.faults c.read_file.new.files in
    let files' = seen g.F.Files.content g.F.Files.faults c.read_file-2.new.files in
    let refusal = c.in_err-read.field-0.0 in
    rw (p.1, p.2) (journal_fails options files files' calls _ _
    (reached, record { bytes = c.in_ok-output.output.items; read = c.in_ok-output.ensures.bytes; within = c.in_ok-output.ensures.limit; holds = tt })
    (read_then (problem_paths (checked_problem options)) calls _ _ reads (options.output ∷ []) c.in_ok-output.ensures.calls) refusal
    (subst (λ (before : SeenFiles). ReadFails journal_limit named.Journal (before.shown options.journal) before files' refusal)
    (same_seen files between c.read_file.ensures.same c.in_ok-output.ensures.quiet) c.in_err-read.ensures.refused) c.in_err-read.ensures.calls)

pub returns-in_err-bytes-clause-refused : goal.returns-in_err-bytes-clause-refused
returns-in_err-bytes-clause-refused g c reached calls reads =
    let p = err_from_is_err_and c.from_residual-in_err-bytes.result c.from_residual-in_err-bytes.ensures.1 in
    let files = seen g.F.Files.content g.F.Files.faults c.args.files.now in
    let files' = seen g.F.Files.content g.F.Files.faults c.read_file-2.new.files in
    rw (p.1, p.2) (memory_fails (check_read c.args.line.now) files files' calls _ (c.in_ok-read.ensures.quiet ∙ c.in_ok-output.ensures.quiet)
    (all_some (read_paths (check_read c.args.line.now)) _ _ (both_read (check_read c.args.line.now) calls _ _ _ reads c.in_ok-output.ensures.calls
    c.in_ok-read.ensures.calls)))

pub returns-in-Ok-clause-run : goal.returns-in-Ok-clause-run
returns-in-Ok-clause-run g c =
    let options = check_read c.args.line.now in
    let files = seen g.F.Files.content g.F.Files.faults c.args.files.now in
    let between = seen g.F.Files.content g.F.Files.faults c.read_file.new.files in
    let is = c.in_ok-bytes.ensures in
    run_read options files c.in_ok-output.output.items c.in_ok-bytes.bytes c.in_ok-output.ensures.bytes c.in_ok-output.ensures.limit
    (subst (λ (bytes : List ℕ). Holds bytes (files.shown options.journal)) (sym is)
    (subst (λ (before : SeenFiles). Holds c.in_ok-read.read.items (before.shown options.journal))
    (same_seen files between c.read_file.ensures.same c.in_ok-output.ensures.quiet) c.in_ok-read.ensures.bytes))
    (subst (λ (bytes : List ℕ). length bytes ≤ journal_limit) (sym is) c.in_ok-read.ensures.limit) c.in-Ok.journal c.in-Ok.ensures.journal

pub returns-in-Err-clause-refused : goal.returns-in-Err-clause-refused
returns-in-Err-clause-refused g c reached calls reads =
    let options = check_read c.args.line.now in
    let files = seen g.F.Files.content g.F.Files.faults c.args.files.now in
    let between = seen g.F.Files.content g.F.Files.faults c.read_file.new.files in
    let files' = seen g.F.Files.content g.F.Files.faults c.read_file-2.new.files in
    let is = c.in_ok-bytes.ensures in
    journal_bad options files files' calls _
    (reached, record { bytes = c.in_ok-output.output.items; read = c.in_ok-output.ensures.bytes; within = c.in_ok-output.ensures.limit; holds = tt })
    (c.in_ok-read.ensures.quiet ∙ c.in_ok-output.ensures.quiet)
    (both_read options calls _ _ _ reads c.in_ok-output.ensures.calls c.in_ok-read.ensures.calls) c.in_ok-bytes.bytes
    (subst (λ (bytes : List ℕ). Holds bytes (files.shown options.journal)) (sym is)
    (subst (λ (before : SeenFiles). Holds c.in_ok-read.read.items (before.shown options.journal))
    (same_seen files between c.read_file.ensures.same c.in_ok-output.ensures.quiet) c.in_ok-read.ensures.bytes))
    (subst (λ (bytes : List ℕ). length bytes ≤ journal_limit) (sym is) c.in_ok-read.ensures.limit)
    c.in-Err.fault c.of_journal.result c.of_journal.ensures
    (λ head events torn of. subst (λ (answer : Result Journal JournalFault). GivesJournal head events torn answer) c.in-Err.is
    (c.read_journal.ensures.each_journal head events torn of))
    (λ same. c.read_journal.ensures.bad_head.0 (c.in-Err.is ∙ ap (λ (fault : JournalFault). Err fault) same))
    (λ offset same. c.read_journal.ensures.bad_record offset (c.in-Err.is ∙ ap (λ (fault : JournalFault). Err fault) same))

pub returns-in-Ok-clause-read : goal.returns-in-Ok-clause-read
returns-in-Ok-clause-read g c =
    let options = check_read c.args.line.now in
    read_then (options.output ∷ []) _ _ _ c.in_ok-output.ensures.calls (options.journal ∷ []) c.in_ok-read.ensures.calls
