use Rattle.std.proofs.Common.{ℕ, List, Bor, ap, map, subst}
use Rattle.std.proofs.lemmas.Result.{err_from_is_err_and}
use Rattle.command_words.specs.Lines.{check_read, mode_of}
use Rattle.command_ends.specs.Status.{KeepsFail}
use Rattle.command_ends.specs.World.{seen}
use Rattle.command_check.proofs.FileLemmas.{lines_reads, lines_fail, lines_keeps_fail, memory_fails, problem_all_some}
use Rattle.command_check.proofs.files.lines_setup.Goals as goal

pub returns-in_err-start-clause-refused : goal.returns-in_err-start-clause-refused
returns-in_err-start-clause-refused g c =
    let p = err_from_is_err_and c.from_residual.result c.from_residual.ensures.1 in
    rw (p.1, p.2) (lines_fail (check_read c.args.line.now) (seen g.F.Files.content g.F.Files.faults c.args.files.now) (ap mode_of c.requires)
    (seen g.F.Files.content g.F.Files.faults c.read_input.new.files) _ _ c.in_err-start.field-0.0 c.in_err-start.ensures.refused c.in_err-start.ensures.calls)

pub returns-in_err-keeps-clause-refused : goal.returns-in_err-keeps-clause-refused
returns-in_err-keeps-clause-refused g c =
    let p = err_from_is_err_and c.from_residual-in_err-keeps.result c.from_residual-in_err-keeps.ensures.1 in
    let options = check_read c.args.line.now in
    let refusal = c.in_err-keeps.field-0.0 in
    rw (p.1, p.2) (lines_keeps_fail options (seen g.F.Files.content g.F.Files.faults c.args.files.now) (ap mode_of c.requires)
    (seen g.F.Files.content g.F.Files.faults c.read_input.new.files) _ _ c.in_ok-start.start.items c.in_ok-start.ensures.bytes c.in_ok-start.ensures.limit
    refusal c.in_ok-start.ensures.quiet
    (subst (λ (start : List ℕ). KeepsFail options.keeps start refusal) c.deref-2.ensures.value
    (subst (λ (texts : List (Bor (List ℕ))). KeepsFail (map (λ text. text.now) texts) c.deref-2.result.now refusal) c.deref.ensures.value
    c.in_err-keeps.ensures.refused)) c.in_ok-start.ensures.calls)

pub returns-in_err-from_slice-clause-refused : goal.returns-in_err-from_slice-clause-refused
returns-in_err-from_slice-clause-refused g c =
    let p = err_from_is_err_and c.from_residual-in_err-from_slice.result c.from_residual-in_err-from_slice.ensures.1 in
    let options = check_read c.args.line.now in
    let files = seen g.F.Files.content g.F.Files.faults c.args.files.now in
    let files' = seen g.F.Files.content g.F.Files.faults c.read_input.new.files in
    rw (p.1, p.2) (memory_fails options files files' _ _ c.in_ok-start.ensures.quiet
    (problem_all_some options files files' _ _ (lines_reads options files (ap mode_of c.requires) files' _ _ c.in_ok-start.ensures.calls)))

pub returns-clause-read : goal.returns-clause-read
returns-clause-read g c =
    lines_reads (check_read c.args.line.now) (seen g.F.Files.content g.F.Files.faults c.args.files.now) (ap mode_of c.requires)
    (seen g.F.Files.content g.F.Files.faults c.read_input.new.files) _ _ c.in_ok-start.ensures.calls
