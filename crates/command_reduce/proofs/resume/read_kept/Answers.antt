use Rattle.std.proofs.Common.{◌≤◌, Err, ℕ, List, ap, length, option_map, subst, sym, ◌∙◌}
use Rattle.std.proofs.lemmas.Result.{IfErr-weaker, IfOk-weaker, err_from_is_err_and}
use Rattle.edge_io.specs.Files.{Holds}
use Rattle.reduce_journal.specs.declared.read.JournalFault.{JournalFault}
use Rattle.command_ends.specs.World.{journal_limit, seen}
use Rattle.command_reduce.specs.Resume.{IsKeptFrom}
use Rattle.std.specs.Option.{option_to_list}
use Rattle.edge_io.proofs.Lent.{none_made}
use Rattle.command_ends.proofs.Lent.{all_some}
use Rattle.command_ends.specs.World.{WereRead}
use Rattle.command_reduce.proofs.CallLemmas.{bad_journal_calls, kept_refused_calls, on_ok, unread_journal_calls}
use Rattle.command_reduce.proofs.ResumeLemmas.{bad_fails, is_kept, kept_fails, none_named, unread_fails}
use Rattle.command_reduce.proofs.resume.read_kept.Goals as goal

pub returns-in_default-clause-kept : goal.returns-in_default-clause-kept
returns-in_default-clause-kept g c =
    let files = seen g.F.Files.content g.F.Files.faults c.args.files.now in
    subst (λ path. IsKeptFrom (option_map (λ p. p.now) path) files c.args.start.now c.new.result) (sym (none_named c.args.path c.in_default.not-Some))
    c.new.ensures

pub returns-in_err-read-clause-refused : goal.returns-in_err-read-clause-refused
returns-in_err-read-clause-refused g c =
    let p = err_from_is_err_and c.from_residual.result c.from_residual.ensures.1 in
    let old = seen g.F.Files.content g.F.Files.faults c.args.files.now in
    let new = seen g.F.Files.content g.F.Files.faults c.read_file.new.files in
    rw (p.1, p.2, c.in-Some.is) (unread_fails c.in-Some.path.now c.args.start.now old new c.in_err-read.field-0.0 c.in_err-read.ensures.refused)

pub returns-in_err-bytes-clause-refused : goal.returns-in_err-bytes-clause-refused
returns-in_err-bytes-clause-refused g c =
    let p = err_from_is_err_and c.from_residual-in_err-bytes.result c.from_residual-in_err-bytes.ensures.1 in
    rw (p.1, p.2, c.in-Some.is) c.in_ok-read.ensures.quiet

pub returns-in-Err-clause-refused : goal.returns-in-Err-clause-refused
returns-in-Err-clause-refused g c =
    let old = seen g.F.Files.content g.F.Files.faults c.args.files.now in
    let new = seen g.F.Files.content g.F.Files.faults c.read_file.new.files in
    let path = c.in-Some.path.now in
    let is = c.in_ok-bytes.ensures in
    rw c.in-Some.is (bad_fails path c.args.start.now old new c.in_ok-read.ensures.quiet c.in_ok-bytes.bytes
    (subst (λ (bytes : List ℕ). Holds bytes (old.shown path)) (sym is) c.in_ok-read.ensures.bytes)
    (subst (λ (bytes : List ℕ). length bytes ≤ journal_limit) (sym is) c.in_ok-read.ensures.limit) c.in-Err.fault c.of_journal.result c.of_journal.ensures
    (λ no_head. c.read_journal.ensures.bad_head.0 (c.in-Err.is ∙ ap (λ (fault : JournalFault). Err fault) no_head))
    (λ offset bad. c.read_journal.ensures.bad_record offset (c.in-Err.is ∙ ap (λ (fault : JournalFault). Err fault) bad)))

pub returns-clause-kept : goal.returns-clause-kept
returns-clause-kept g c =
    let old = seen g.F.Files.content g.F.Files.faults c.args.files.now in
    let new = seen g.F.Files.content g.F.Files.faults c.read_file.new.files in
    let path = c.in-Some.path.now in
    let is = c.in_ok-bytes.ensures in
    rw c.in-Some.is (IfOk-weaker c.kept_of.result _ _
    (λ kept. is_kept path c.args.start.now old new c.in_ok-read.ensures.quiet c.in_ok-bytes.bytes
    (subst (λ (bytes : List ℕ). Holds bytes (old.shown path)) (sym is) c.in_ok-read.ensures.bytes)
    (subst (λ (bytes : List ℕ). length bytes ≤ journal_limit) (sym is) c.in_ok-read.ensures.limit) c.in-Ok.journal c.in-Ok.ensures.journal kept)
    c.kept_of.ensures.kept)

pub returns-clause-refused : goal.returns-clause-refused
returns-clause-refused g c =
    let old = seen g.F.Files.content g.F.Files.faults c.args.files.now in
    let new = seen g.F.Files.content g.F.Files.faults c.read_file.new.files in
    let path = c.in-Some.path.now in
    let is = c.in_ok-bytes.ensures in
    rw c.in-Some.is (IfErr-weaker c.kept_of.result _ _
    (λ refusal. kept_fails path c.args.start.now old new c.in_ok-read.ensures.quiet c.in_ok-bytes.bytes
    (subst (λ (bytes : List ℕ). Holds bytes (old.shown path)) (sym is) c.in_ok-read.ensures.bytes)
    (subst (λ (bytes : List ℕ). length bytes ≤ journal_limit) (sym is) c.in_ok-read.ensures.limit) c.in-Ok.journal c.in-Ok.ensures.journal refusal)
    c.kept_of.ensures.refused)

pub returns-in_default-clause-read : goal.returns-in_default-clause-read
returns-in_default-clause-read g c =
    let calls = g.F.Files.calls c.args.files.now in
    subst (λ path. WereRead (option_to_list (option_map (λ p. p.now) path)) calls calls) (sym (none_named c.args.path c.in_default.not-Some)) (none_made calls)

pub returns-in_err-read-clause-calls : goal.returns-in_err-read-clause-calls
returns-in_err-read-clause-calls g c =
    let p = err_from_is_err_and c.from_residual.result c.from_residual.ensures.1 in
    let old = seen g.F.Files.content g.F.Files.faults c.args.files.now in
    let new = seen g.F.Files.content g.F.Files.faults c.read_file.new.files in
    rw (p.1, p.2, c.in-Some.is)
    (unread_journal_calls c.in-Some.path.now _ old new _ _ c.in_err-read.field-0.0 c.in_err-read.ensures.refused c.in_err-read.ensures.calls)

pub returns-in_err-bytes-clause-calls : goal.returns-in_err-bytes-clause-calls
returns-in_err-bytes-clause-calls g c =
    let p = err_from_is_err_and c.from_residual-in_err-bytes.result c.from_residual-in_err-bytes.ensures.1 in
    rw (p.1, p.2, c.in-Some.is) (all_some _ _ _ c.in_ok-read.ensures.calls)

pub returns-in-Err-clause-calls : goal.returns-in-Err-clause-calls
returns-in-Err-clause-calls g c =
    rw c.in-Some.is (bad_journal_calls c.in-Some.path.now _ _ c.in-Err.fault c.of_journal.result c.of_journal.ensures c.in_ok-read.ensures.calls)

pub returns-clause-calls : goal.returns-clause-calls
returns-clause-calls g c =
    rw c.in-Some.is (kept_refused_calls c.in-Some.path.now _ _ c.args.start.now c.in-Ok.journal.start c.kept_of.result c.kept_of.ensures.refused
    c.in_ok-read.ensures.calls)

pub returns-clause-read : goal.returns-clause-read
returns-clause-read g c = rw c.in-Some.is (on_ok _ c.kept_of.result c.in_ok-read.ensures.calls)
