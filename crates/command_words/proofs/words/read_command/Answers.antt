use Rattle.std.proofs.Common.{Some, None, map, string_bytes, sym}
use Rattle.std.proofs.lemmas.Result.{err_from_is_err_and}
use Rattle.command_words.specs.Lines.{check_read, grammar_read, reduce_read, selftest_read}
use Rattle.command_words.proofs.Assembled.{check_asked, check_named, normal_asked, normal_named, nothing_asked, reduce_asked, reduce_named, selftest_asked}
use Rattle.command_words.proofs.Assembled.{selftest_named}
use Rattle.command_words.proofs.words.read_command.Goals as goal

pub returns-in-None-clause-line : goal.returns-in-None-clause-line
returns-in-None-clause-line c =
    reduce_asked c.args.name.now (map string_bytes c.args.words.now) None (sym c.if-eq.ensures) (rw c.in-None.is at c.in_ok-read_reduce.ensures.line)

pub returns-in-Some-clause-line : goal.returns-in-Some-clause-line
returns-in-Some-clause-line c =
    reduce_asked c.args.name.now (map string_bytes c.args.words.now) (Some (reduce_read c.in-Some.line)) (sym c.if-eq.ensures)
    (rw c.in-Some.is at c.in_ok-read_reduce.ensures.line)

pub returns-in-None-2-clause-line : goal.returns-in-None-2-clause-line
returns-in-None-2-clause-line c =
    normal_asked c.args.name.now (map string_bytes c.args.words.now) None (sym c.if-eq.ensures) (sym c.if-eq-2.ensures)
    (rw c.in-None-2.is at c.in_ok-read_normal.ensures)

pub returns-in-Some-2-clause-line : goal.returns-in-Some-2-clause-line
returns-in-Some-2-clause-line c =
    normal_asked c.args.name.now (map string_bytes c.args.words.now) (Some (grammar_read c.in-Some-2.grammar)) (sym c.if-eq.ensures) (sym c.if-eq-2.ensures)
    (rw c.in-Some-2.is at c.in_ok-read_normal.ensures)

pub returns-in-None-3-clause-line : goal.returns-in-None-3-clause-line
returns-in-None-3-clause-line c =
    selftest_asked c.args.name.now (map string_bytes c.args.words.now) None (sym c.if-eq.ensures) (sym c.if-eq-2.ensures) (sym c.if-eq-3.ensures)
    (rw c.in-None-3.is at c.in_ok-read_selftest.ensures.line)

pub returns-in-Some-3-clause-line : goal.returns-in-Some-3-clause-line
returns-in-Some-3-clause-line c =
    selftest_asked c.args.name.now (map string_bytes c.args.words.now) (Some (selftest_read c.in-Some-3.line)) (sym c.if-eq.ensures) (sym c.if-eq-2.ensures)
    (sym c.if-eq-3.ensures)
    (rw c.in-Some-3.is at c.in_ok-read_selftest.ensures.line)

pub returns-in-None-4-clause-line : goal.returns-in-None-4-clause-line
returns-in-None-4-clause-line c =
    check_asked c.args.name.now (map string_bytes c.args.words.now) None (sym c.if-eq.ensures, sym c.if-eq-2.ensures, sym c.if-eq-3.ensures)
    (sym c.if-eq-4.ensures) (rw c.in-None-4.is at c.in_ok-read_check.ensures)

pub returns-in-Some-4-clause-line : goal.returns-in-Some-4-clause-line
returns-in-Some-4-clause-line c =
    check_asked c.args.name.now (map string_bytes c.args.words.now) (Some (check_read c.in-Some-4.line))
    (sym c.if-eq.ensures, sym c.if-eq-2.ensures, sym c.if-eq-3.ensures) (sym c.if-eq-4.ensures) (rw c.in-Some-4.is at c.in_ok-read_check.ensures)

pub returns-else-eq-4-clause-line : goal.returns-else-eq-4-clause-line
returns-else-eq-4-clause-line c =
    nothing_asked c.args.name.now (map string_bytes c.args.words.now) (sym c.if-eq.ensures, sym c.if-eq-2.ensures, sym c.if-eq-3.ensures)
    (sym c.if-eq-4.ensures)

pub returns-in_err-read_reduce-clause-names : goal.returns-in_err-read_reduce-clause-names
returns-in_err-read_reduce-clause-names c =
    let p = err_from_is_err_and c.from_residual.result c.from_residual.ensures.1 in rw p.1 (reduce_named c.args.name.now (sym c.if-eq.ensures))

pub returns-in_err-read_normal-clause-names : goal.returns-in_err-read_normal-clause-names
returns-in_err-read_normal-clause-names c =
    let p = err_from_is_err_and c.from_residual-in_err-read_normal.result c.from_residual-in_err-read_normal.ensures.1 in
    rw p.1 (normal_named c.args.name.now (sym c.if-eq.ensures) (sym c.if-eq-2.ensures))

pub returns-in_err-read_selftest-clause-names : goal.returns-in_err-read_selftest-clause-names
returns-in_err-read_selftest-clause-names c =
    let p = err_from_is_err_and c.from_residual-in_err-read_selftest.result c.from_residual-in_err-read_selftest.ensures.1 in
    rw p.1 (selftest_named c.args.name.now (sym c.if-eq.ensures) (sym c.if-eq-2.ensures) (sym c.if-eq-3.ensures))

pub returns-in_err-read_check-clause-names : goal.returns-in_err-read_check-clause-names
returns-in_err-read_check-clause-names c =
    let p = err_from_is_err_and c.from_residual-in_err-read_check.result c.from_residual-in_err-read_check.ensures.1 in
    rw p.1 (check_named c.args.name.now (sym c.if-eq.ensures, sym c.if-eq-2.ensures, sym c.if-eq-3.ensures) (sym c.if-eq-4.ensures))
