use Rattle.std.proofs.lemmas.Result.{err_from_is_err_and}
use Rattle.edge_io.proofs.Lent.{none_made}
use Rattle.command_reduce_calls.proofs.output.write_result.Goals as goal

pub returns-in_err-reduced-clause-calls : goal.returns-in_err-reduced-clause-calls
returns-in_err-reduced-clause-calls g c = rw c.in_err-reduced.was (none_made _)

pub returns-in_err-text-clause-calls : goal.returns-in_err-text-clause-calls
returns-in_err-text-clause-calls g c =
    let p = err_from_is_err_and c.from_residual-in_err-text.result c.from_residual-in_err-text.ensures.1 in
    rw (p.1, p.2, c.in_ok-reduced.was) (none_made _)

pub returns-in_err-write_text-clause-calls : goal.returns-in_err-write_text-clause-calls
returns-in_err-write_text-clause-calls g c =
    let p = err_from_is_err_and c.from_residual-in_err-write_text.result c.from_residual-in_err-write_text.ensures.1 in
    rw (p.1, p.2, c.in_ok-reduced.was) c.in_err-write_text.ensures.calls
