use Rattle.std.proofs.Common.{ℕ, List, Bor, map, subst}
use Rattle.std.proofs.lemmas.Result.{err_from_is_err_and}
use Rattle.command_ends.specs.Status.{KeepsFail}
use Rattle.command_words.specs.Lines.{reduce_read}
use Rattle.command_reduce_calls.proofs.StaysLemmas.{keeps_fail}
use Rattle.command_reduce_calls.proofs.stays.guard_of_tokens.Goals as goal

pub returns-in_err-keeps-clause-refused : goal.returns-in_err-keeps-clause-refused
returns-in_err-keeps-clause-refused c =
    let p = err_from_is_err_and c.from_residual.result c.from_residual.ensures.1 in
    let refusal = c.in_err-keeps.field-0.0 in
    rw (p.1, p.2) (keeps_fail (reduce_read c.args.line.now) c.args.start.now refusal
    (subst (λ (texts : List (Bor (List ℕ))). KeepsFail (map (λ text. text.now) texts) c.args.start.now refusal) c.deref.ensures.value
    c.in_err-keeps.ensures.refused))
