use Rattle.std.proofs.Common.{List, ℕ, ap, ◌∙◌, subst, sym}
use Rattle.std.specs.Prelude.{IfErr}
use Rattle.run_problem.specs.Read.{IsReady, start_read}
use Rattle.command_words.specs.Lines.{reduce_read}
use Rattle.command_reduce_calls.specs.Stays.{StaysFail}
use Rattle.command_reduce.proofs.ReadLemmas.{few-tokens}
use Rattle.command_reduce.proofs.steps.guard_of.Goals as goal

pub guard_of_tokens-requires-clause-few : goal.guard_of_tokens-requires-clause-few
guard_of_tokens-requires-clause-few c = few-tokens c.tokens_are_in_order.ensures c.in-Tree.found (subst IsReady c.in-Tree.is c.requires)

pub returns-in-Lines-clause-refused : goal.returns-in-Lines-clause-refused
returns-in-Lines-clause-refused c =
    subst (λ (text : List ℕ). IfErr c.guard_of_lines.result (λ refusal. StaysFail (reduce_read c.args.line.now) text refusal))
    (c.deref.ensures.value ∙ sym (ap start_read c.in-Lines.is)) c.guard_of_lines.ensures.refused

pub returns-in-Tree-clause-refused : goal.returns-in-Tree-clause-refused
returns-in-Tree-clause-refused c =
    subst (λ (text : List ℕ). IfErr c.guard_of_tokens.result (λ refusal. StaysFail (reduce_read c.args.line.now) text refusal))
    (c.as_bytes.ensures.value ∙ sym (ap start_read c.in-Tree.is)) c.guard_of_tokens.ensures.refused
