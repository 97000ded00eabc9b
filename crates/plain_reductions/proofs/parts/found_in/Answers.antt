use Rattle.std.proofs.Common.{ℕ, List, arith, subst}
use Rattle.reduce_trees_input.specs.Parsed.{MakesInputOf}
use Rattle.plain_reductions.proofs.FoundLemmas.{is_found}
use Rattle.plain_reductions.proofs.parts.found_in.Goals as goal

pub returns-clause-found : goal.returns-clause-found
returns-clause-found c =
    is_found c.args.grammar.now c.as_bytes.result.now c.in_ok-parsed_input.field-0 c.is_checked.ensures
    (grind (arith, c.requires, c.as_bytes.ensures.len, c.as_bytes.ensures.value)) c.in_ok-parsed_input.ensures.parsed c.in_ok-parsed_input.ensures.input

pub returns-clause-input : goal.returns-clause-input
returns-clause-input c =
    subst (λ (t : List ℕ). MakesInputOf c.args.grammar.now t c.in_ok-parsed_input.field-0) c.as_bytes.ensures.value c.in_ok-parsed_input.ensures.input
