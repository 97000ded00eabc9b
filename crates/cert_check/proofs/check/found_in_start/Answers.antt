use Rattle.std.proofs.Common.{ℕ, List, subst}
use Rattle.reduce_trees_input.specs.Parsed.{IsParsed, MakesInputOf}
use Rattle.cert_check.proofs.check.found_in_start.Goals as goal

pub returns-in-Ok-clause-parsed : goal.returns-in-Ok-clause-parsed
returns-in-Ok-clause-parsed c = subst (λ (t : List ℕ). IsParsed c.args.checked.now t c.in-Ok.found) c.as_bytes.ensures.value c.in-Ok.ensures.parsed

pub returns-in-Ok-clause-input : goal.returns-in-Ok-clause-input
returns-in-Ok-clause-input c = subst (λ (t : List ℕ). MakesInputOf c.args.checked.now t c.in-Ok.found) c.as_bytes.ensures.value c.in-Ok.ensures.input
