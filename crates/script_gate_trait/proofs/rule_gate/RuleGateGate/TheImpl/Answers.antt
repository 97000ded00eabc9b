use Rattle.std.proofs.Common.{Ok, Err, Result, IsErrOf, IsOkUnless, arith}
use Rattle.faults.specs.Memory.{ran_out}
use Rattle.script_gate_trait.specs.declared.gate.GateFault.{GateFault}
use Rattle.script_gate_trait.specs.declared.gate.GateFault.TheVariants.{Failed, Memory}
use Rattle.script_gate_trait.proofs.rule_gate.RuleGateGate.TheImpl.Goals as goal

-- what fails only where memory runs out never answers `Failed`
never_failed : {A : Type 0} (result : Result A GateFault) → IsOkUnless result (Memory ran_out) → IsErrOf result Failed → ⊥
never_failed (Ok value) only failed = absurd (cc failed)
never_failed (Err fault) only failed = absurd (cc (only, failed))

pub open-tells : goal.open-tells
open-tells g c = record {
  opened = c.ensures.opened;
  refused = c.ensures.refused;
  count = omega arith;
  failed = λ failed. absurd (never_failed c.result c.ensures.never_fails failed);
  quiet = λ _. cc;
}

pub ask-tells : goal.ask-tells
ask-tells g c = record {
  verdict = c.ensures.verdict;
  asked = c.ensures.asked;
  refused = c.ensures.refused;
  count = omega arith;
  failed = λ failed. absurd (never_failed c.result c.ensures.never_fails failed);
  quiet = λ _. cc;
}
