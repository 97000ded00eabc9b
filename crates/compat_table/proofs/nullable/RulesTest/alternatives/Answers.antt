use Rattle.std.proofs.Common.{ap, arith, length, sym}
use Rattle.normal_form.specs.View.{rule_form}
use Rattle.std.proofs.lemmas.List.{length-map}
use Rattle.compat_table.proofs.nullable.RulesTest.alternatives.Goals as goal

pub bounds-rules-node : goal.bounds-rules-node
bounds-rules-node c = omega (arith, c.requires, ap length (sym c.rules-rules.ensures), length-map c.rules-rules.result.now rule_form)
