use Rattle.std.proofs.lemmas.List.{map-set}
use Rattle.normal_form.specs.declared.normal.NormalRule.{NormalRule}
use Rattle.normal_form.specs.View.{rule_form}
use Rattle.normal_form_build.proofs.rules.put_regular.Goals as goal

pub returns-clause-rules : goal.returns-clause-rules
returns-clause-rules c = map-set rule_form c.args.rules.now.items c.args.number (NormalRule.Regular c.args.alts)
