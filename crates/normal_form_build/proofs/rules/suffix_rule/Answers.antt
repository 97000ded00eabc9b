use Rattle.std.proofs.Common.{sym, ap}
use Rattle.normal_form_build.specs.inner.Terms.{suffix_form}
use Rattle.normal_form_build.proofs.rules.suffix_rule.Goals as goal

pub returns-in-Question : goal.returns-in-Question
returns-in-Question c = sym (ap (λ s. suffix_form s c.args.symbol) c.in-Question.is)

pub returns-in-Star : goal.returns-in-Star
returns-in-Star c = sym (ap (λ s. suffix_form s c.args.symbol) c.in-Star.is)
