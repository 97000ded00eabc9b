use Rattle.normal_form.specs.Numbering.{tail}
use Rattle.normal_form_build.proofs.RuleSteps.{alts_form_more}
use Rattle.normal_form_build.proofs.groups.push_rest.Goals as goal

pub returns : goal.returns
returns c =
    alts_form_more c.args.rests.now.items c.push.new.self.items c.without_first.result
    (tail c.args.symbols.items) c.in_ok-push.ensures.items c.without_first.ensures
