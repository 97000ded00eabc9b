use Rattle.std.proofs.Common.{length, map, sym}
use Rattle.std.proofs.lemmas.Bool.{ltb-true}
use Rattle.std.proofs.lemmas.Option.{none-some}
use Rattle.normal_form.specs.Form.{RuleForm}
use Rattle.normal_form.specs.View.{rule_form}
use Rattle.compat_table.proofs.Searching.{got_at}
use Rattle.compat_table.proofs.FindingStars.{form_found, form_past}
use Rattle.compat_table.proofs.stars.star_symbol.Goals as goal

pub returns-in-Some : goal.returns-in-Some
returns-in-Some c t =
    let rules = c.args.rules.now in
    let found = c.in-Some.found.now in
    let at = got_at rule_form rules c.args.rule found (ltb-true c.args.rule (length rules) (sym c.in-Some.ensures.lookup.0)) c.in-Some.ensures.lookup.1 in
    form_found (map rule_form rules) c.args.rule (rule_form found) (RuleForm.star t) c.star_of.result t at (c.star_of.ensures t)

pub returns-in-None : goal.returns-in-None
returns-in-None c t = (λ e. absurd (none-some t e), λ f. absurd (form_past c.args.rules.now c.args.rule (RuleForm.star t) c.in-None.ensures.lookup.0 f))
