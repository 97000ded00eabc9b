use Rattle.std.proofs.Common.{◌≡◌, ◌<◌, List, Some, ap, arith, false, length, slice_get, subst, sym, ◌∙◌}
use Rattle.grammar_check_nodes.specs.Flags.{flag}
use Rattle.compat_table.proofs.Searching.{got_at}
use Rattle.compat_table.specs.Nullable.{form_is_nullable}
use Rattle.normal_form.specs.Form.{RuleForm}
use Rattle.normal_form.specs.View.{rule_form}
use Rattle.std.specs.Option.{option_map_or}
use Rattle.std.proofs.lemmas.List.{length-map}
use Rattle.compat_table.proofs.nullable.RulesTest.passes.Goals as goal

pub bounds-rules-node : goal.bounds-rules-node
bounds-rules-node c = omega (arith, c.requires, ap length (sym c.rules-rules.ensures), length-map c.rules-rules.result.now rule_form)

pub returns : goal.returns
returns c =
    let N = c.args.self.now.normal.now in
    let lt : c.args.node < length c.rules-rules.result.now =
    omega (arith, c.requires, ap length (sym c.rules-rules.ensures), length-map c.rules-rules.result.now rule_form) in
    let there = got_at rule_form c.rules-rules.result.now c.args.node c.index-rules-node.result lt c.index-rules-node.is in
    let at = subst (λ (l : List RuleForm). slice_get l c.args.node ≡ Some (rule_form c.index-rules-node.result)) c.rules-rules.ensures there in
    c.rule_is_nullable.ensures ∙ ap (λ o. option_map_or (form_is_nullable (flag c.args.flags.now)) o false) (sym at)
