use Rattle.std.proofs.Common.{sym, ap, ◌∙◌}
use Rattle.grammar_tree.specs.GrammarView.{rule_of}
use Rattle.grammar_tree.specs.Kinds.{rule_name}
use Rattle.grammar_check_faults.proofs.Twins.{earliest_is}
use Rattle.grammar_check_faults.proofs.rule_checks.earliest.Goals as goal

pub returns-in-Some : goal.returns-in-Some
returns-in-Some c = λ f finds.
    let is = ap f (sym c.name_of.ensures) ∙ sym (c.get.ensures f finds) ∙ c.in-Some.is in
    earliest_is (f (rule_name (rule_of c.args.rule.now))) c.in-Some.other c.args.index c.args.first c.min.result is c.if-other-index.true c.min.ensures
