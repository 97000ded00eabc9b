use Rattle.std.proofs.Common.{refl, [], ◌∷◌, map, ap, ◌∙◌}
use Rattle.std.proofs.lemmas.List.{map-append}
use Rattle.grammar_tree.specs.GrammarView.{rule_of}
use Rattle.grammar_tree.proofs.Lent.{same_grammar}
use Rattle.grammar_reader_machine.proofs.rules.with_rule.Goals as goal

pub returns : goal.returns
returns c = same_grammar refl refl (ap (map rule_of) c.in_ok-push.ensures.items ∙ map-append rule_of c.args.grammar.rules.items (c.args.rule ∷ []))
