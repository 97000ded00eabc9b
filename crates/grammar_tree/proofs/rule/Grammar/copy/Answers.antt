use Rattle.std.proofs.Common.{map, ap, ◌∙◌}
use Rattle.grammar_tree.specs.GrammarView.{rule_of}
use Rattle.grammar_tree.proofs.EqualParts.{same_grammar}
use Rattle.grammar_tree.proofs.rule.Grammar.copy.Goals as goal

pub returns : goal.returns
returns c =
    same_grammar c.in_ok-name.ensures (c.in_ok-tokens.ensures ∙ c.deref.ensures.value) (c.in_ok-rules.ensures ∙ ap (map rule_of) c.deref-2.ensures.value)
