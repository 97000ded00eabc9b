use Rattle.std.proofs.Common.{◌≡◌, map, drop}
use Rattle.grammar_tree.specs.GrammarView.{rule_of}
use Rattle.cases_languages.specs.Spelled.{named_from}
use Rattle.cases_languages.specs.View.{pattern}
use Rattle.cases_languages.proofs.lexer_rules.named_pattern.Given as goal

abbrev pub invariant-loop-position : goal.invariant-loop-position
invariant-loop-position l = pattern l.whole ≡ named_from l.position (map rule_of (drop l.position l.rules)) l.name
