use Rattle.std.proofs.Common.{◌≡◌, ◌++◌, ◌<◌, ◌^◌, map, drop}
use Rattle.grammar_tree.specs.Corners.{normal_count_from}
use Rattle.normal_form.specs.NormalOf.{names_from}
use Rattle.normal_form_build.specs.inner.ParserRules.{bodies_of, parser_rule}
use Rattle.normal_form_build.proofs.rule_names.rule_names.Given as goal

abbrev pub invariant-loop-number : goal.invariant-loop-number
invariant-loop-number l = record {
  total : normal_count_from l.number (bodies_of l.names (drop l.number l.rules)) < 2 ^ 32;
  texts : l.texts.items ++ names_from l.names l.number (map parser_rule (drop l.number l.rules)) ≡ names_from l.names 0 (map parser_rule l.rules);
}
