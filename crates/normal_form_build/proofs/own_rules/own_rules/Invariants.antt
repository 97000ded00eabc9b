use Rattle.std.proofs.Common.{◌≡◌, ◌+◌, ◌++◌, drop}
use Rattle.grammar_tree.specs.Corners.{normal_count_from}
use Rattle.normal_form_build.specs.inner.OwnRules.{own_rules_from}
use Rattle.normal_form_build.specs.inner.ParserRules.{bodies_of}
use Rattle.normal_form_build.proofs.own_rules.own_rules.Given as goal

abbrev pub invariant-loop-number : goal.invariant-loop-number
invariant-loop-number l = record {
  total : l.next + normal_count_from l.number (bodies_of l.names (drop l.number l.rules)) ≡ normal_count_from 0 (bodies_of l.names l.rules);
  own_rules : l.own_rules.items ++ own_rules_from l.next l.number (bodies_of l.names (drop l.number l.rules)) ≡ own_rules_from 0 0 (bodies_of l.names l.rules);
}
