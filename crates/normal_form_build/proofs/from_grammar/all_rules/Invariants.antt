use Rattle.std.proofs.Common.{◌≡◌, ◌+◌, ◌++◌, map, drop, vec_len}
use Rattle.grammar_tree.specs.Corners.{normal_count_from}
use Rattle.grammar_tree.specs.Derives.{bodies}
use Rattle.normal_form.specs.NormalOf.{numbering}
use Rattle.normal_form.specs.Numbering.{groups}
use Rattle.normal_form.specs.View.{rule_form}
use Rattle.normal_form_build.specs.inner.ParserRules.{bodies_of}
use Rattle.normal_form_build.proofs.from_grammar.all_rules.Given as goal

abbrev pub invariant-loop-number : goal.invariant-loop-number
invariant-loop-number l = record {
  total : vec_len l.made + normal_count_from l.number (bodies_of l.numbers (drop l.number l.rules)) ≡ normal_count_from 0 (bodies_of l.numbers l.rules);
  made : map rule_form l.made.items ++ groups (numbering (bodies l.numbers)) (vec_len l.made) l.number (bodies_of l.numbers (drop l.number l.rules)) ≡ groups
      (numbering (bodies l.numbers)) 0 0 (bodies_of l.numbers l.rules);
}
