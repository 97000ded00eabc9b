use Rattle.std.proofs.Common.{◌≡◌, ◌≤◌, ◌+◌, ◌*◌, drop, take, sum_by}
use Rattle.grammar_tree.specs.Corners.{normal_count, normal_count_from}
use Rattle.grammar_tree.specs.Derives.{bodies}
use Rattle.grammar_tree.specs.Size.{alts_size}
use Rattle.grammar_tree.specs.View.{parser_alts}
use Rattle.grammar_tree.specs.Written.{written_alts}
use Rattle.grammar_check_parser_rules.proofs.count.normal_count.Given as goal

abbrev pub invariant-loop-number : goal.invariant-loop-number
invariant-loop-number l = record {
  count : l.count + normal_count_from l.number (drop l.number (bodies l.names)) ≡ normal_count (bodies l.names);
  small : l.count ≤ 4 * l.number + sum_by (λ a. alts_size (written_alts (parser_alts a.now))) (take l.number l.rules);
}
