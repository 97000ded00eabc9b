use Rattle.std.proofs.Common.{arith}
use Rattle.grammar_tree.specs.Derives.{resolved_alts}
use Rattle.grammar_tree.specs.View.{parser_alts}
use Rattle.grammar_tree.specs.Written.{written_alts}
use Rattle.grammar_check_recursion.proofs.Counted.{group_counted}
use Rattle.grammar_check_recursion.proofs.counts.group_size.Goals as goal

pub count_alts-requires : goal.count_alts-requires
count_alts-requires c =
    omega (arith, c.requires, group_counted c.args.number (resolved_alts c.args.names.now (written_alts (parser_alts c.args.alts.now))) _ c.if-has_rest.ensures)

pub overflow_add-result : goal.overflow_add-result
overflow_add-result c =
    omega (
      arith,
      c.requires,
      c.count_alts.ensures,
      group_counted c.args.number (resolved_alts c.args.names.now (written_alts (parser_alts c.args.alts.now))) _ c.if-has_rest.ensures,
    )

pub count_alts-requires-else-has_rest : goal.count_alts-requires-else-has_rest
count_alts-requires-else-has_rest c =
    omega (arith, c.requires, group_counted c.args.number (resolved_alts c.args.names.now (written_alts (parser_alts c.args.alts.now))) _ c.if-has_rest.ensures)

pub overflow_add-result-else-has_rest : goal.overflow_add-result-else-has_rest
overflow_add-result-else-has_rest c =
    omega (
      arith,
      c.requires,
      c.count_alts-else-has_rest.ensures,
      group_counted c.args.number (resolved_alts c.args.names.now (written_alts (parser_alts c.args.alts.now))) _ c.if-has_rest.ensures,
    )

pub returns-then-has_rest : goal.returns-then-has_rest
returns-then-has_rest c =
    omega (
      arith,
      c.count_alts.ensures,
      group_counted c.args.number
          (resolved_alts c.args.names.now (written_alts (parser_alts c.args.alts.now))) _ c.if-has_rest.ensures,
    )

pub returns-else-has_rest : goal.returns-else-has_rest
returns-else-has_rest c =
    omega (
      arith,
      c.count_alts-else-has_rest.ensures,
      group_counted c.args.number (resolved_alts c.args.names.now (written_alts (parser_alts c.args.alts.now))) _ c.if-has_rest.ensures,
    )
