use Rattle.std.proofs.Common.{◌&&◌, not, sym, ap, ◌∙◌}
use Rattle.grammar_tree.specs.Derives.{resolved_seq}
use Rattle.grammar_tree.specs.View.{parser_terms}
use Rattle.grammar_tree.specs.Written.{written_seq}
use Rattle.grammar_check_nodes.specs.Flags.{flag}
use Rattle.grammar_check_parser_rules.specs.Empty.{seq_is_empty}
use Rattle.grammar_check_parser_rules.proofs.recursion.base_can_be_empty.Goals as goal

pub returns-then-not-is_recursive : goal.returns-then-not-is_recursive
returns-then-not-is_recursive c =
    let is_empty = seq_is_empty (flag c.args.flags.now) (resolved_seq c.args.names.now (written_seq (parser_terms c.args.terms.now))) in
    c.seq_can_be_empty.ensures ∙ sym (ap (λ b. not b && is_empty) (sym c.is_recursive.ensures ∙ c.if-not-is_recursive.true))

pub returns-else-not-is_recursive : goal.returns-else-not-is_recursive
returns-else-not-is_recursive c =
    let is_empty = seq_is_empty (flag c.args.flags.now) (resolved_seq c.args.names.now (written_seq (parser_terms c.args.terms.now))) in
    ap not c.if-not-is_recursive.false ∙ sym (ap (λ b. not b && is_empty) (sym c.is_recursive.ensures ∙ c.if-not-is_recursive.false))
