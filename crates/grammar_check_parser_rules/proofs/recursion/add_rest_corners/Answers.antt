use Rattle.std.proofs.Common.{◌++◌, [], take_all, sym, ap, ◌∙◌, arith}
use Rattle.std.specs.List.{flat_map}
use Rattle.std.specs.Option.{option_map_or}
use Rattle.grammar_tree.specs.Corners.{rest_of}
use Rattle.grammar_tree.specs.Derives.{resolved_seq}
use Rattle.grammar_tree.specs.View.{parser_terms}
use Rattle.grammar_tree.specs.Written.{written_seq}
use Rattle.grammar_tree.specs.declared.parser_term.ParserTerms.{ParserTerms}
use Rattle.grammar_check_parser_rules.specs.Corners.{seq_corners}
use Rattle.grammar_check_nodes.specs.Flags.{flag}
use Rattle.grammar_check_parser_rules.proofs.RecursionForms.{rest_corners_by_flat}
use Rattle.grammar_check_parser_rules.proofs.recursion.add_rest_corners.Goals as goal

pub returns : goal.returns
returns c =
    let items = c.deref-terms-items.result.now in
    let part =
    λ (s : ParserTerms). option_map_or (seq_corners (flag c.args.flags.now))
    (rest_of c.args.number (resolved_seq c.args.names.now (written_seq (parser_terms s)))) [] in
    c.loop-terms.invariant
    ∙ ap (λ ss. c.args.found.now.items ++ flat_map part ss) (take_all c.loop-terms.terms-index items (omega arith) ∙ c.deref-terms-items.ensures.value)
    ∙ ap (λ l. c.args.found.now.items ++ l) (sym (rest_corners_by_flat c.args.names.now c.args.number (flag c.args.flags.now) c.args.alts.now))
