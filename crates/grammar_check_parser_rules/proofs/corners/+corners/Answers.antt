use Rattle.std.proofs.Common.{◌+◌, ◌++◌, drop, take_all, sym, ap, ◌∙◌, append-nil, arith}
use Rattle.std.specs.List.{flat_map}
use Rattle.grammar_tree.specs.declared.parser_term.ParserAlts.{out-ParserAlts}
use Rattle.grammar_tree.specs.declared.parser_term.ParserTerms.{out-ParserTerms}
use Rattle.grammar_tree.specs.Derives.{resolved_seq}
use Rattle.grammar_tree.specs.View.{parser_terms}
use Rattle.grammar_tree.specs.Written.{written_seq}
use Rattle.grammar_check_parser_rules.specs.Corners.{seq_corners}
use Rattle.grammar_check_nodes.specs.Flags.{flag}
use Rattle.grammar_check_parser_rules.proofs.CornerForms.{alts_by_flat, goes_on, seq_end, stops}
use Rattle.grammar_check_parser_rules.proofs.corners.+corners.Goals as goal

pub add_alts_corners-returns : goal.add_alts_corners-returns
add_alts_corners-returns t c =
    let whole = out-ParserAlts c.args.alts.now in
    c.loop-i.invariant
    ∙ ap (λ ss. c.args.found.now.items ++ flat_map (λ s. seq_corners (flag c.args.flags.now) (resolved_seq c.args.names.now (written_seq (parser_terms s)))) ss)
    (take_all c.loop-i.i whole.items.items (omega (arith, whole.items.ok.0)))
    ∙ ap (λ l. c.args.found.now.items ++ l) (sym (alts_by_flat (flag c.args.flags.now) c.args.names.now c.args.alts.now))

pub add_seq_corners-returns-then-not-term_can_be_empty : goal.add_seq_corners-returns-then-not-term_can_be_empty
add_seq_corners-returns-then-not-term_can_be_empty t c =
    let whole = out-ParserTerms c.args.terms.now in
    c.in_ok-add_term_corners.ensures
    ∙ stops (flag c.args.flags.now) c.args.names.now c.args.terms.now c.loop-i.i c.index-term.result.now c.loop-i.found.items c.args.found.now.items _
    (omega (arith, whole.items.ok.0)) c.index-term.ensures
    (sym c.term_can_be_empty.ensures ∙ c.if-not-term_can_be_empty.true) c.loop-i.invariant

pub add_seq_corners-loop-i-preserved : goal.add_seq_corners-loop-i-preserved
add_seq_corners-loop-i-preserved t c =
    let whole = out-ParserTerms c.args.terms.now in
    ap (λ f. f ++ seq_corners (flag c.args.flags.now) (resolved_seq c.args.names.now (written_seq (drop (c.loop-i.i + 1) (parser_terms c.args.terms.now)))))
    c.in_ok-add_term_corners.ensures
    ∙ goes_on (flag c.args.flags.now) c.args.names.now c.args.terms.now c.loop-i.i c.index-term.result.now c.loop-i.found.items c.args.found.now.items _
    (omega (arith, whole.items.ok.0)) c.index-term.ensures
    (sym c.term_can_be_empty.ensures ∙ c.if-not-term_can_be_empty.false) c.loop-i.invariant

pub add_seq_corners-returns : goal.add_seq_corners-returns
add_seq_corners-returns t c =
    let whole = out-ParserTerms c.args.terms.now in
    sym (append-nil c.loop-i.found.items)
    ∙ ap (λ l. c.loop-i.found.items ++ l) (sym (seq_end (flag c.args.flags.now) c.args.names.now c.args.terms.now c.loop-i.i (omega (arith, whole.items.ok.0))))
    ∙ c.loop-i.invariant
