use Rattle.std.proofs.Common.{◌+◌, ◌&&◌, Bool, drop, sym, ap, ◌∙◌, arith}
use Rattle.grammar_tree.specs.Derives.{resolved_seq}
use Rattle.grammar_tree.specs.View.{parser_terms}
use Rattle.grammar_tree.specs.Written.{written_seq}
use Rattle.grammar_tree.specs.declared.parser_term.ParserTerms.{out-ParserTerms}
use Rattle.grammar_check_nodes.specs.Flags.{flag}
use Rattle.grammar_check_parser_rules.specs.Empty.{seq_is_empty}
use Rattle.grammar_check_parser_rules.proofs.RecursionForms.{empty_at, empty_end}
use Rattle.grammar_check_parser_rules.proofs.recursion.tail_can_be_empty.Goals as goal

pub returns-then-not-term_can_be_empty : goal.returns-then-not-term_can_be_empty
returns-then-not-term_can_be_empty c =
    let whole = out-ParserTerms c.args.terms.now in
    let rest : Bool =
    seq_is_empty (flag c.args.flags.now) (resolved_seq c.args.names.now (written_seq (drop (c.loop-i.i + 1) (parser_terms c.args.terms.now)))) in
    sym (c.loop-i.invariant
    ∙ empty_at (flag c.args.flags.now) c.args.names.now c.args.terms.now c.loop-i.i c.index.result.now (omega (arith, whole.items.ok.0)) c.index.ensures
    ∙ ap (λ b. b && rest) (sym c.term_can_be_empty.ensures ∙ c.if-not-term_can_be_empty.true))

pub loop-i-preserved : goal.loop-i-preserved
loop-i-preserved c =
    let whole = out-ParserTerms c.args.terms.now in
    let rest : Bool = seq_is_empty (flag c.args.flags.now)
    (resolved_seq c.args.names.now (written_seq (drop (c.loop-i.i + 1) (parser_terms c.args.terms.now)))) in
    c.loop-i.invariant
    ∙ empty_at (flag c.args.flags.now) c.args.names.now c.args.terms.now c.loop-i.i c.index.result.now (omega (arith, whole.items.ok.0)) c.index.ensures
    ∙ ap (λ b. b && rest) (sym c.term_can_be_empty.ensures ∙ c.if-not-term_can_be_empty.false)

pub returns : goal.returns
returns c =
    let whole = out-ParserTerms c.args.terms.now in
    sym (c.loop-i.invariant ∙ empty_end (flag c.args.flags.now) c.args.names.now c.args.terms.now c.loop-i.i (omega (arith, whole.items.ok.0)))
