use Rattle.std.proofs.Common.{Bool, List, sym, ap, ◌∙◌, arith}
use Rattle.grammar_tree.specs.Derives.{resolved, resolved_seq}
use Rattle.grammar_tree.specs.View.{parser_term, parser_terms}
use Rattle.grammar_tree.specs.Written.{WrittenGrammar, WrittenTerm, written_seq}
use Rattle.grammar_tree.specs.declared.parser_term.ParserAlts.{out-ParserAlts}
use Rattle.grammar_tree.specs.declared.parser_term.ParserTerm.{ParserTerm}
use Rattle.grammar_tree.specs.declared.parser_term.ParserTerms.{ParserTerms, out-ParserTerms}
use Rattle.grammar_tree.proofs.Lent.{parser_term-Plus}
use Rattle.grammar_check_nodes.specs.Flags.{flag}
use Rattle.grammar_check_parser_rules.specs.Empty.{is_empty, seq_is_empty}
use Rattle.grammar_check_parser_rules.proofs.EmptyForms.{alts_by_any, seq_by_all}
use Rattle.grammar_check_parser_rules.proofs.Traversed.{all_fails, all_pass, any_passes, none_passes}
use Rattle.grammar_check_parser_rules.proofs.empty.+empty.Goals as goal

abbrev alt : (List Bool) → WrittenGrammar → ParserTerms → Bool
alt flags G s = seq_is_empty (flag flags) (resolved_seq G (written_seq (parser_terms s)))

abbrev one : (List Bool) → WrittenGrammar → ParserTerm → Bool
one flags G t = is_empty (flag flags) (resolved G (parser_term t))

pub alts_can_be_empty-returns-then-seq_can_be_empty : goal.alts_can_be_empty-returns-then-seq_can_be_empty
alts_can_be_empty-returns-then-seq_can_be_empty t c =
    let whole = out-ParserAlts c.args.alts.now in
    sym (alts_by_any (flag c.args.flags.now) c.args.names.now c.args.alts.now
    ∙ any_passes (alt c.args.flags.now c.args.names.now) whole.items.items c.loop-i.i c.index.result.now (omega (arith, whole.items.ok.0)) c.index.ensures
    (sym c.seq_can_be_empty.ensures ∙ c.if-seq_can_be_empty.true))

pub alts_can_be_empty-returns : goal.alts_can_be_empty-returns
alts_can_be_empty-returns t c =
    let whole = out-ParserAlts c.args.alts.now in
    sym (alts_by_any (flag c.args.flags.now) c.args.names.now c.args.alts.now
    ∙ none_passes (alt c.args.flags.now c.args.names.now) whole.items.items c.loop-i.i (omega (arith, whole.items.ok.0)) c.loop-i.invariant)

pub seq_can_be_empty-returns-then-not-term_can_be_empty : goal.seq_can_be_empty-returns-then-not-term_can_be_empty
seq_can_be_empty-returns-then-not-term_can_be_empty t c =
    let whole = out-ParserTerms c.args.terms.now in
    sym (seq_by_all (flag c.args.flags.now) c.args.names.now c.args.terms.now
    ∙ all_fails (one c.args.flags.now c.args.names.now) whole.items.items c.loop-i.i c.index.result.now (omega (arith, whole.items.ok.0)) c.index.ensures
    (sym c.term_can_be_empty.ensures ∙ c.if-not-term_can_be_empty.true))

pub seq_can_be_empty-returns : goal.seq_can_be_empty-returns
seq_can_be_empty-returns t c =
    let whole = out-ParserTerms c.args.terms.now in
    sym (seq_by_all (flag c.args.flags.now) c.args.names.now c.args.terms.now
    ∙ all_pass (one c.args.flags.now c.args.names.now) whole.items.items c.loop-i.i (omega (arith, whole.items.ok.0)) c.loop-i.invariant)

pub term_can_be_empty-returns-in-Plus : goal.term_can_be_empty-returns-in-Plus
term_can_be_empty-returns-in-Plus t c =
    let test = λ (w : WrittenTerm). is_empty (flag c.args.flags.now) (resolved c.args.names.now w) in
    c.term_can_be_empty.ensures ∙ ap (one c.args.flags.now c.args.names.now) c.deref.ensures
    ∙ sym (ap test (ap parser_term c.in-Plus.is ∙ parser_term-Plus c.in-Plus.term))
