use Rattle.std.proofs.Common.{Bool, List, sym, ap, ◌∙◌, arith}
use Rattle.grammar_tree.specs.Derives.{resolved, resolved_seq}
use Rattle.grammar_tree.specs.View.{parser_term, parser_terms}
use Rattle.grammar_tree.specs.Written.{WrittenGrammar, WrittenTerm, written_seq}
use Rattle.grammar_tree.specs.declared.parser_term.ParserAlts.{out-ParserAlts}
use Rattle.grammar_tree.specs.declared.parser_term.ParserTerm.{ParserTerm}
use Rattle.grammar_tree.specs.declared.parser_term.ParserTerms.{ParserTerms, out-ParserTerms}
use Rattle.grammar_tree.proofs.Lent.{parser_term-Opt}
use Rattle.grammar_check_nodes.specs.Flags.{flag}
use Rattle.grammar_check_parser_rules.specs.Loops.{has_loop, seq_has_loop}
use Rattle.grammar_check_parser_rules.proofs.LoopForms.{alts_by_any, seq_by_any}
use Rattle.grammar_check_parser_rules.proofs.Traversed.{any_passes, none_passes}
use Rattle.grammar_check_parser_rules.proofs.loops.+loops.Goals as goal

abbrev alt : (List Bool) → WrittenGrammar → ParserTerms → Bool
alt flags G s = seq_has_loop (flag flags) (resolved_seq G (written_seq (parser_terms s)))

abbrev one : (List Bool) → WrittenGrammar → ParserTerm → Bool
one flags G t = has_loop (flag flags) (resolved G (parser_term t))

pub alts_have_empty_loop-returns-then-seq_has_empty_loop : goal.alts_have_empty_loop-returns-then-seq_has_empty_loop
alts_have_empty_loop-returns-then-seq_has_empty_loop t c =
    let whole = out-ParserAlts c.args.alts.now in
    sym (alts_by_any (flag c.args.flags.now) c.args.names.now c.args.alts.now
    ∙ any_passes (alt c.args.flags.now c.args.names.now) whole.items.items c.loop-i.i c.index.result.now (omega (arith, whole.items.ok.0)) c.index.ensures
    (sym c.seq_has_empty_loop.ensures ∙ c.if-seq_has_empty_loop.true))

pub alts_have_empty_loop-returns : goal.alts_have_empty_loop-returns
alts_have_empty_loop-returns t c =
    let whole = out-ParserAlts c.args.alts.now in
    sym (alts_by_any (flag c.args.flags.now) c.args.names.now c.args.alts.now
    ∙ none_passes (alt c.args.flags.now c.args.names.now) whole.items.items c.loop-i.i (omega (arith, whole.items.ok.0)) c.loop-i.invariant)

pub seq_has_empty_loop-returns-then-term_has_empty_loop : goal.seq_has_empty_loop-returns-then-term_has_empty_loop
seq_has_empty_loop-returns-then-term_has_empty_loop t c =
    let whole = out-ParserTerms c.args.terms.now in
    sym (seq_by_any (flag c.args.flags.now) c.args.names.now c.args.terms.now
    ∙ any_passes (one c.args.flags.now c.args.names.now) whole.items.items c.loop-i.i c.index.result.now (omega (arith, whole.items.ok.0)) c.index.ensures
    (sym c.term_has_empty_loop.ensures ∙ c.if-term_has_empty_loop.true))

pub seq_has_empty_loop-returns : goal.seq_has_empty_loop-returns
seq_has_empty_loop-returns t c =
    let whole = out-ParserTerms c.args.terms.now in
    sym (seq_by_any (flag c.args.flags.now) c.args.names.now c.args.terms.now
    ∙ none_passes (one c.args.flags.now c.args.names.now) whole.items.items c.loop-i.i (omega (arith, whole.items.ok.0)) c.loop-i.invariant)

pub term_has_empty_loop-returns-in-Opt : goal.term_has_empty_loop-returns-in-Opt
term_has_empty_loop-returns-in-Opt t c =
    let test = λ (w : WrittenTerm). has_loop (flag c.args.flags.now) (resolved c.args.names.now w) in
    c.term_has_empty_loop.ensures ∙ ap (one c.args.flags.now c.args.names.now) c.deref.ensures
    ∙ sym (ap test (ap parser_term c.in-Opt.is ∙ parser_term-Opt c.in-Opt.term))
