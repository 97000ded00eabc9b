use Rattle.std.proofs.Common.{sym, ◌∙◌, arith}
use Rattle.grammar_tree.specs.Faults.{has_eof, seq_has_eof}
use Rattle.grammar_tree.specs.View.{parser_term, parser_terms}
use Rattle.grammar_tree.specs.Written.{written_seq}
use Rattle.grammar_tree.specs.declared.parser_term.ParserAlts.{out-ParserAlts}
use Rattle.grammar_tree.specs.declared.parser_term.ParserTerm.{ParserTerm}
use Rattle.grammar_tree.specs.declared.parser_term.ParserTerms.{ParserTerms, out-ParserTerms}
use Rattle.grammar_check_faults.proofs.EofForms.{eof_alts, eof_seq}
use Rattle.grammar_check_parser_rules.proofs.Lent.{any_passes, none_passes}
use Rattle.grammar_check_faults.proofs.eof.+eof.Goals as goal

pub alts_have_eof-returns-then-terms_have_eof : goal.alts_have_eof-returns-then-terms_have_eof
alts_have_eof-returns-then-terms_have_eof t c =
    let whole = out-ParserAlts c.args.alts.now in
    let test = λ (s : ParserTerms). seq_has_eof (written_seq (parser_terms s)) in
    sym (eof_alts c.args.alts.now ∙ any_passes test whole.items.items c.loop-i.i c.index.result.now (omega (arith, whole.items.ok.0)) c.index.ensures
    (sym c.terms_have_eof.ensures ∙ c.if-terms_have_eof.true))

pub alts_have_eof-returns : goal.alts_have_eof-returns
alts_have_eof-returns t c =
    let whole = out-ParserAlts c.args.alts.now in
    let test = λ (s : ParserTerms). seq_has_eof (written_seq (parser_terms s)) in
    sym (eof_alts c.args.alts.now ∙ none_passes test whole.items.items c.loop-i.i (omega (arith, whole.items.ok.0)) c.loop-i.invariant)

pub terms_have_eof-returns-then-term_has_eof : goal.terms_have_eof-returns-then-term_has_eof
terms_have_eof-returns-then-term_has_eof t c =
    let whole = out-ParserTerms c.args.terms.now in
    let test = λ (x : ParserTerm). has_eof (parser_term x) in
    sym (eof_seq c.args.terms.now ∙ any_passes test whole.items.items c.loop-i.i c.index.result.now (omega (arith, whole.items.ok.0)) c.index.ensures
    (sym c.term_has_eof.ensures ∙ c.if-term_has_eof.true))

pub terms_have_eof-returns : goal.terms_have_eof-returns
terms_have_eof-returns t c =
    let whole = out-ParserTerms c.args.terms.now in
    let test = λ (x : ParserTerm). has_eof (parser_term x) in
    sym (eof_seq c.args.terms.now ∙ none_passes test whole.items.items c.loop-i.i (omega (arith, whole.items.ok.0)) c.loop-i.invariant)
