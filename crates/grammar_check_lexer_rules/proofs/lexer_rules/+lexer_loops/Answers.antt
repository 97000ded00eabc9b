use Rattle.std.proofs.Common.{map, sym, ap, ◌∙◌, arith}
use Rattle.grammar_tree.specs.GrammarView.{rule_of}
use Rattle.grammar_tree.specs.View.{lex_term, lex_terms}
use Rattle.grammar_tree.specs.Written.{LexerTerm, lexer_seq}
use Rattle.grammar_tree.specs.declared.lex_term.LexAlts.{out-LexAlts}
use Rattle.grammar_tree.specs.declared.lex_term.LexTerm.{LexTerm}
use Rattle.grammar_tree.specs.declared.lex_term.LexTerms.{LexTerms, out-LexTerms}
use Rattle.grammar_tree.proofs.Lent.{lex_term-Opt}
use Rattle.grammar_check_nodes.specs.Flags.{flag}
use Rattle.grammar_check_lexer_rules.specs.Lexer.{lexer_has_loop, lexer_index, lexer_seq_has_loop}
use Rattle.grammar_check_lexer_rules.proofs.LexerForms.{loop_alts, loop_seq}
use Rattle.grammar_check_parser_rules.proofs.Lent.{any_passes, none_passes}
use Rattle.grammar_check_lexer_rules.proofs.lexer_rules.+lexer_loops.Goals as goal

pub lexer_alts_have_empty_loop-returns-then-seq_has_empty_loop : goal.lexer_alts_have_empty_loop-returns-then-seq_has_empty_loop
lexer_alts_have_empty_loop-returns-then-seq_has_empty_loop t c =
    let whole = out-LexAlts c.args.alts.now in
    let test = λ (s : LexTerms). lexer_seq_has_loop (lexer_index (map rule_of c.args.names.now.rules.now)) (flag c.args.flags.now) (lexer_seq (lex_terms s)) in
    sym (loop_alts (lexer_index (map rule_of c.args.names.now.rules.now)) (flag c.args.flags.now) c.args.alts.now
    ∙ any_passes test whole.items.items c.loop-i.i c.index.result.now (omega (arith, whole.items.ok.0)) c.index.ensures
    (sym c.seq_has_empty_loop.ensures ∙ c.if-seq_has_empty_loop.true))

pub lexer_alts_have_empty_loop-returns : goal.lexer_alts_have_empty_loop-returns
lexer_alts_have_empty_loop-returns t c =
    let whole = out-LexAlts c.args.alts.now in
    let test = λ (s : LexTerms). lexer_seq_has_loop (lexer_index (map rule_of c.args.names.now.rules.now)) (flag c.args.flags.now) (lexer_seq (lex_terms s)) in
    sym (loop_alts (lexer_index (map rule_of c.args.names.now.rules.now)) (flag c.args.flags.now) c.args.alts.now
    ∙ none_passes test whole.items.items c.loop-i.i (omega (arith, whole.items.ok.0)) c.loop-i.invariant)

pub seq_has_empty_loop-returns-then-term_has_empty_loop : goal.seq_has_empty_loop-returns-then-term_has_empty_loop
seq_has_empty_loop-returns-then-term_has_empty_loop t c =
    let whole = out-LexTerms c.args.terms.now in
    let test = λ (x : LexTerm). lexer_has_loop (lexer_index (map rule_of c.args.names.now.rules.now)) (flag c.args.flags.now) (lex_term x) in
    sym (loop_seq (lexer_index (map rule_of c.args.names.now.rules.now)) (flag c.args.flags.now) c.args.terms.now
    ∙ any_passes test whole.items.items c.loop-i.i c.index.result.now (omega (arith, whole.items.ok.0)) c.index.ensures
    (sym c.term_has_empty_loop.ensures ∙ c.if-term_has_empty_loop.true))

pub seq_has_empty_loop-returns : goal.seq_has_empty_loop-returns
seq_has_empty_loop-returns t c =
    let whole = out-LexTerms c.args.terms.now in
    let test = λ (x : LexTerm). lexer_has_loop (lexer_index (map rule_of c.args.names.now.rules.now)) (flag c.args.flags.now) (lex_term x) in
    sym (loop_seq (lexer_index (map rule_of c.args.names.now.rules.now)) (flag c.args.flags.now) c.args.terms.now
    ∙ none_passes test whole.items.items c.loop-i.i (omega (arith, whole.items.ok.0)) c.loop-i.invariant)

pub term_has_empty_loop-returns-in-Opt : goal.term_has_empty_loop-returns-in-Opt
term_has_empty_loop-returns-in-Opt t c =
    let test = λ (w : LexerTerm). lexer_has_loop (lexer_index (map rule_of c.args.names.now.rules.now)) (flag c.args.flags.now) w in
    c.term_has_empty_loop.ensures ∙ ap (λ (x : LexTerm). test (lex_term x)) c.deref.ensures
    ∙ sym (ap test (ap lex_term c.in-Opt.is ∙ lex_term-Opt c.in-Opt.term))
