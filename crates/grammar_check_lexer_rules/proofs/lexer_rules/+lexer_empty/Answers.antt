use Rattle.std.proofs.Common.{map, sym, ap, ◌∙◌, arith}
use Rattle.grammar_tree.specs.GrammarView.{rule_of}
use Rattle.grammar_tree.specs.View.{lex_term, lex_terms}
use Rattle.grammar_tree.specs.Written.{LexerTerm, lexer_seq}
use Rattle.grammar_tree.specs.declared.lex_term.LexAlts.{out-LexAlts}
use Rattle.grammar_tree.specs.declared.lex_term.LexTerm.{LexTerm}
use Rattle.grammar_tree.specs.declared.lex_term.LexTerms.{LexTerms, out-LexTerms}
use Rattle.grammar_tree.proofs.Lent.{lex_term-Short}
use Rattle.grammar_check_nodes.specs.Flags.{flag}
use Rattle.grammar_check_lexer_rules.specs.Lexer.{lexer_is_empty, lexer_index, lexer_seq_is_empty}
use Rattle.grammar_check_lexer_rules.proofs.LexerForms.{empty_alts, empty_seq}
use Rattle.grammar_check_parser_rules.proofs.Lent.{all_fails, all_pass, any_passes, none_passes}
use Rattle.grammar_check_lexer_rules.proofs.lexer_rules.+lexer_empty.Goals as goal

pub alts_can_be_empty-returns-then-seq_can_be_empty : goal.alts_can_be_empty-returns-then-seq_can_be_empty
alts_can_be_empty-returns-then-seq_can_be_empty t c =
    let whole = out-LexAlts c.args.alts.now in
    let test = λ (s : LexTerms). lexer_seq_is_empty (lexer_index (map rule_of c.args.names.now.rules.now)) (flag c.args.flags.now) (lexer_seq (lex_terms s)) in
    sym (empty_alts (lexer_index (map rule_of c.args.names.now.rules.now)) (flag c.args.flags.now) c.args.alts.now
    ∙ any_passes test whole.items.items c.loop-i.i c.index.result.now (omega (arith, whole.items.ok.0)) c.index.ensures
    (sym c.seq_can_be_empty.ensures ∙ c.if-seq_can_be_empty.true))

pub alts_can_be_empty-returns : goal.alts_can_be_empty-returns
alts_can_be_empty-returns t c =
    let whole = out-LexAlts c.args.alts.now in
    let test = λ (s : LexTerms). lexer_seq_is_empty (lexer_index (map rule_of c.args.names.now.rules.now)) (flag c.args.flags.now) (lexer_seq (lex_terms s)) in
    sym (empty_alts (lexer_index (map rule_of c.args.names.now.rules.now)) (flag c.args.flags.now) c.args.alts.now
    ∙ none_passes test whole.items.items c.loop-i.i (omega (arith, whole.items.ok.0)) c.loop-i.invariant)

pub seq_can_be_empty-returns-then-not-term_can_be_empty : goal.seq_can_be_empty-returns-then-not-term_can_be_empty
seq_can_be_empty-returns-then-not-term_can_be_empty t c =
    let whole = out-LexTerms c.args.terms.now in
    let test = λ (x : LexTerm). lexer_is_empty (lexer_index (map rule_of c.args.names.now.rules.now)) (flag c.args.flags.now) (lex_term x) in
    sym (empty_seq (lexer_index (map rule_of c.args.names.now.rules.now)) (flag c.args.flags.now) c.args.terms.now
    ∙ all_fails test whole.items.items c.loop-i.i c.index.result.now (omega (arith, whole.items.ok.0)) c.index.ensures
    (sym c.term_can_be_empty.ensures ∙ c.if-not-term_can_be_empty.true))

pub seq_can_be_empty-returns : goal.seq_can_be_empty-returns
seq_can_be_empty-returns t c =
    let whole = out-LexTerms c.args.terms.now in
    let test = λ (x : LexTerm). lexer_is_empty (lexer_index (map rule_of c.args.names.now.rules.now)) (flag c.args.flags.now) (lex_term x) in
    sym (empty_seq (lexer_index (map rule_of c.args.names.now.rules.now)) (flag c.args.flags.now) c.args.terms.now
    ∙ all_pass test whole.items.items c.loop-i.i (omega (arith, whole.items.ok.0)) c.loop-i.invariant)

pub term_can_be_empty-returns-in-Short : goal.term_can_be_empty-returns-in-Short
term_can_be_empty-returns-in-Short t c =
    let test = λ (w : LexerTerm). lexer_is_empty (lexer_index (map rule_of c.args.names.now.rules.now)) (flag c.args.flags.now) w in
    sym (ap test (ap lex_term c.in-Short.is ∙ lex_term-Short c.in-Short.field-0))
