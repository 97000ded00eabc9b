use Rattle.std.proofs.Common.{◌++◌, take_all, sym, ap, ◌∙◌, arith}
use Rattle.std.specs.List.{flat_map}
use Rattle.grammar_tree.specs.Faults.{seq_names, term_names}
use Rattle.grammar_tree.specs.View.{lex_term, lex_terms}
use Rattle.grammar_tree.specs.Written.{lexer_seq}
use Rattle.grammar_tree.specs.declared.lex_term.LexAlts.{out-LexAlts}
use Rattle.grammar_tree.specs.declared.lex_term.LexTerm.{LexTerm}
use Rattle.grammar_tree.specs.declared.lex_term.LexTerms.{LexTerms, out-LexTerms}
use Rattle.grammar_check_lexer_rules.proofs.LexerForms.{names_alts, names_seq}
use Rattle.grammar_check_lexer_rules.proofs.lexer_rules.+names.Goals as goal

pub add_names-returns : goal.add_names-returns
add_names-returns t c =
    let whole = out-LexAlts c.args.alts.now in
    let part = λ (s : LexTerms). seq_names (lexer_seq (lex_terms s)) in
    c.loop-i.invariant
    ∙ ap (λ ss. c.args.found.now.items ++ flat_map part ss) (take_all c.loop-i.i whole.items.items (omega (arith, whole.items.ok.0)))
    ∙ ap (λ l. c.args.found.now.items ++ l) (sym (names_alts c.args.alts.now))

pub add_seq_names-returns : goal.add_seq_names-returns
add_seq_names-returns t c =
    let whole = out-LexTerms c.args.terms.now in
    let part = λ (x : LexTerm). term_names (lex_term x) in
    c.loop-i.invariant
    ∙ ap (λ ts. c.args.found.now.items ++ flat_map part ts) (take_all c.loop-i.i whole.items.items (omega (arith, whole.items.ok.0)))
    ∙ ap (λ l. c.args.found.now.items ++ l) (sym (names_seq c.args.terms.now))
