use Rattle.std.proofs.Common.{◌≡◌, IfOk, subst, sym, ap, ◌∙◌}
use Rattle.grammar_tree.specs.Written.{LexerTerm}
use Rattle.grammar_tree.specs.View.{lex_term}
use Rattle.grammar_tree.proofs.LexerViews.{lex_term-Opt, lex_term-Plus, lex_term-Short, lex_term-Star}
use Rattle.grammar_tree.proofs.lex_term.+copy.Goals as goal

pub LexTerm::copy-returns-in_ok-copy-in-Opt : goal.LexTerm::copy-returns-in_ok-copy-in-Opt
LexTerm::copy-returns-in_ok-copy-in-Opt t c =
    let same = ap LexerTerm.opt (c.in_ok-copy-in-Opt.ensures ∙ ap lex_term c.deref.ensures) ∙ sym (ap lex_term c.in-Opt.is ∙ lex_term-Opt c.in-Opt.term) in
    subst (λ x. IfOk c.opt.result (λ r. lex_term r ≡ x)) same c.opt.ensures

pub LexTerm::copy-returns-in_ok-copy-in-Star : goal.LexTerm::copy-returns-in_ok-copy-in-Star
LexTerm::copy-returns-in_ok-copy-in-Star t c =
    let same =
    ap LexerTerm.star (c.in_ok-copy-in-Star.ensures ∙ ap lex_term c.deref-in-Star.ensures) ∙ sym (ap lex_term c.in-Star.is ∙ lex_term-Star c.in-Star.term) in
    subst (λ x. IfOk c.star.result (λ r. lex_term r ≡ x)) same c.star.ensures

pub LexTerm::copy-returns-in_ok-copy-in-Plus : goal.LexTerm::copy-returns-in_ok-copy-in-Plus
LexTerm::copy-returns-in_ok-copy-in-Plus t c =
    let same =
    ap LexerTerm.plus (c.in_ok-copy-in-Plus.ensures ∙ ap lex_term c.deref-in-Plus.ensures) ∙ sym (ap lex_term c.in-Plus.is ∙ lex_term-Plus c.in-Plus.term) in
    subst (λ x. IfOk c.plus.result (λ r. lex_term r ≡ x)) same c.plus.ensures

pub LexTerm::copy-returns-in-Short : goal.LexTerm::copy-returns-in-Short
LexTerm::copy-returns-in-Short t c =
    subst (λ x. IfOk c.short.result (λ r. lex_term r ≡ x)) (sym (ap lex_term c.in-Short.is ∙ lex_term-Short c.in-Short.set)) c.short.ensures
