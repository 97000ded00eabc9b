use Rattle.std.proofs.Common.{◌≡◌, IfOk, subst, sym, ap, ◌∙◌}
use Rattle.grammar_tree.specs.Written.{WrittenTerm}
use Rattle.grammar_tree.specs.View.{parser_term}
use Rattle.grammar_tree.proofs.ParserViews.{parser_term-Opt, parser_term-Plus, parser_term-Star}
use Rattle.grammar_tree.proofs.parser_term.+copy.Goals as goal

pub ParserTerm::copy-returns-in_ok-copy-in-Opt : goal.ParserTerm::copy-returns-in_ok-copy-in-Opt
ParserTerm::copy-returns-in_ok-copy-in-Opt t c =
    let same =
    ap WrittenTerm.opt (c.in_ok-copy-in-Opt.ensures ∙ ap parser_term c.deref.ensures) ∙ sym (ap parser_term c.in-Opt.is ∙ parser_term-Opt c.in-Opt.term) in
    subst (λ x. IfOk c.opt.result (λ r. parser_term r ≡ x)) same c.opt.ensures

pub ParserTerm::copy-returns-in_ok-copy-in-Star : goal.ParserTerm::copy-returns-in_ok-copy-in-Star
ParserTerm::copy-returns-in_ok-copy-in-Star t c =
    let same =
    ap WrittenTerm.star (c.in_ok-copy-in-Star.ensures ∙ ap parser_term c.deref-in-Star.ensures)
    ∙ sym (ap parser_term c.in-Star.is ∙ parser_term-Star c.in-Star.term) in
    subst (λ x. IfOk c.star.result (λ r. parser_term r ≡ x)) same c.star.ensures

pub ParserTerm::copy-returns-in_ok-copy-in-Plus : goal.ParserTerm::copy-returns-in_ok-copy-in-Plus
ParserTerm::copy-returns-in_ok-copy-in-Plus t c =
    let same =
    ap WrittenTerm.plus (c.in_ok-copy-in-Plus.ensures ∙ ap parser_term c.deref-in-Plus.ensures)
    ∙ sym (ap parser_term c.in-Plus.is ∙ parser_term-Plus c.in-Plus.term) in
    subst (λ x. IfOk c.plus.result (λ r. parser_term r ≡ x)) same c.plus.ensures
