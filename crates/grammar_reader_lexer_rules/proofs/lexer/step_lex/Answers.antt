use Rattle.std.proofs.Common.{Some, None, cond, subst, sym, ap, ◌∙◌}
use Rattle.grammar_tree.specs.Written.{LexerTerm}
use Rattle.grammar_tree.proofs.Lent.{lex_term-Name}
use Rattle.grammar_reader_machine.specs.Machine as m
use Rattle.grammar_reader_machine.specs.View.{lex_body_of}
use Rattle.grammar_reader_machine.specs.NextState.{NextIs}
use Rattle.grammar_reader_lexer_rules.proofs.lexer.step_lex.Goals as goal

pub returns-in-Dot : goal.returns-in-Dot
returns-in-Dot c = subst (NextIs c.after_but.result) (sym (ap (m.step_lex (lex_body_of c.args.body)) c.in-Dot.is)) c.after_but.ensures

pub returns-then-is : goal.returns-then-is
returns-then-is c =
    let b : m.LexBody = lex_body_of c.args.body in
    c.refused.ensures
    ∙ sym (ap (m.step_lex b) c.in-Upper.is ∙ ap (λ eof. cond eof None (Some (m.AfterLexAtom b (LexerTerm.name c.in-Upper.name))))
    (sym c.is.ensures ∙ c.if-is.true))

pub returns-else-is : goal.returns-else-is
returns-else-is c =
    let b : m.LexBody = lex_body_of c.args.body in
    subst (NextIs c.at-else-is.result)
    (ap (λ t. Some (m.AfterLexAtom b t)) (lex_term-Name c.in-Upper.name)
    ∙ sym (ap (m.step_lex b) c.in-Upper.is ∙ ap (λ eof. cond eof None (Some (m.AfterLexAtom b (LexerTerm.name c.in-Upper.name))))
    (sym c.is.ensures ∙ c.if-is.false)))
    c.at-else-is.ensures
