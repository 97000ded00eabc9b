use Rattle.std.proofs.Common.{◌≡◌, [], ◌∷◌, ap, ◌∙◌}
use Rattle.grammar_tree.specs.Written.{LexerTerm, lexer_alts}
use Rattle.grammar_tree.specs.Kinds.{is_just}
use Rattle.grammar_tree.specs.View.{lex_term}
use Rattle.grammar_tree.proofs.Lent.{lex_term-Literal}
use Rattle.grammar_names.proofs.Literals.{not_one_in, one_in, other_term}
use Rattle.grammar_names.proofs.names.literal_alone.Goals as goal

pub returns-then-terms-ne1 : goal.returns-then-terms-ne1
returns-then-terms-ne1 c t = not_one_in c.args.terms.now c.as_slice-terms.result.now t c.as_slice-terms.ensures.value c.if-terms-ne1.true

pub returns-in-Literal : goal.returns-in-Literal
returns-in-Literal c t =
    let one =
    one_in c.args.terms.now c.as_slice-terms.result.now c.index-terms-0.result c.as_slice-terms.ensures.value c.if-terms-ne1.false c.index-terms-0.is in
    let is : lex_term c.index-terms-0.result ≡ LexerTerm.literal c.in-Literal.text = ap lex_term c.in-Literal.is ∙ lex_term-Literal c.in-Literal.text in
    ap (λ s. is_just t (lexer_alts (s ∷ []))) (one ∙ ap (λ x. x ∷ []) is)

pub returns-in_default : goal.returns-in_default
returns-in_default c t =
    let one = one_in c.args.terms.now c.as_slice-terms.result.now c.index-terms-0.result c.as_slice-terms.ensures.value c.if-terms-ne1.false
    c.index-terms-0.is in
    ap (λ s. is_just t (lexer_alts (s ∷ []))) one ∙ other_term c.index-terms-0.result t c.in_default.not-Literal
