use Rattle.std.proofs.Common.{ℕ, [], ◌∷◌, subst, sym, ◌∙◌}
use Rattle.grammar_tree.specs.Written.{LexerTerm}
use Rattle.grammar_reader_notation.specs.Sets.{within}
use Rattle.grammar_reader_machine.specs.Machine as m
use Rattle.grammar_reader_machine.specs.View.{lex_body_of}
use Rattle.grammar_reader_machine.specs.NextState.{NextIs}
use Rattle.grammar_reader_lexer_rules.proofs.OneChars.{no_end, one_end}
use Rattle.grammar_reader_lexer_rules.proofs.item.end_of_range.Goals as goal

pub returns-in-None : goal.returns-in-None
returns-in-None c =
    let go : ℕ → m.State = λ last. m.AfterLexAtom (lex_body_of c.args.body) (LexerTerm.set (within ((c.args.first, last) ∷ []))) in
    c.refused.ensures ∙ sym (no_end go c.args.first c.args.text (sym c.in-None.is ∙ c.only_char.ensures))

pub returns : goal.returns
returns c =
    let go : ℕ → m.State = λ last. m.AfterLexAtom (lex_body_of c.args.body) (LexerTerm.set (within ((c.args.first, last) ∷ []))) in
    subst (NextIs c.range.result) (sym (one_end go c.args.first c.args.text c.in-Some.last (sym c.in-Some.is ∙ c.only_char.ensures))) c.range.ensures
