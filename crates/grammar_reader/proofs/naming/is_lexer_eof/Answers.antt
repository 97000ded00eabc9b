use Rattle.std.proofs.Common.{◌&&◌, Bool, sym, ap, ◌∙◌}
use Rattle.grammar_reader_notation.specs.Notation.{is_eof}
use Rattle.grammar_reader.proofs.naming.is_lexer_eof.Goals as goal

pub returns-then-within_lexer_rule : goal.returns-then-within_lexer_rule
returns-then-within_lexer_rule c =
    c.is.ensures
    ∙ ap (λ (b : Bool). b && is_eof c.args.name.now) (sym (sym c.within_lexer_rule.ensures ∙ c.if-within_lexer_rule.true))
