use Rattle.std.proofs.Common.{[], ◌∷◌, subst, sym, ap}
use Rattle.std.proofs.lemmas.Bool.{le-leb}
use Rattle.grammar_reader_machine.specs.Machine as m
use Rattle.grammar_reader_machine.specs.View.{item_position_of, lex_body_of}
use Rattle.grammar_reader_machine.specs.NextState.{NextIs}
use Rattle.grammar_reader_lexer_rules.proofs.item.item_range.Goals as goal

pub returns : goal.returns
returns c =
    subst (NextIs c.after_item.result)
    (ap (λ ordered. m.provided ordered (m.after_item (lex_body_of c.args.body) (item_position_of c.args.position) ((c.args.first, c.args.last) ∷ [])))
    (sym (le-leb c.args.first c.args.last c.if-first-last.false)))
    c.after_item.ensures
