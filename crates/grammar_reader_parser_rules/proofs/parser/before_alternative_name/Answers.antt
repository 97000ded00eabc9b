use Rattle.std.proofs.Common.{vec_len, subst, sym, ◌∙◌}
use Rattle.std.proofs.lemmas.Bool.{eqb-true, eqb-false}
use Rattle.grammar_reader_machine.specs.View.{body_of}
use Rattle.grammar_reader_machine.specs.NextState.{NextIs}
use Rattle.grammar_reader_parser_rules.proofs.Views.{before_alternative_name_as, before_alternative_name_not}
use Rattle.grammar_reader_parser_rules.proofs.parser.before_alternative_name.Goals as goal

pub returns-then-is_empty : goal.returns-then-is_empty
returns-then-is_empty c =
    subst (NextIs c.at.result)
    (sym (before_alternative_name_as (body_of c.args.body) c.args.body.enclosing.items
    (sym c.args.body.enclosing.ok.0 ∙ eqb-true (vec_len c.args.body.enclosing) 0 (sym c.is_empty.ensures ∙ c.if-is_empty.true))))
    c.at.ensures

pub returns-else-is_empty : goal.returns-else-is_empty
returns-else-is_empty c =
    c.refused.ensures
    ∙ sym (before_alternative_name_not (body_of c.args.body) c.args.body.enclosing.items
    (λ e. eqb-false (vec_len c.args.body.enclosing) 0 (sym c.is_empty.ensures ∙ c.if-is_empty.false) (c.args.body.enclosing.ok.0 ∙ e)))
