use Rattle.std.proofs.Common.{◌≡◌, subst, sym, length, arith}
use Rattle.std.proofs.lemmas.Grind.{common_steps}
use Rattle.grammar_reader_machine.specs.View.{lex_body_of}
use Rattle.grammar_reader_machine.specs.NextState.{NextIs}
use Rattle.grammar_reader_lexer_rules.proofs.Views.{inner_as}
use Rattle.grammar_reader_lexer_rules.proofs.lexer.step_lex_end.Goals as goal

pub returns-else-is_empty : goal.returns-else-is_empty
returns-else-is_empty c =
    let some : length c.args.body.enclosing.items ≡ 0 → ⊥ = λ e. grind (arith, common_steps, e) in
    subst (NextIs c.step_inner_end.result) (sym (inner_as (lex_body_of c.args.body) c.args.body.enclosing.items c.args.word some)) c.step_inner_end.ensures
