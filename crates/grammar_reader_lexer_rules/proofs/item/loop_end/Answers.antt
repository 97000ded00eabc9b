use Rattle.std.proofs.Common.{◌≡◌, ◌∙◌, length, vec_len, Some, false, ap, sym}
use Rattle.std.proofs.lemmas.Bool.{eqb-true, eqb-false}
use Rattle.grammar_reader_machine.specs.Machine as m
use Rattle.grammar_reader_machine.specs.View.{lex_body_of}
use Rattle.grammar_reader_lexer_rules.proofs.Views.{loop_end_as, no_loop_end}
use Rattle.grammar_reader_lexer_rules.proofs.item.loop_end.Goals as goal

pub returns-then-not-is_empty : goal.returns-then-not-is_empty
returns-then-not-is_empty c =
    c.refused.ensures
    ∙ sym (no_loop_end (lex_body_of c.args.body) c.args.set c.args.body.enclosing.items c.args.body.fragment
    (λ e. eqb-false (vec_len c.args.body.enclosing) 0 (sym c.is_empty.ensures ∙ c.if-not-is_empty.true) (c.args.body.enclosing.ok.0 ∙ e)))

-- That this is no fragment is found among what is known, so that the answer does not name the test.
pub returns : goal.returns
returns c =
    let no_block : length c.args.body.enclosing.items ≡ 0 =
    sym c.args.body.enclosing.ok.0 ∙ eqb-true (vec_len c.args.body.enclosing) 0 (sym c.is_empty.ensures ∙ c.if-not-is_empty.false) in
    let no_fragment : c.args.body.fragment ≡ false = assumption in
    c.some.ensures
    ∙ ap (λ b. Some (m.AfterLoop b c.args.set)) c.top.ensures
    ∙ sym (loop_end_as (lex_body_of c.args.body) c.args.set c.args.body.enclosing.items c.args.body.fragment no_block no_fragment)
