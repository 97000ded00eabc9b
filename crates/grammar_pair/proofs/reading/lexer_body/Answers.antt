use Rattle.std.proofs.Common.{◌≡◌, ◌≤◌, length, ap, sym, subst, ◌∙◌, arith}
use Rattle.std.specs.Prelude.{codes}
use Rattle.grammar_reader_words.specs.Spans.{spans_of}
use Rattle.grammar_pair.specs.Bodies.{all_blanked, first_word}
use Rattle.grammar_pair.specs.inner.Read.{IsLexerBody}
use Rattle.grammar_pair.proofs.Making.{lexer_broken, lexer_made, written_back}
use Rattle.grammar_pair.proofs.reading.lexer_body.Goals as goal

pub returns-in-Ok : goal.returns-in-Ok
returns-in-Ok c =
    let bytes = c.args.bytes.now in
    let text = c.in-Ok.text.now in
    let body = c.in_ok-body.body in
    let new = c.blank_first-found.new.body in
    let before : c.deref_mut.result.now ≡ bytes = c.deref_mut.ensures.value ∙ c.in_ok-body.ensures.items in
    let kept : length new ≡ length bytes = c.blank_first-found.ensures.same_length ∙ ap length before in
    let fits : length body.items ≤ body.len = omega (arith, ap length c.deref_mut.ensures.value, c.deref_mut.ensures.len) in
    let back = written_back body.len new body.items (kept ∙ ap length (sym c.in_ok-body.ensures.items)) fits in
    let made = c.blank_first-found.ensures.body ∙ ap (all_blanked (first_word (codes "lexer") text (spans_of text))) before in
    subst (λ b. IsLexerBody bytes b c.blank_first-found.result) (sym back)
    (lexer_made bytes text c.in-Ok.ensures.cases.0 c.in-Ok.ensures.cases.1 new c.blank_first-found.result made kept c.blank_first-found.ensures.found)

pub returns-in-Err : goal.returns-in-Err
returns-in-Err c = lexer_broken c.args.bytes.now c.in-Err.ensures.cases.0 c.in_ok-body.body.items c.in_ok-body.ensures.items
