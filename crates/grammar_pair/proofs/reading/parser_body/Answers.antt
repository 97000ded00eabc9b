use Rattle.std.proofs.Common.{◌≡◌, ◌≤◌, ◌++◌, length, take, drop, ap, sym, subst, ◌∙◌, arith}
use Rattle.std.specs.Prelude.{codes}
use Rattle.grammar_reader_words.specs.Spans.{spans_of}
use Rattle.grammar_pair.specs.Bodies.{all_blanked, entries_of, first_word, words_in}
use Rattle.grammar_pair.specs.inner.Read.{IsParserBody}
use Rattle.grammar_pair.proofs.Making.{parser_broken, parser_made, written_back}
use Rattle.grammar_pair.proofs.reading.parser_body.Goals as goal

pub returns-in_ok-names-in-Ok : goal.returns-in_ok-names-in-Ok
returns-in_ok-names-in-Ok c =
    let bytes = c.args.bytes.now in
    let text = c.in-Ok.text.now in
    let body = c.in_ok-body.body in
    let found = c.blank_first-found.result in
    let names = c.in_ok-names-in-Ok.names.items in
    let begun = c.blank_first-found.new.body in
    let new = c.blank_entries.new.body in
    let before : c.deref_mut.result.now ≡ bytes = c.deref_mut.ensures.value ∙ c.in_ok-body.ensures.items in
    let kept : length begun ≡ length bytes = c.blank_first-found.ensures.same_length ∙ ap length before in
    let same : length begun ≡ length body.items = kept ∙ ap length (sym c.in_ok-body.ensures.items) in
    let fits : length body.items ≤ body.len = omega (arith, ap length c.deref_mut.ensures.value, c.deref_mut.ensures.len) in
    let back = written_back body.len begun body.items same fits in
    let lent : c.deref_mut-in-Ok.result.now ≡ begun = c.deref_mut-in-Ok.ensures.value ∙ back in
    let kept_too : length new ≡ length begun = c.blank_entries.ensures.same_length ∙ ap length lent in
    let back_too =
    ap (λ items. take body.len (new ++ drop (length new) items)) back ∙ written_back body.len new begun kept_too (omega (arith, same, fits)) in
    let spaced = c.blank_first-found.ensures.body ∙ ap (all_blanked (first_word (codes "parser") text (spans_of text))) before in
    let made = c.in_ok-names-in-Ok.ensures.body ∙ ap (all_blanked (words_in (entries_of text))) lent in
    subst (λ b. IsParserBody bytes b found names) (sym back_too)
    (parser_made bytes text c.in-Ok.ensures.cases.0 c.in-Ok.ensures.cases.1 new begun found names spaced made (kept_too ∙ kept)
    c.blank_first-found.ensures.found c.in_ok-names-in-Ok.ensures.names)

pub returns-in-Err : goal.returns-in-Err
returns-in-Err c =
    parser_broken c.args.bytes.now c.in-Err.ensures.cases.0 c.in_ok-body.body.items c.in_ok-body.ensures.items c.new.result.items
