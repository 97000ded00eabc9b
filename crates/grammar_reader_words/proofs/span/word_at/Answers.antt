use Rattle.std.proofs.Common.{◌≡◌, ◌∙◌, List, [], ap, length, subst, sym, ℕ}
use Rattle.std.specs.Str.{chars}
use Rattle.grammar_reader_words.specs.Spans.{spans_from}
use Rattle.grammar_reader_words.proofs.Bytes.{at_ends, cut_out, first_is, is_none, last_ends, no_chars, some_chars}
use Rattle.grammar_reader_words.proofs.Tails.{Ends, over}
use Rattle.grammar_reader_words.proofs.span.word_at.Goals as goal

pub returns-then-is_empty-clause-first : goal.returns-then-is_empty-clause-first
returns-then-is_empty-clause-first c =
    let total : ℕ = length c.args.text.now in
    let none : chars c.skip_gaps-start.result.now ≡ [] = no_chars c.skip_gaps-start.result.now c.is_empty.result c.is_empty.ensures c.if-is_empty.true in
    is_none c.args.text.now c.utf8.text c.args.offset
    (ap (spans_from total 0) (sym c.text_at.ensures) ∙ c.skip_gaps-start.ensures.spans total ∙ ap (spans_from total 0) none)

pub returns-clause-first : goal.returns-clause-first
returns-clause-first c =
    let total : ℕ = length c.args.text.now in
    let cs : List ℕ = chars c.skip_gaps-start.result.now in
    let after : Ends (chars c.text_at.result.now) cs = last_ends (chars c.text_at.result.now) cs c.skip_gaps-start.ensures.last in
    let ends : Ends (chars c.args.text.now) cs =
    over (at_ends c.args.text.now c.utf8.text c.args.offset c.requires) (subst (λ ds. Ends ds cs) c.text_at.ensures after) in
    first_is c.args.text.now c.utf8.text c.args.offset c.requires cs
    (some_chars c.skip_gaps-start.result.now c.is_empty.result c.skip_gaps-start.utf8 c.is_empty.ensures c.if-is_empty.false) ends
    (ap (spans_from total 0) (sym c.text_at.ensures) ∙ c.skip_gaps-start.ensures.spans total) c.skip_gaps-start.ensures.none c.span_of.result c.span_of.ensures

pub returns-clause-cut_out : goal.returns-clause-cut_out
returns-clause-cut_out c =
    let total : ℕ = length c.args.text.now in
    let cs : List ℕ = chars c.skip_gaps-start.result.now in
    let after : Ends (chars c.text_at.result.now) cs = last_ends (chars c.text_at.result.now) cs c.skip_gaps-start.ensures.last in
    let ends : Ends (chars c.args.text.now) cs = over (at_ends c.args.text.now c.utf8.text c.args.offset c.requires)
    (subst (λ ds. Ends ds cs) c.text_at.ensures after) in
    cut_out c.args.text.now c.utf8.text c.args.offset c.requires cs
    (some_chars c.skip_gaps-start.result.now c.is_empty.result c.skip_gaps-start.utf8 c.is_empty.ensures c.if-is_empty.false) ends
    (ap (spans_from total 0) (sym c.text_at.ensures) ∙ c.skip_gaps-start.ensures.spans total) c.skip_gaps-start.ensures.none c.span_of.result c.span_of.ensures
