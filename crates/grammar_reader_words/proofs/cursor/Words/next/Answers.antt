use Rattle.std.proofs.Common.{◌≡◌, ◌-◌, List, ℕ, length, sym, ap, ◌∙◌}
use Rattle.std.specs.Str.{chars}
use Rattle.std.proofs.Math.Utf8.{encodes}
use Rattle.std.proofs.lemmas.Str.{encodes-chars}
use Rattle.grammar_reader_words.specs.Words.{brace_from, is_last, settled, placed, words_from}
use Rattle.grammar_reader_words.specs.inner.Words.{words_left}
use Rattle.grammar_reader_words.specs.declared.word.Placed.{Placed}
use Rattle.grammar_reader_words.specs.declared.word.Word.{Word}
use Rattle.grammar_reader_words.proofs.Going.{left_none, left_some, word_passed}
use Rattle.grammar_reader_words.proofs.cursor.Words.next.Goals as goal

placed_same : (w w' : Word) (o o' : ℕ) → w ≡ w' → o ≡ o' → ◌≡◌ {A = Placed} (record { word = w; offset = o }) (record { word = w'; offset = o' })
placed_same w w' o o' e f = ap (λ x. record { word = x; offset = o }) e ∙ ap (λ x. record { word = w'; offset = x }) f

pub returns-clause-word : goal.returns-clause-word
returns-clause-word c =
    let total : ℕ = c.self.inside.total in
    let start : List ℕ = chars c.skip_gaps-start.result.now in
    let rest : List ℕ = chars c.in_ok-word.rest.now in
    let was : words_from total 0 (chars c.self.inside.rest.now) ≡ c.args.self.now =
    ap (λ b. words_left b total (chars c.self.inside.rest.now)) (sym c.if-self.false) ∙ c.self.view_is in
    let offset : c.saturating_sub-offset.result ≡ total - length (encodes start) =
    c.saturating_sub-offset.ensures ∙ ap (λ bs. total - length bs) (sym (encodes-chars c.skip_gaps-start.result.now c.skip_gaps-start.utf8)) in
    let found : Placed = record { word = c.settled.result; offset = c.saturating_sub-offset.result } in
    let same : found ≡ placed total start (settled c.in_ok-word.word (brace_from 0 rest)) =
    placed_same c.settled.result (settled c.in_ok-word.word (brace_from 0 rest)) c.saturating_sub-offset.result
    (total - length (encodes start)) c.settled.ensures offset in
    sym was ∙ c.skip_gaps-start.ensures.same total
    ∙ word_passed total start rest c.in_ok-word.word c.in_ok-word.ensures c.skip_gaps-start.ensures.none c.is_last-self-inside.result
    (sym c.is_last-self-inside.ensures) found same

pub returns-clause-goes_on : goal.returns-clause-goes_on
returns-clause-goes_on c = λ last.
    left_some c.in_ok-word.word (brace_from 0 (chars c.in_ok-word.rest.now)) c.is_last-self-inside.result c.self.inside.total
    (chars c.in_ok-word.rest.now) c.is_last-self-inside.ensures
    (sym (ap is_last c.settled.ensures) ∙ last)

pub returns-clause-ends : goal.returns-clause-ends
returns-clause-ends c = λ last.
    left_none c.in_ok-word.word (brace_from 0 (chars c.in_ok-word.rest.now)) c.is_last-self-inside.result c.self.inside.total
    (chars c.in_ok-word.rest.now) c.is_last-self-inside.ensures
    (sym (ap is_last c.settled.ensures) ∙ last)
