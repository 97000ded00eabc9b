use Rattle.std.proofs.Common.{◌≡◌, ◌<◌, ◌+◌, ◌-◌, ◌∙◌, length, map, drop, sym, arith, true≢false}
use Rattle.std.specs.List.{between}
use Rattle.std.proofs.lemmas.List.{length-drop, length-take}
use Rattle.lexer.specs.Tokens.{token_of}
use Rattle.token_print.specs.Spelling.{kind_and_spelling}
use Rattle.token_print.proofs.SpelledNext.{all_part, kept_there, next_few, next_no, next_yes, rising_part, words_size}
use Rattle.token_print.proofs.joins.Joins.are_next.Goals as goal

pub are_these-requires-clause-rise : goal.are_these-requires-clause-rise
are_these-requires-clause-rise c =
    rising_part c.args.self.now.kept.now c.args.found (c.args.found + (c.args.stretch.end - c.args.stretch.first)) c.requires.kept.rise (omega arith)

pub are_these-requires-clause-kept : goal.are_these-requires-clause-kept
are_these-requires-clause-kept c =
    let j = c.args.self.now in
    all_part (λ i. i < length j.layout.tokens.now) j.kept.now c.args.found (c.args.found + (c.args.stretch.end - c.args.stretch.first))
    (kept_there j.layout.tokens.now j.kept.now c.requires.kept)

pub are_these-requires-clause-count : goal.are_these-requires-clause-count
are_these-requires-clause-count c =
    let n = c.args.stretch.end - c.args.stretch.first in
    let to = c.args.found + n in
    omega (arith, length-take (to - c.args.found) (drop c.args.found c.args.self.now.kept.now), length-drop c.args.found c.args.self.now.kept.now)

pub returns-then-count-numbers-clause-no : goal.returns-then-count-numbers-clause-no
returns-then-count-numbers-clause-no c f =
    let j = c.args.self.now in
    let words = map (kind_and_spelling j.layout.start.now) (map token_of (between c.args.stretch.first c.args.stretch.end j.layout.tokens.now)) in
    next_few j.layout.start.now j.layout.tokens.now j.kept.now (kept_there j.layout.tokens.now j.kept.now c.requires.kept) c.args.found words c.requires.found
    (omega (arith, words_size j.layout.start.now j.layout.tokens.now c.args.stretch.first c.args.stretch.end c.requires.rises c.requires.inside))

pub returns-clause-yes : goal.returns-clause-yes
returns-clause-yes c t =
    let j = c.args.self.now in
    let words = map (kind_and_spelling j.layout.start.now) (map token_of (between c.args.stretch.first c.args.stretch.end j.layout.tokens.now)) in
    next_yes j.layout.start.now j.layout.tokens.now j.kept.now (kept_there j.layout.tokens.now j.kept.now c.requires.kept) c.args.found
    (c.args.found + (c.args.stretch.end - c.args.stretch.first)) words (omega arith) (omega arith) (c.are_these.ensures.0 t)

pub returns-clause-no : goal.returns-clause-no
returns-clause-no c f =
    let j = c.args.self.now in
    let words = map (kind_and_spelling j.layout.start.now) (map token_of (between c.args.stretch.first c.args.stretch.end j.layout.tokens.now)) in
    let n = c.args.stretch.end - c.args.stretch.first in
    let back : (c.args.found + n) - c.args.found ≡ n = omega arith in
    next_no j.layout.start.now j.layout.tokens.now j.kept.now (kept_there j.layout.tokens.now j.kept.now c.requires.kept) c.args.found (c.args.found + n) words
    (omega arith) (omega arith)
    (words_size j.layout.start.now j.layout.tokens.now c.args.stretch.first c.args.stretch.end c.requires.rises c.requires.inside ∙ sym back)
    (λ same. true≢false (sym (c.are_these.ensures.1 same) ∙ f))
