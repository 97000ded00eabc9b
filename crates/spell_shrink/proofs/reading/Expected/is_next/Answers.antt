use Rattle.std.proofs.Common.{◌∙◌, ◌<◌, length, refl, sym, arith, true≢false}
use Rattle.std.proofs.lemmas.Slice.Eq.{bytes_eq-Decides}
use Rattle.lexer.specs.declared.token.Token.{Token}
use Rattle.spell_shrink.proofs.Choosing.{kind_here}
use Rattle.spell_shrink.proofs.Expecting.{is_expected, is_other, none_past, other_kind, word_utf8}
use Rattle.spell_shrink.proofs.reading.Expected.is_next.Goals as goal

pub returns-then-index-self-clause-yes : goal.returns-then-index-self-clause-yes
returns-then-index-self-clause-yes c = λ is. absurd (true≢false (sym is))

pub returns-then-index-self-clause-no : goal.returns-then-index-self-clause-no
returns-then-index-self-clause-no c = λ is.
    none_past c.args.self.now c.requires.expected.long c.args.index _ (omega (arith, c.if-index-self.true))

pub returns-then-index-self-clause-small : goal.returns-then-index-self-clause-small
returns-then-index-self-clause-small c = λ is. absurd (true≢false (sym is))

pub bounds-self-number : goal.bounds-self-number
bounds-self-number c = c.requires.expected.kept c.args.index 0 (omega (arith, c.if-index-self.false))

-- the kind of the token
pub returns-then-token-kind-clause-yes : goal.returns-then-token-kind-clause-yes
returns-then-token-kind-clause-yes c = λ is. absurd (true≢false (sym is))

pub returns-then-token-kind-clause-no : goal.returns-then-token-kind-clause-no
returns-then-token-kind-clause-no c = λ is.
    let e = c.args.self.now in
    let less : c.args.index < length e.kept.now = omega (arith, c.if-index-self.false) in
    let below = c.requires.expected.kept c.args.index 0 less in
    other_kind e c.requires.expected.long c.args.index less _ _
    (kind_here e.tokens.now e.kept.now e.words.now c.args.index _ less c.requires.expected.long below) refl c.args.kind c.args.word.now c.if-token-kind.true

pub returns-then-token-kind-clause-small : goal.returns-then-token-kind-clause-small
returns-then-token-kind-clause-small c = λ is. absurd (true≢false (sym is))

-- and its spelling
pub returns-clause-yes : goal.returns-clause-yes
returns-clause-yes c = λ is.
    let e = c.args.self.now in
    let less : c.args.index < length e.kept.now = omega (arith, c.if-index-self.false) in
    let below = c.requires.expected.kept c.args.index 0 less in
    is_expected e c.requires.expected.long c.args.index less _ c.word.result.now
    (kind_here e.tokens.now e.kept.now e.words.now c.args.index _ less c.requires.expected.long below) (sym c.word.ensures) c.args.kind c.args.word.now
    c.if-token-kind.false ((bytes_eq-Decides c.word.result.now c.args.word.now).0 (sym c.eq.ensures ∙ is))

pub returns-clause-no : goal.returns-clause-no
returns-clause-no c = λ is.
    let e = c.args.self.now in
    let less : c.args.index < length e.kept.now = omega (arith, c.if-index-self.false) in
    let below = c.requires.expected.kept c.args.index 0 less in
    let d : Token = record { kind = 0; start = 0; end = 0 } in
    is_other e c.requires.expected.long c.args.index less _ _
    (kind_here e.tokens.now e.kept.now e.words.now c.args.index d less c.requires.expected.long below) refl c.args.kind c.args.word.now
    (word_utf8 e c.requires.expected c.args.index less) c.utf8.word
    (λ same_kind same.
    absurd (true≢false (sym ((bytes_eq-Decides c.word.result.now c.args.word.now).1 (c.word.ensures ∙ same)) ∙ sym c.eq.ensures ∙ is)))
