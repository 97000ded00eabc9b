use Rattle.std.proofs.Common.{◌≡◌, ◌<◌, ◌∙◌, ℕ, List, length, map, ap, sym, arith}
use Rattle.std.proofs.lemmas.List.{length-map}
use denote.Ref.{Bor}
use Rattle.lexer.specs.Tokens.{token_of}
use Rattle.spell_shrink.specs.Respelling.{word_at}
use Rattle.spell_shrink.specs.inner.Spelled.{respelling_of}
use Rattle.spell_shrink.proofs.Choosing.{at_token, kind_in, none_left, shorter_of, whole_rest}
use Rattle.spell_shrink.proofs.WordPrinting.{respelling_long, spelling_of}
use Rattle.spell_shrink.proofs.cursor.Choices.at_token.Goals as goal

pub bounds-self-number : goal.bounds-self-number
bounds-self-number c =
    let below = c.requires.kept.there c.args.token c.index-number.result.now (omega (arith, c.if-token-len.false, c.len.ensures)) in
    omega (arith, below, c.index-number.ensures, length-map c.args.self.tokens.now token_of)

pub returns-then-token-len-clause-trials : goal.returns-then-token-len-clause-trials
returns-then-token-len-clause-trials c = λ start are.
    let s = c.args.spelled.now in
    let long = respelling_long s.kept.items s.words.items c.requires.long in
    none_left start (map token_of c.args.self.tokens.now) c.args.self.words.now (respelling_of s) c.args.token
    (omega (arith, long, c.if-token-len.true, c.len.ensures))

-- the spellings are those of the token's kind that are shorter than its own
pub returns-clause-trials : goal.returns-clause-trials
returns-clause-trials c = λ start are.
    let s = c.args.spelled.now in
    let tokens = c.args.self.tokens.now in
    let r = respelling_of s in
    let k = c.args.token in
    let number = c.index-number.result.now in
    let less : k < length s.kept.items = omega (arith, c.if-token-len.false, c.len.ensures) in
    let long = respelling_long s.kept.items s.words.items c.requires.long in
    let there = c.requires.kept.there k number less in
    let below : number < length tokens = omega (arith, there, c.index-number.ensures, length-map tokens token_of) in
    let size : length (word_at r k) ≡ length c.index.result.now.now =
    ap length (spelling_of s.kept.items s.words.items k c.index.result.now less c.requires.long)
    ∙ ap (λ (w : Bor (List ℕ)). length w.now) (sym c.index.ensures) in
    at_token start (map token_of tokens) c.args.self.words.now r are k _ (omega (arith, less, long))
    (c.shorter-next.ensures.words
    ∙ shorter_of c.args.self.words.now _ _ _ _ size (kind_in tokens s.kept.items s.words.items k number _ less c.requires.long c.index-number.ensures below))

pub returns-clause-cursor : goal.returns-clause-cursor
returns-clause-cursor c =
    let s = c.args.spelled.now in
    let tokens = c.args.self.tokens.now in
    let r = respelling_of s in
    let k = c.args.token in
    let number = c.index-number.result.now in
    let less : k < length s.kept.items = omega (arith, c.if-token-len.false, c.len.ensures) in
    let long = respelling_long s.kept.items s.words.items c.requires.long in
    let there = c.requires.kept.there k number less in
    let below : number < length tokens = omega (arith, there, c.index-number.ensures, length-map tokens token_of) in
    let size : length (word_at r k) ≡ length c.index.result.now.now =
    ap length (spelling_of s.kept.items s.words.items k c.index.result.now less c.requires.long)
    ∙ ap (λ (w : Bor (List ℕ)). length w.now) (sym c.index.ensures) in
    record {
      token = omega (arith, less, long);
      rises = c.shorter-next.ensures.rises;
      within = c.shorter-next.ensures.within;
      rest =
          whole_rest _ _
          (c.shorter-next.ensures.words
          ∙ shorter_of c.args.self.words.now _ _ _ _ size
          (kind_in tokens s.kept.items s.words.items k number _ less c.requires.long c.index-number.ensures below));
    }
