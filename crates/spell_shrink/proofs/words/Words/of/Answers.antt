use Rattle.std.proofs.Common.{◌≤◌, ◌∙◌, All, List, length, map, ap, subst, sym}
use Rattle.std.proofs.lemmas.List.{take_all}
use Rattle.std.proofs.lemmas.List.Elements.{All-nil, All-push}
use Rattle.std.proofs.lemmas.List.Filters.{dedup_is}
use Rattle.lexer.specs.declared.token.Token.{Token}
use Rattle.lexer.specs.Tokens.{token_of}
use Rattle.spell_shrink.specs.declared.words.Word.{Word}
use Rattle.spell_shrink.specs.KindWords.{AreSorted, AreWordsOf, IsSized, kind_word}
use Rattle.spell_shrink.proofs.BuiltWords.{lent_slice, one_more, words_up_to}
use Rattle.spell_shrink.proofs.SortedWords.{are_sorted, are_words, is_word}
use Rattle.spell_shrink.proofs.words.Words.of.Goals as goal

pub word_of-requires : goal.word_of-requires
word_of-requires c =
    lent_slice c.args.start.now c.args.tokens.now.items.items _ c.deref-token-items.ensures.value c.requires.slices c.loop-token.token-index _
    c.loop-token-test.true

pub loop-token-init : goal.loop-token-init
loop-token-init c = (ap (map kind_word) c.new-items.ensures.items, subst (All IsSized) (sym c.new-items.ensures.items) (All-nil IsSized))

pub loop-token-preserved : goal.loop-token-preserved
loop-token-preserved c =
    let items = c.loop-token.items.items in
    let now = c.loop-token.invariant in
    let pushed = c.in_ok-push.ensures.items in (
      one_more c.args.start.now c.args.tokens.now.items.items _ c.deref-token-items.ensures.value c.loop-token.token-index _ items c.push.new.self.items
          c.word_of.result c.loop-token-test.true pushed now.0 c.word_of.ensures.word,
      subst (All IsSized) (sym pushed) (All-push IsSized items c.word_of.result now.1 c.word_of.ensures.size),
    )

pub invariant_of-result : goal.invariant_of-result
invariant_of-result c =
    let items = c.loop-token.items.items in
    let moved = c.sort_unstable.new.self.items in
    subst AreSorted (sym (dedup_is is_word moved c.dedup.new.self.items c.dedup.ensures.filtered))
    (are_sorted items moved c.loop-token.invariant.1 c.sort_unstable.ensures.permutation c.sort_unstable.ensures.sorted)

pub returns : goal.returns
returns c = λ kind.
    let start = c.args.start.now in
    let tokens = c.args.tokens.now.items.items in
    let items = c.loop-token.items.items in
    let moved = c.sort_unstable.new.self.items in
    let past : length tokens ≤ c.loop-token.token-index =
    subst (λ (l : List Token). length l ≤ c.loop-token.token-index) c.deref-token-items.ensures.value c.loop-token-test.false in
    let all = c.loop-token.invariant.0 ∙ ap (words_up_to start) (take_all c.loop-token.token-index tokens past) in
    subst (λ (words : List Word). AreWordsOf start (map token_of tokens) (map kind_word words))
    (sym (dedup_is is_word moved c.dedup.new.self.items c.dedup.ensures.filtered))
    (are_words items moved c.loop-token.invariant.1 c.sort_unstable.ensures.permutation c.sort_unstable.ensures.sorted start (map token_of tokens) all) kind
