use Rattle.std.proofs.Common.{◌∙◌, ◌↔◌, ℕ, List, map, length, ap, arith, subst, sym}
use Rattle.std.specs.Prelude.{IsTrue}
use Rattle.std.specs.Str.{chars, IsUtf8}
use Rattle.grammar_tree.specs.Lexes.{PlacedToken}
use Rattle.lexer.specs.Tokens.{HasTokens, token_of}
use Rattle.token_print.specs.Kept.{KeepsTokens}
use Rattle.spell_shrink.specs.Texts.{respelled_text}
use Rattle.spell_shrink.specs.inner.Changes.{word_offsets}
use Rattle.spell_shrink.proofs.OwnPrints.{lent_own, lent_text, own_print, printed_short}
use Rattle.spell_shrink.proofs.spelled.Spelled.own.Goals as goal

pub own_words-requires-clause-order : goal.own_words-requires-clause-order
own_words-requires-clause-order c =
    let G = c.args.lexer.now.grammar in
    let start = c.args.layout.start.now in
    let utf8 = subst IsUtf8 c.start_of-start.ensures c.start_of-start.utf8 in
    c.tokens_are_in_order.ensures G start _ utf8 (subst (HasTokens G (chars start)) (sym c.requires.same) c.requires.tokens)

pub print_words-requires-clause-order : goal.print_words-requires-clause-order
print_words-requires-clause-order c =
    let G = c.args.lexer.now.grammar in
    let start = c.args.layout.start.now in
    let utf8 = subst IsUtf8 c.start_of-start.ensures c.start_of-start.utf8 in
    c.tokens_are_in_order.ensures G start _ utf8 (subst (HasTokens G (chars start)) (sym c.requires.same) c.requires.tokens)

pub keeps_tokens-requires-clause-tokens : goal.keeps_tokens-requires-clause-tokens
keeps_tokens-requires-clause-tokens c =
    subst (λ (l : List ℕ). HasTokens c.args.lexer.now.grammar (chars l) (map token_of c.args.tokens.now.items.items)) (sym c.start_of-start.ensures)
    c.requires.tokens

-- the text is short enough to be lexed
pub keeps_tokens-requires-clause-small : goal.keeps_tokens-requires-clause-small
keeps_tokens-requires-clause-small c =
    let G = c.args.lexer.now.grammar in
    let layout = c.args.layout in
    let start = layout.start.now in
    let utf8 = subst IsUtf8 c.start_of-start.ensures c.start_of-start.utf8 in
    let tokens = map token_of layout.tokens.now in
    let kept = c.args.kept.items in
    let words = c.in_ok-words.words.items in
    let has = subst (HasTokens G (chars start)) (sym c.requires.same) c.requires.tokens in
    let own = lent_own start tokens kept _ words c.deref.ensures.value c.in_ok-words.ensures.own in
    let text = lent_text (respelled_text layout.skips start tokens layout.style) kept _ words _ _ c.deref-2.ensures.value c.deref-3.ensures.value
    c.in_ok-text.ensures.text in
    let short =
    printed_short c.no_longer_than_start.ensures c.no_longer_than_twice.ensures G layout.skips start tokens layout.style kept utf8 has
    c.requires.kept c.requires.small words own _ text in
    omega (arith, short, ap (λ (l : List ℕ). length l) c.as_bytes.ensures.value)

pub new-requires : goal.new-requires
new-requires c =
    let G = c.args.lexer.now.grammar in
    let layout = c.args.layout in
    let start = layout.start.now in
    let utf8 = subst IsUtf8 c.start_of-start.ensures c.start_of-start.utf8 in
    let tokens = map token_of layout.tokens.now in
    let kept = c.args.kept.items in
    let words = c.in_ok-words.words.items in
    let has = subst (HasTokens G (chars start)) (sym c.requires.same) c.requires.tokens in
    let own = lent_own start tokens kept _ words c.deref.ensures.value c.in_ok-words.ensures.own in
    let text = lent_text (respelled_text layout.skips start tokens layout.style) kept _ words _ _ c.deref-2.ensures.value c.deref-3.ensures.value
    c.in_ok-text.ensures.text in
    printed_short c.no_longer_than_start.ensures c.no_longer_than_twice.ensures G layout.skips start tokens layout.style kept utf8 has
    c.requires.kept c.requires.small words own _ text

pub returns-clause-own : goal.returns-clause-own
returns-clause-own c =
    lent_own c.args.layout.start.now (map token_of c.args.layout.tokens.now) c.args.kept.items _ c.in_ok-words.words.items c.deref.ensures.value
    c.in_ok-words.ensures.own

pub returns-clause-print : goal.returns-clause-print
returns-clause-print c =
    let G = c.args.lexer.now.grammar in
    let layout = c.args.layout in
    let start = layout.start.now in
    let tokens = map token_of layout.tokens.now in
    let kept = c.args.kept.items in
    let words = c.in_ok-words.words.items in
    let own = lent_own start tokens kept _ words c.deref.ensures.value c.in_ok-words.ensures.own in
    let text = lent_text (respelled_text layout.skips start tokens layout.style) kept _ words _ _ c.deref-2.ensures.value c.deref-3.ensures.value
    c.in_ok-text.ensures.text in
    let places = lent_text (word_offsets layout.skips start tokens layout.style) kept _ words _ _ c.deref-2.ensures.value c.deref-3.ensures.value
    c.in_ok-text.ensures.places in
    let keeps = c.in_ok-keeps.keeps in
    let says : IsTrue keeps ↔ KeepsTokens G start tokens kept c.as_bytes.result.now =
    subst (λ (l : List ℕ). IsTrue keeps ↔ KeepsTokens G start tokens l c.as_bytes.result.now) c.deref-4.ensures.value
    (subst (λ (ts : List PlacedToken). IsTrue keeps ↔ KeepsTokens G start ts c.deref-4.result.now c.as_bytes.result.now) (sym c.requires.same)
    (subst (λ (l : List ℕ). IsTrue keeps ↔ KeepsTokens G l (map token_of c.args.tokens.now.items.items) c.deref-4.result.now c.as_bytes.result.now)
    c.start_of-start.ensures c.in_ok-keeps.ensures)) in
    own_print G layout.skips start tokens layout.style _ c.requires.kept own
    (c.in_ok-words.ensures.long ∙ ap (λ (l : List ℕ). length l) c.deref.ensures.value) c.in_ok-words.ensures.utf8 c.as_bytes.result.now
    (c.in_ok-text-2.ensures.text ∙ sym c.as_bytes.ensures.value) (c.as_bytes.ensures.value ∙ text) places c.in_ok-text-2.ensures.cut keeps says
    c.in_ok-text-2.ensures.none
