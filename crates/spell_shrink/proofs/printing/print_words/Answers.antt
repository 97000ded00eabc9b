use Rattle.std.proofs.Common.{◌≡◌, ◌∙◌, ◌+◌, ◌<◌, ◌≤◌, ◌++◌, ℕ, [], ◌∷◌, None, Option, Some, List, length, map, get_or}
use Rattle.std.proofs.Common.{string_bytes, take, ap, refl, rules, subst}
use Rattle.std.proofs.Common.{sym, arith}
use Rattle.std.proofs.lemmas.List.{get_or_default, length-map, take_all}
use denote.Ref.{Bor}
use Rattle.grammar_tree.specs.Lexes.{PlacedToken}
use Rattle.lexer.specs.Tokens.{token_of}
use Rattle.token_print.specs.declared.style.Skips.{Skips}
use Rattle.token_print.specs.declared.style.Style.{Style}
use Rattle.token_print.specs.Printed.{after, before}
use Rattle.spell_shrink.specs.Respelling.{Respelling, SpelledToken}
use Rattle.spell_shrink.specs.inner.Changes.{respelling_of_words, word_offsets}
use Rattle.spell_shrink.proofs.WordPrinting.{last_of, last_push, no_offsets, other_text, printed_push, respelling_next, text_up_to, whole_text, with_after}
use Rattle.spell_shrink.proofs.printing.print_words.Goals as goal

-- what the loop knows of the tokens so far
abbrev IsUpTo : Skips → List ℕ → List PlacedToken → Style → Respelling → List ℕ → List ℕ → Option ℕ → Type 0
IsUpTo skips start tokens style r text places last =
    (text ≡ text_up_to skips start tokens style None r) × (places ≡ word_offsets skips start tokens style r)
    × (last ≡ last_of skips start tokens style None r)

one_more : (skips : Skips) (start : List ℕ) (tokens : List PlacedToken) (style : Style) (kept : List ℕ) (words : List (Bor (List ℕ))) (k : ℕ)
    (w : Bor (List ℕ)) → k < length kept → k < length words → (text gapped new places new_places : List ℕ) (place : ℕ) (last : Option ℕ)
    → IsUpTo skips start tokens style (respelling_of_words (take k kept) (take k words)) text places last
    → gapped ≡ text ++ before skips start tokens style last (get_or kept k 0) → new ≡ gapped ++ (get_or words k w).now
    → new_places ≡ places ++ place ∷ [] → place ≡ length gapped
    → IsUpTo skips start tokens style (respelling_of_words (take (k + 1) kept) (take (k + 1) words)) new new_places (Some (get_or kept k 0))
one_more skips start tokens style kept words k w less words_less text gapped new places new_places place last upto gapped_is new_is places_is place_is =
    let taken : Respelling = respelling_of_words (take k kept) (take k words) in
    let i : ℕ = get_or kept k 0 in
    let v : Bor (List ℕ) = get_or words k w in
    let p : SpelledToken = record { number = i; word = v.now } in
    let more = respelling_next kept words k i v less words_less (get_or_default kept k i 0 less) (get_or_default words k v w words_less) in
    let gap = gapped_is ∙ ap (λ (l : Option ℕ). text ++ before skips start tokens style l i) upto.2 in
    let pushed = printed_push skips start tokens style taken p text gapped new places new_places place upto.0 gap new_is upto.1 places_is place_is in
    subst (λ (r : Respelling). IsUpTo skips start tokens style r new new_places (Some i)) (sym more)
    (pushed.0, pushed.1, sym (last_push skips start tokens style None taken p))

all_words : (kept : List ℕ) (words : List (Bor (List ℕ))) (k : ℕ) → length kept ≤ k → length words ≡ length kept
    → respelling_of_words (take k kept) (take k words) ≡ respelling_of_words kept words
all_words kept words k past long =
    ap (λ (l : List ℕ). respelling_of_words l (take k words)) (take_all k kept past)
    ∙ ap (respelling_of_words kept) (take_all k words (omega (arith, past, long)))

pub printed_before-requires-clause-there : goal.printed_before-requires-clause-there
printed_before-requires-clause-there c =
    let below = c.requires.kept.there c.loop-index.index 0 c.loop-index-test.true in
    omega (arith, below, length-map c.args.layout.tokens.now token_of)

pub loop-index-init : goal.loop-index-init
loop-index-init c = (search rules, search rules, refl)

pub loop-index-preserved : goal.loop-index-preserved
loop-index-preserved c =
    let tokens = map token_of c.args.layout.tokens.now in
    let place : c.len.result ≡ length (string_bytes c.push_str.new.self) = omega (arith, c.len.ensures, c.push_str.new.self.bytes.ok) in
    let less : c.loop-index.index < length c.args.words.now = omega (arith, c.requires.words, c.loop-index-test.true) in
    one_more c.args.layout.skips c.args.layout.start.now tokens c.args.layout.style c.args.kept.now c.args.words.now c.loop-index.index _
    c.loop-index-test.true less (string_bytes c.loop-index.text) (string_bytes c.push_str.new.self) (string_bytes c.push_str-in-loop-index.new.self)
    c.loop-index.places.items c.push.new.self.items c.len.result c.loop-index.last c.loop-index.invariant
    (c.in_ok-push_str.ensures.bytes ∙ ap (λ (l : List ℕ). string_bytes c.loop-index.text ++ l) c.printed_before.ensures)
    c.in_ok-push_str-2.ensures.bytes c.in_ok-push.ensures.items place

-- all of them, and what comes after
pub returns-clause-text : goal.returns-clause-text
returns-clause-text c =
    let skips = c.args.layout.skips in
    let start = c.args.layout.start.now in
    let tokens = map token_of c.args.layout.tokens.now in
    let style = c.args.layout.style in
    let all = all_words c.args.kept.now c.args.words.now c.loop-index.index c.loop-index-test.false c.requires.words in
    let r = respelling_of_words c.args.kept.now c.args.words.now in
    let known = c.loop-index.invariant in
    let last = c.after.ensures ∙ ap (λ l. after skips start tokens style l) known.2 in
    c.in_ok-push_str-3.ensures.bytes ∙ (λ i. known.0 i ++ last i)
    ∙ (λ i. text_up_to skips start tokens style None (all i) ++ after skips start tokens style (last_of skips start tokens style None (all i)))
    ∙ with_after skips start tokens style None r ∙ sym (other_text skips start tokens style r
    (λ none. c.is_whole.ensures.other c.if-is_whole.false (sym (length-map c.args.layout.tokens.now token_of) ∙ none)))

pub returns-clause-places : goal.returns-clause-places
returns-clause-places c =
    c.loop-index.invariant.1 ∙ ap (word_offsets c.args.layout.skips c.args.layout.start.now (map token_of c.args.layout.tokens.now) c.args.layout.style)
    (all_words c.args.kept.now c.args.words.now c.loop-index.index c.loop-index-test.false c.requires.words)

-- a start without tokens is printed whole
pub returns-then-is_whole-clause-text : goal.returns-then-is_whole-clause-text
returns-then-is_whole-clause-text c =
    c.in_ok-text.ensures.ok
    ∙ sym (whole_text c.args.layout.skips c.args.layout.start.now (map token_of c.args.layout.tokens.now) c.args.layout.style
    (respelling_of_words c.args.kept.now c.args.words.now)
    (length-map c.args.layout.tokens.now token_of ∙ (c.is_whole.ensures.whole c.if-is_whole.true).0) (c.is_whole.ensures.whole c.if-is_whole.true).1)

pub returns-then-is_whole-clause-places : goal.returns-then-is_whole-clause-places
returns-then-is_whole-clause-places c =
    c.new-places.ensures.items
    ∙ sym (no_offsets c.args.layout.skips c.args.layout.start.now (map token_of c.args.layout.tokens.now) c.args.layout.style c.args.kept.now
    c.args.words.now (length-map c.args.layout.tokens.now token_of ∙ (c.is_whole.ensures.whole c.if-is_whole.true).0) c.requires.kept.there)
