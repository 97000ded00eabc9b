use Rattle.std.proofs.Common.{◌≡◌, ◌∙◌, ◌++◌, ℕ, [], ◌∷◌, All, List, length, map, take, refl, ap, subst, sym, arith}
use Rattle.std.specs.Str.{IsUtf8}
use Rattle.std.proofs.lemmas.List.{length-map, length_push, take_all, take_more}
use Rattle.std.proofs.lemmas.List.Elements.{All-nil, All-push}
use denote.Ref.{Bor}
use Rattle.grammar_tree.specs.Lexes.{PlacedToken}
use Rattle.lexer.specs.Tokens.{token_of}
use Rattle.token_print.specs.Spelling.{spelling_at}
use Rattle.spell_shrink.specs.Respelling.{own_spellings}
use Rattle.spell_shrink.specs.inner.Changes.{respelling_of_words}
use Rattle.spell_shrink.proofs.WordPrinting.{own_push, respelling_pushed}
use Rattle.spell_shrink.proofs.printing.own_words.Goals as goal

-- a spelling is of UTF-8
abbrev IsText : Bor (List ℕ) → Type 0
IsText w = IsUtf8 w.now

-- what the loop knows, after so many tokens
abbrev Knows : List ℕ → List PlacedToken → List ℕ → List (Bor (List ℕ)) → Type 0
Knows start tokens taken words =
    (respelling_of_words taken words ≡ own_spellings start tokens taken) × (length words ≡ length taken) × All IsText words

one_more : (start : List ℕ) (tokens : List PlacedToken) (taken more : List ℕ) (words new : List (Bor (List ℕ))) (i : ℕ) (w : Bor (List ℕ))
    → more ≡ taken ++ i ∷ [] → new ≡ words ++ w ∷ [] → w.now ≡ spelling_at start tokens i → IsText w → Knows start tokens taken words
    → Knows start tokens more new
one_more start tokens taken more words new i w more_is new_is is text knows =
    let own : respelling_of_words (taken ++ i ∷ []) (words ++ w ∷ []) ≡ own_spellings start tokens (taken ++ i ∷ []) =
    respelling_pushed taken words i w knows.1 ∙ (λ t. knows.0 t ++ record { number = i; word = is t } ∷ []) ∙ sym (own_push start tokens taken i) in
    let long : length (words ++ w ∷ []) ≡ length (taken ++ i ∷ []) = omega (arith, knows.1, length_push words w, length_push taken i) in
    subst (λ (l : List ℕ). Knows start tokens l new) (sym more_is)
    (subst (λ (l : List (Bor (List ℕ))). Knows start tokens (taken ++ i ∷ []) l) (sym new_is) (own, long, All-push IsText words w knows.2 text))

pub spelling-requires-clause-index : goal.spelling-requires-clause-index
spelling-requires-clause-index c =
    let below = c.requires.kept.there c.loop-number.number-index 0 c.loop-number-test.true in
    omega (arith, below, length-map c.args.layout.tokens.now token_of)

pub loop-number-init : goal.loop-number-init
loop-number-init c =
    subst (Knows c.args.layout.start.now (map token_of c.args.layout.tokens.now) []) (sym c.new-words.ensures.items) (refl, refl, All-nil IsText)

pub loop-number-preserved : goal.loop-number-preserved
loop-number-preserved c =
    one_more c.args.layout.start.now (map token_of c.args.layout.tokens.now) (take c.loop-number.number-index c.args.kept.now) _ c.loop-number.words.items
    c.push.new.self.items _ c.spelling.result (take_more c.args.kept.now c.loop-number.number-index _ c.loop-number-test.true) c.in_ok-push.ensures.items
    c.spelling.ensures c.spelling.utf8 c.loop-number.invariant

pub returns-clause-own : goal.returns-clause-own
returns-clause-own c =
    let all = take_all c.loop-number.number-index c.args.kept.now c.loop-number-test.false in
    (subst (λ (l : List ℕ). Knows c.args.layout.start.now (map token_of c.args.layout.tokens.now) l c.loop-number.words.items) all c.loop-number.invariant).0

pub returns-clause-long : goal.returns-clause-long
returns-clause-long c =
    c.loop-number.invariant.1 ∙ ap length (take_all c.loop-number.number-index c.args.kept.now c.loop-number-test.false)

pub returns-clause-utf8 : goal.returns-clause-utf8
returns-clause-utf8 c = c.loop-number.invariant.2
