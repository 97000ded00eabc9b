-- The spellings of one token after another.
use Rattle.std.proofs.Common.{◌≡◌, ◌∙◌, ◌+◌, ◌<◌, ◌++◌, ℕ, zero, suc, List, [], ◌∷◌, All, Some, length, map, take, get_or, sym, ap, subst, arith}
use Rattle.std.specs.Prelude.{slice_get}
use Rattle.std.proofs.lemmas.List.{map_push, take_more}
use Rattle.std.proofs.lemmas.List.Elements.{All-head, All-tail}
use Rattle.grammar_tree.specs.Lexes.{PlacedToken}
use Rattle.lexer.specs.declared.token.Token.{Token}
use Rattle.lexer.specs.Tokens.{token_of}
use Rattle.token_print.specs.LexingLaws.{IsSlice}
use Rattle.spell_shrink.specs.declared.words.Word.{Word}
use Rattle.spell_shrink.specs.KindWords.{KindWord, kind_word, word_bytes_of}
use Rattle.spell_shrink.proofs.SortedWords.{spelled_kind}

-- a token's bytes are a slice of the start
slice_at : (start : List ℕ) (tokens : List Token) → All (λ (t : PlacedToken). IsSlice start t.start t.end) (map token_of tokens) → (k : ℕ) (d : Token)
    → k < length tokens → IsSlice start (get_or tokens k d).start (get_or tokens k d).end
slice_at start [] all k d less = absurd (omega (arith, less))
slice_at start (t ∷ tokens) all zero d less = All-head (λ (u : PlacedToken). IsSlice start u.start u.end) (token_of t) (map token_of tokens) all
slice_at start (t ∷ tokens) all (suc k) d less =
    slice_at start tokens (All-tail (λ (u : PlacedToken). IsSlice start u.start u.end) (token_of t) (map token_of tokens) all) k d (omega (arith, less))

-- the same of tokens that are lent
pub lent_slice : (start : List ℕ) (tokens lent : List Token) → lent ≡ tokens → All (λ (t : PlacedToken). IsSlice start t.start t.end) (map token_of tokens)
    → (k : ℕ) (d : Token) → k < length lent → IsSlice start (get_or lent k d).start (get_or lent k d).end
lent_slice start tokens lent same all k d less =
    slice_at start lent (subst (λ (l : List Token). All (λ (t : PlacedToken). IsSlice start t.start t.end) (map token_of l)) (sym same) all) k d less

-- the kinds and spellings of tokens
abbrev pub words_up_to : List ℕ → List Token → List KindWord
words_up_to start tokens = map (spelled_kind start) (map token_of tokens)

pub one_more : (start : List ℕ) (tokens lent : List Token) → lent ≡ tokens → (k : ℕ) (d : Token) (items new : List Word) (w : Word) → k < length lent
    → new ≡ items ++ w ∷ [] → map kind_word items ≡ words_up_to start (take k tokens) → kind_word w ≡ spelled_kind start (token_of (get_or lent k d))
    → map kind_word new ≡ words_up_to start (take (k + 1) tokens)
one_more start tokens lent same k d items new w within pushed so_far spelled =
    let t = get_or tokens k d in
    let less : k < length tokens = subst (λ (l : List Token). k < length l) same within in
    let is : kind_word w ≡ spelled_kind start (token_of t) =
    spelled ∙ ap (λ (l : List Token). spelled_kind start (token_of (get_or l k d))) same in
    let all : words_up_to start (take (k + 1) tokens) ≡ words_up_to start (take k tokens) ++ spelled_kind start (token_of t) ∷ [] =
    ap (words_up_to start) (take_more tokens k d less)
    ∙ ap (map (spelled_kind start)) (map_push token_of (take k tokens) t)
    ∙ map_push (spelled_kind start) (map token_of (take k tokens)) (token_of t) in
    ap (map kind_word) pushed ∙ map_push kind_word items w ∙ (λ i. so_far i ++ is i ∷ []) ∙ sym all

-- the bytes of the word at an index
pub word_at : (items : List Word) (k : ℕ) (w : Word) → k < length items → w ≡ get_or items k w
    → slice_get (map word_bytes_of (map kind_word items)) k ≡ Some w.text.now
word_at [] k w less is = absurd (omega (arith, less))
word_at (x ∷ items) zero w less is = ap (λ (v : Word). Some v.text.now) (sym is)
word_at (x ∷ items) (suc k) w less is = word_at items k w (omega (arith, less)) is
