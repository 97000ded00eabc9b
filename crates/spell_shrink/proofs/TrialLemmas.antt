-- What is tried at a cursor: its text, and whether that may be asked.
use Rattle.std.proofs.Common.{◌≡◌, ◌∙◌, ◌+◌, ◌&&◌, ◌<◌, ◌≤◌, ◌↔◌, ℕ, Bool, true, false, List, [], ◌∷◌, All, Option, Some, None, length, map, get_or}
use Rattle.std.proofs.Common.{◌^◌, refl, sym, ap, subst, arith, true≢false, string_bytes}
use Rattle.std.proofs.Math.Logic.{∥∥₁_elim}
use Rattle.std.proofs.Props.{props}
use Rattle.std.specs.Prelude.{IfSome, IsTrue, slice_get, slice_index_or}
use Rattle.std.specs.Str.{IsCharBoundary, IsUtf8}
use Rattle.std.proofs.lemmas.List.Elements.{All-cons, All-head, All-nil, All-tail}
use Rattle.std.proofs.lemmas.Option.{get_or_from_slice_get}
use denote.Ref.{Bor}
use Rattle.grammar_tree.specs.Written.{WrittenGrammar}
use Rattle.grammar_tree.specs.Faults.{IsWellFormed}
use Rattle.grammar_tree.specs.Lexes.{Piece, PlacedToken}
use Rattle.lexer.specs.Tokens.{token_of}
use Rattle.token_print.specs.LexingLaws.{GapsAreSlices}
use Rattle.token_print.specs.Readings.{SpelledAreFound, spells}
use Rattle.token_print.specs.Spells.{SpellsTokens}
use Rattle.token_print.specs.declared.style.Skips.{Skips}
use Rattle.token_print.specs.declared.style.Style.{Style}
use Rattle.reduce_step.specs.Limits.{text_limit}
use Rattle.reduce_rounds.specs.Trials.{tried_state}
use Rattle.reduce_trees_mode.specs.Input.{IsInput, TreeInput}
use Rattle.reduce_trees_mode.specs.Laws.{TextsAreNoLonger}
use Rattle.reduce_trees_mode.specs.Listed.{skips_of}
use Rattle.spell_shrink.specs.declared.change.Change.{Change}
use Rattle.spell_shrink.specs.declared.cursor.Cursor.{Cursor}
use Rattle.spell_shrink.specs.declared.reading.Reread.{Reread}
use Rattle.spell_shrink.specs.declared.spell_step.Trial.{Trial}
use Rattle.spell_shrink.specs.declared.spelled.Spelled.{Spelled}
use Rattle.spell_shrink.specs.KindWords.{AreWordsOf, KindWord, word_bytes_of}
use Rattle.spell_shrink.specs.Words.{shorter_than}
use Rattle.spell_shrink.specs.Respelling.{Respelling, kind_at, number_at, numbers_of, with_word_at, word_at}
use Rattle.spell_shrink.specs.Respelled.{shorter_words}
use Rattle.spell_shrink.specs.SpellMode.{IsRespellingOf}
use Rattle.spell_shrink.specs.Texts.{is_listed_respelling, respelled_after, respelled_pieces, respelled_text, text_of_respelling}
use Rattle.spell_shrink.specs.inner.Changes.{changed, respelling_of_words, word_offsets}
use Rattle.spell_shrink.specs.inner.Cursors.{IsCursor, respelling_at}
use Rattle.spell_shrink.specs.inner.Fields.{IsTried, rest_of_trial}
use Rattle.spell_shrink.specs.inner.Rereads.{IsReread}
use Rattle.spell_shrink.specs.inner.Spelled.{IsPrintOf, respelling_of}
use Rattle.spell_shrink.proofs.Boundaries as boundaries
use Rattle.spell_shrink.proofs.Boundaries.{IsSpelling}
use Rattle.spell_shrink.proofs.Changed.{same_numbers}
use Rattle.spell_shrink.proofs.ChangedTexts.{changed_text, offsets_long}
use Rattle.spell_shrink.proofs.Choosing.{is_among}
use Rattle.spell_shrink.proofs.Ends.{no_longer}
use Rattle.spell_shrink.proofs.Lawful.{stays}
use Rattle.spell_shrink.proofs.Neighbours.{shorter_word}
use Rattle.spell_shrink.proofs.WordPrinting.{respelling_long}
use Rattle.spell_shrink.proofs.SpelledWords.{Has}
use Rattle.spell_shrink.proofs.StepLemmas.{has_tokens}
use Rattle.spell_shrink.proofs.Trying.{is_reread}

-- ---- whether a text is cut into tokens, as it is read and as it is said

-- what is read of a text is what decides it
pub reads_as : SpelledAreFound → (G : WrittenGrammar) (start : ℕ) → IsWellFormed G start → (text : List ℕ) (spelled : List Piece) (keeps : Bool)
    → IsTrue keeps ↔ ∥ SpellsTokens G text spelled ∥₁ → keeps ≡ spells G text spelled
reads_as law G start formed text spelled keeps says = by keeps (spells G text spelled) says (law G start formed text spelled)
  where
    by : (keeps found : Bool) → IsTrue keeps ↔ ∥ SpellsTokens G text spelled ∥₁ → (found ≡ true) ↔ SpellsTokens G text spelled → keeps ≡ found
    by true true says finds = refl
    by false false says finds = refl
    by true false says finds = ∥∥₁_elim (says.0 refl) (hlevel props) (λ it. absurd (true≢false (sym (finds.1 it))))
    by false true says finds = absurd (true≢false (sym (says.1 ∣ finds.0 refl ∣₁)))

-- ---- the text before a change

-- where there are tokens, the text of a respelling is what is printed of them
pub as_after : (skips : Skips) (start : List ℕ) (tokens : List PlacedToken) (style : Style) (r : Respelling) → 0 < length tokens
    → respelled_text skips start tokens style r ≡ respelled_after skips start tokens style None r
as_after skips start tokens Style.Squeezed r some = refl
as_after skips start [] Style.AsWas r some = absurd (omega (arith, some))
as_after skips start (t ∷ tokens) Style.AsWas r some = refl

-- each token with its spelling is there, in UTF-8
pub all_spelling : (tokens : List PlacedToken) (kept : List ℕ) (words : List (Bor (List ℕ))) → All (λ i. i < length tokens) kept
    → All (λ (w : Bor (List ℕ)). IsUtf8 w.now) words → All (IsSpelling tokens) (respelling_of_words kept words)
all_spelling tokens [] words there utf8 = All-nil (IsSpelling tokens)
all_spelling tokens (i ∷ kept) [] there utf8 = All-nil (IsSpelling tokens)
all_spelling tokens (i ∷ kept) (w ∷ words) there utf8 =
    All-cons (IsSpelling tokens) (record { number = i; word = w.now }) (respelling_of_words kept words)
    (All-head (λ k. k < length tokens) i kept there, All-head (λ (v : Bor (List ℕ)). IsUtf8 v.now) w words utf8)
    (all_spelling tokens kept words (All-tail (λ k. k < length tokens) i kept there) (All-tail (λ (v : Bor (List ℕ)). IsUtf8 v.now) w words utf8))

-- there is a place for each kept token
pub places_long : (G : WrittenGrammar) (skips : Skips) (start : List ℕ) (tokens : List PlacedToken) (style : Style) (s : Spelled)
    → IsPrintOf G skips start tokens style s → length s.places.items ≡ length s.kept.items
places_long G skips start tokens style s print =
    ap (λ (l : List ℕ). length l) print.places_are ∙ offsets_long skips start tokens style 0 None (respelling_of s)
    ∙ respelling_long s.kept.items s.words.items print.long

-- the numbers of kept tokens with their spellings
kept_numbers : (kept : List ℕ) (words : List (Bor (List ℕ))) → length words ≡ length kept → numbers_of (respelling_of_words kept words) ≡ kept
kept_numbers [] words long = refl
kept_numbers (i ∷ kept) [] long = absurd (omega (arith, long))
kept_numbers (i ∷ kept) (w ∷ words) long = ap (λ (l : List ℕ). i ∷ l) (kept_numbers kept words (omega (arith, long)))

-- the spelling that is found at an index
pub word_found : (words other : List KindWord) (k : ℕ) (word found : List ℕ) → other ≡ words → slice_get (map word_bytes_of other) k ≡ Some word
    → found ≡ word → found ≡ slice_index_or (map word_bytes_of words) k []
word_found words other k word found same at is =
    let here = subst (λ (l : List KindWord). slice_get (map word_bytes_of l) k ≡ Some word) same at in
    is ∙ sym (get_or_from_slice_get (map word_bytes_of words) k word [] here)

-- ---- what is tried at a cursor

module _ (input : TreeInput) (words : List KindWord) (are : AreWordsOf input.start input.tokens words) (style : Style) (s : Spelled)
    (print : IsPrintOf input.grammar.grammar (skips_of input) input.start input.tokens style s) (of : IsRespellingOf input style (respelling_of s))
    (cursor : Cursor) (at : IsCursor input.tokens words (respelling_of s) cursor) (some : cursor.next < cursor.end) where
  abbrev r : Respelling
  r = respelling_of s

  abbrev word : List ℕ
  word = slice_index_or (map word_bytes_of words) cursor.next []

  abbrev text : List ℕ
  text = string_bytes s.text.text

  has_word : Has word (shorter_words input.start input.tokens r cursor.token)
  has_word =
      subst (λ (l : List (List ℕ)). Has word (shorter_than (length (word_at r cursor.token)) l)) (are (kind_at input.tokens (number_at r cursor.token)))
      (is_among input.tokens words r cursor at some)

  -- the spelling has fewer bytes
  pub fewer : length (slice_index_or (map word_bytes_of words) cursor.next []) < length (word_at (respelling_of s) cursor.token)
  fewer = shorter_word input.start input.tokens r cursor.token word has_word

  -- it is a respelling of the same tokens
  pub stays_of : IsRespellingOf input style (respelling_at words (respelling_of s) cursor)
  stays_of = stays input style r cursor.token word of has_word

  -- so its text isn't longer than the start
  pub short_text : TextsAreNoLonger → IsInput input
      → length (text_of_respelling input style (respelling_at words (respelling_of s) cursor)) ≤ length input.start
  short_text short is = no_longer short input is style (respelling_at words r cursor) stays_of

  -- and what is there isn't either
  pub short_before : TextsAreNoLonger → IsInput input → length (string_bytes s.text.text) ≤ length input.start
  short_before short is = omega (arith, ap (λ (l : List ℕ). length l) print.text_is, no_longer short input is style r of)

  some_token : 0 < length input.tokens
  some_token =
      let long = respelling_long s.kept.items s.words.items print.long in
      let below = print.kept.there cursor.token 0 (omega (arith, at.token, long)) in
      omega (arith, below)

  module _ (change : Change) (from : change.from ≡ get_or s.places.items cursor.token 0)
      (to : change.to ≡ get_or s.places.items cursor.token 0 + length (word_at (respelling_of s) cursor.token)) where
    from_is : change.from ≡ get_or (word_offsets (skips_of input) input.start input.tokens style r) cursor.token 0
    from_is = from ∙ ap (λ (l : List ℕ). get_or l cursor.token 0) print.places_are

    to_is : change.to ≡ change.from + length (word_at r cursor.token)
    to_is = omega (arith, from, to)

    -- the changed text is its text
    pub text_at : change.word.now ≡ slice_index_or (map word_bytes_of words) cursor.next [] → (new : List ℕ)
        → new ≡ changed (string_bytes s.text.text) change → new ≡ text_of_respelling input style (respelling_at words (respelling_of s) cursor)
    text_at same new is =
        is ∙ ap (λ (l : List ℕ). changed l change) print.text_is
        ∙ changed_text (skips_of input) input.start input.tokens style r cursor.token change some_token at.token from_is to_is
        ∙ ap (λ (w : List ℕ). text_of_respelling input style (with_word_at r cursor.token w)) same

    module _ (slices : GapsAreSlices) (is : IsInput input) where
      text_is : text ≡ respelled_after (skips_of input) input.start input.tokens style None r
      text_is = print.text_is ∙ as_after (skips_of input) input.start input.tokens style r some_token

      spelling : All (IsSpelling input.tokens) r
      spelling = all_spelling input.tokens s.kept.items s.words.items print.kept.there print.utf8

      -- the spelling begins and ends between characters
      pub starts_at : IsCharBoundary (string_bytes s.text.text) change.from
      starts_at =
          boundaries.starts input.grammar.grammar slices (skips_of input) input.start is.utf8 input.tokens is.has_tokens style r cursor.token at.token spelling
          text text_is change.from from_is

      pub ends_at : IsCharBoundary (string_bytes s.text.text) change.to
      ends_at =
          subst (IsCharBoundary text) (sym to_is)
          (boundaries.ends input.grammar.grammar slices (skips_of input) input.start is.utf8 input.tokens is.has_tokens style r cursor.token at.token spelling
          text text_is change.from from_is)

    -- so it is read as a changed text
    pub reread_at : GapsAreSlices → TextsAreNoLonger → IsInput input → length input.start ≤ text_limit
        → change.word.now ≡ slice_index_or (map word_bytes_of words) cursor.next [] → IsUtf8 change.word.now → (reread : Reread) → reread.change ≡ change
        → reread.before.now ≡ s.text → reread.expected.kept.now ≡ s.kept.items → reread.expected.words.now ≡ s.words.items
        → map token_of reread.expected.tokens.now ≡ input.tokens → reread.expected.word.now ≡ change.word.now → reread.expected.index ≡ cursor.token
        → IsUtf8 reread.text.now → reread.text.now ≡ changed (string_bytes s.text.text) change → IsReread input.grammar.grammar reread
    reread_at slices short is limit same word_utf8 reread change_is before kept words_are tokens word_is index utf8 is_changed =
        let before_short = short_before short is in
        let from_as : reread.change.from ≡ change.from = ap (λ (d : Change). d.from) change_is in
        let to_as : reread.change.to ≡ change.to = ap (λ (d : Change). d.to) change_is in
        let here : length (word_at r reread.expected.index) ≡ length (word_at r cursor.token) = ap (λ n. length (word_at r n)) index in
        let word_as : reread.change.word.now ≡ change.word.now = ap (λ (d : Change). d.word.now) change_is in
        let size : length reread.change.word.now ≡ length word = ap (λ (l : List ℕ). length l) (word_as ∙ same) in
        is_reread input.grammar.grammar (skips_of input) input.start input.tokens style s print reread (record {
          before = before;
          kept = kept;
          words = words_are;
          tokens_are = tokens;
          word = word_is ∙ sym word_as;
          index = subst (λ n. n < length r) (sym index) at.token;
          to = omega (arith, from_as, to_as, to_is, here);
          shorter = omega (arith, fewer, size, here);
          utf8 = subst IsUtf8 (sym word_as) word_utf8;
          text = is_changed ∙ ap (changed text) (sym change_is);
        }) utf8 (omega (arith, before_short, limit)) (subst (IsCharBoundary text) (sym from_as) (starts_at slices is))
        (subst (IsCharBoundary text) (sym to_as) (ends_at slices is))

  -- where the spelling ends is an offset
  pub fits_at : GapsAreSlices → TextsAreNoLonger → IsInput input → length input.start ≤ text_limit → Bor (List ℕ)
      → get_or s.places.items cursor.token 0 + length (word_at (respelling_of s) cursor.token) < 2 ^ 64
  fits_at slices short is limit w =
      let from : ℕ = get_or s.places.items cursor.token 0 in
      let change : Change = record { from = from; to = from + length (word_at (respelling_of s) cursor.token); word = w } in
      omega (arith, (ends_at change refl refl slices is).0, short_before short is, limit)

  -- and it may be asked where it is cut into its tokens and is admitted
  pub listed_at : (tokens : List PlacedToken) (kept : List ℕ) (kept_words : List (Bor (List ℕ))) (found new : List ℕ) (listed : Bool)
      → tokens ≡ input.tokens → kept ≡ s.kept.items → kept_words ≡ s.words.items → found ≡ slice_index_or (map word_bytes_of words) cursor.next []
      → new ≡ text_of_respelling input style (respelling_at words (respelling_of s) cursor)
      → listed ≡ (spells input.grammar.grammar new (respelled_pieces tokens (with_word_at (respelling_of_words kept kept_words) cursor.token found))
      && input.admits kept new)
      → listed ≡ is_listed_respelling input style (respelling_at words (respelling_of s) cursor)
  listed_at tokens kept kept_words found new listed tokens_are kept_are words_are same text_as says =
      let numbers : kept ≡ numbers_of (respelling_at words r cursor) =
      kept_are ∙ sym (same_numbers r cursor.token word ∙ kept_numbers s.kept.items s.words.items print.long) in
      says
      ∙ (λ i. spells input.grammar.grammar (text_as i)
      (respelled_pieces (tokens_are i) (with_word_at (respelling_of_words (kept_are i) (words_are i)) cursor.token (same i)))
      && input.admits (numbers i) (text_as i))

-- how many tokens what is tried has
pub units_are : (input : TreeInput) (words : List KindWord) (style : Style) (r : Respelling) (trial : Option Trial)
    → IsTried input words style r trial → (n : ℕ) → n ≡ length r → IfSome (tried_state (rest_of_trial input words r trial)) (λ other. n ≡ length other)
units_are input words style r None tried n is = tt
units_are input words style r (Some trial) tried n is = has_tokens input words style r trial tried n is
