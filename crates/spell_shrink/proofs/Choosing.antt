-- The spellings that are tried, from a cursor on.
use Rattle.std.proofs.Common.{◌≡◌, ◌∙◌, ◌+◌, ◌-◌, ◌<◌, ◌≤◌, ℕ, zero, suc, List, [], ◌∷◌, Some, None, inl, inr, length, map, drop, take, get_or, refl}
use Rattle.std.proofs.Common.{sym, ap, subst, arith}
use Rattle.std.specs.Prelude.{slice_index_or}
use Rattle.std.specs.List.{between}
use Rattle.std.proofs.lemmas.List.{drop-drop, length-drop}
use Rattle.std.proofs.lemmas.Slice.{between_is}
use denote.Ref.{Bor}
use Rattle.grammar_tree.specs.Lexes.{PlacedToken}
use Rattle.lexer.specs.declared.token.Token.{Token}
use Rattle.lexer.specs.Tokens.{token_of}
use Rattle.reduce_rounds.specs.Trials.{Trials, Try}
use Rattle.spell_shrink.specs.declared.cursor.Cursor.{Cursor}
use Rattle.spell_shrink.specs.KindWords.{AreWordsOf, KindWord, bytes_of_kind, word_bytes_of}
use Rattle.spell_shrink.specs.Words.{shorter_than}
use Rattle.spell_shrink.specs.Respelling.{Respelling, kind_at, number_at, word_at}
use Rattle.spell_shrink.specs.Respelled.{shorter_words, spell_trials, word_trials}
use Rattle.spell_shrink.specs.inner.Changes.{respelling_of_words}
use Rattle.spell_shrink.specs.inner.Cursors.{IsCursor, respelling_at, trials_of, words_at}
use Rattle.spell_shrink.proofs.SpelledWords.{Has}

-- the number of the token at an index, and the kind of a token
pub number_of : (kept : List ℕ) (words : List (Bor (List ℕ))) (k d : ℕ) → k < length kept → length words ≡ length kept
    → number_at (respelling_of_words kept words) k ≡ get_or kept k d
number_of [] words k d less long = absurd (omega (arith, less))
number_of (i ∷ kept) [] k d less long = absurd (omega (arith, long))
number_of (i ∷ kept) (w ∷ words) zero d less long = refl
number_of (i ∷ kept) (w ∷ words) (suc k) d less long = number_of kept words k d (omega (arith, less)) (omega (arith, long))

pub kind_of : (tokens : List Token) (i : ℕ) (d : Token) → i < length tokens → kind_at (map token_of tokens) i ≡ (get_or tokens i d).kind
kind_of [] i d less = absurd (omega (arith, less))
kind_of (t ∷ tokens) zero d less = refl
kind_of (t ∷ tokens) (suc i) d less = kind_of tokens i d (omega (arith, less))

-- the kind of the token at an index
pub kind_in : (tokens : List Token) (kept : List ℕ) (words : List (Bor (List ℕ))) (k number : ℕ) (d : Token) → k < length kept
    → length words ≡ length kept → number ≡ get_or kept k number → number < length tokens
    → kind_at (map token_of tokens) (number_at (respelling_of_words kept words) k) ≡ (get_or tokens number d).kind
kind_in tokens kept words k number d less long number_is below =
    ap (kind_at (map token_of tokens)) (number_of kept words k number less long ∙ sym number_is) ∙ kind_of tokens number d below

pub kind_here : (tokens : List Token) (kept : List ℕ) (words : List (Bor (List ℕ))) (k : ℕ) (d : Token) → k < length kept
    → length words ≡ length kept → get_or kept k 0 < length tokens
    → kind_at (map token_of tokens) (number_at (respelling_of_words kept words) k) ≡ (get_or tokens (get_or kept k 0) d).kind
kind_here tokens kept words k d less long below =
    ap (kind_at (map token_of tokens)) (number_of kept words k 0 less long) ∙ kind_of tokens (get_or kept k 0) d below

-- the spellings of a kind that are shorter, at the same kind and the same size
pub shorter_of : (words : List KindWord) (size found_size kind found_kind : ℕ) → size ≡ found_size → kind ≡ found_kind
    → shorter_than found_size (bytes_of_kind words found_kind) ≡ shorter_than size (bytes_of_kind words kind)
shorter_of words size found_size kind found_kind sizes kinds = λ i. shorter_than (sym sizes i) (bytes_of_kind words (sym kinds i))

-- all of them are the last ones
pub whole_rest : (all part : List (List ℕ)) → part ≡ all → part ≡ drop (length all - length part) all
whole_rest all part is =
    let none : length all - length part ≡ 0 = omega (arith, ap (λ (l : List (List ℕ)). length l) is) in is ∙ sym (ap (λ n. drop n all) none)

-- ---- parts of a list

pub between_past : (xs : List KindWord) (i j : ℕ) → j ≤ i → between i j xs ≡ []
between_past xs i j order = between_is xs i j ∙ dropped xs i j order
  where
    dropped : (xs : List KindWord) (i j : ℕ) → j ≤ i → drop i (take j xs) ≡ []
    dropped xs zero zero order = refl
    dropped xs zero (suc j) order = absurd (omega (arith, order))
    dropped [] (suc i) zero order = refl
    dropped [] (suc i) (suc j) order = refl
    dropped (x ∷ xs) (suc i) zero order = refl
    dropped (x ∷ xs) (suc i) (suc j) order = dropped xs i j (omega (arith, order))

-- the first one of a part, and the others
pub between_first : (xs : List KindWord) (i j : ℕ) → i < j → j ≤ length xs
    → map word_bytes_of (between i j xs) ≡ slice_index_or (map word_bytes_of xs) i [] ∷ map word_bytes_of (between (i + 1) j xs)
between_first xs i j less within =
    let next : i + 1 ≡ suc i = omega arith in
    ap (map word_bytes_of) (between_is xs i j) ∙ first xs i j less within
    ∙ sym (ap (λ (part : List KindWord). slice_index_or (map word_bytes_of xs) i [] ∷ map word_bytes_of part)
    (between_is xs (i + 1) j ∙ ap (λ n. drop n (take j xs)) next))
  where
    first : (xs : List KindWord) (i j : ℕ) → i < j → j ≤ length xs
        → map word_bytes_of (drop i (take j xs)) ≡ slice_index_or (map word_bytes_of xs) i [] ∷ map word_bytes_of (drop (suc i) (take j xs))
    first [] i j less within = absurd (omega (arith, less, within))
    first (x ∷ xs) i zero less within = absurd (omega (arith, less))
    first (x ∷ xs) zero (suc j) less within = refl
    first (x ∷ xs) (suc i) (suc j) less within = first xs i j (omega (arith, less)) (omega (arith, within))

module _ (start : List ℕ) (tokens : List PlacedToken) (words : List KindWord) (r : Respelling) where
  -- no token is left
  pub none_left : (k : ℕ) → length r ≤ k → trials_of start tokens words r None ≡ spell_trials start tokens (length r - k) k r
  none_left k past = let none : length r - k ≡ 0 = omega (arith, past) in sym (ap (λ n. spell_trials start tokens n k r) none)

  -- at a token, with the shorter spellings of its kind
  pub at_token : AreWordsOf start tokens words → (k : ℕ) (some : List (List ℕ)) → k < length r
      → some ≡ shorter_than (length (word_at r k)) (bytes_of_kind words (kind_at tokens (number_at r k)))
      → word_trials (spell_trials start tokens (length r - suc k) (suc k)) r k some ≡ spell_trials start tokens (length r - k) k r
  at_token are k some less is =
      let n : ℕ = length r - suc k in
      let more : length r - k ≡ suc n = omega (arith, less) in
      let next : suc k ≡ k + 1 = omega arith in
      let all : some ≡ shorter_words start tokens r k = is ∙ ap (shorter_than (length (word_at r k))) (are (kind_at tokens (number_at r k))) in
      (λ i. word_trials (spell_trials start tokens n (next i)) r k (all i)) ∙ sym (ap (λ m. spell_trials start tokens m k r) more)

  -- where no spelling is left for a token, it goes on at the next one
  pub none_here : (cursor : Cursor) → cursor.end ≤ cursor.next
      → trials_of start tokens words r (Some cursor) ≡ spell_trials start tokens (length r - suc cursor.token) (suc cursor.token) r
  none_here cursor past =
      ap (λ (part : List KindWord). word_trials (spell_trials start tokens (length r - suc cursor.token) (suc cursor.token)) r cursor.token
      (map word_bytes_of part)) (between_past words cursor.next cursor.end past)

  -- so it goes on at the next token
  pub next_tried : (cursor : Cursor) → cursor.end ≤ cursor.next → (from : Trials Respelling)
      → from ≡ spell_trials start tokens (length r - (cursor.token + 1)) (cursor.token + 1) r → from ≡ trials_of start tokens words r (Some cursor)
  next_tried cursor past from is =
      let next : cursor.token + 1 ≡ suc cursor.token = omega arith in
      is ∙ (λ i. spell_trials start tokens (length r - next i) (next i) r) ∙ sym (none_here cursor past)

-- ---- one spelling after another

module _ (tokens : List PlacedToken) (words : List KindWord) (r : Respelling) (cursor : Cursor) (is : IsCursor tokens words r cursor)
    (some : cursor.next < cursor.end) where
  -- the spellings that are shorter, of the token's kind
  abbrev all_shorter : List (List ℕ)
  all_shorter = shorter_than (length (word_at r cursor.token)) (bytes_of_kind words (kind_at tokens (number_at r cursor.token)))

  abbrev next_cursor : Cursor
  next_cursor = record cursor { next = cursor.next + 1 }

  abbrev here : List ℕ
  here = slice_index_or (map word_bytes_of words) cursor.next []

  first : words_at words cursor ≡ here ∷ words_at words next_cursor
  first = between_first words cursor.next cursor.end some is.within

  count : length (words_at words cursor) ≡ suc (length (words_at words next_cursor))
  count = ap (λ (l : List (List ℕ)). length l) first

  last_ones : (all part : List (List ℕ)) (w : List ℕ) (later : List (List ℕ)) → part ≡ drop (length all - length part) all → part ≡ w ∷ later
      → later ≡ drop (length all - length later) all
  last_ones all part w later is_last split =
      let n : ℕ = length all - length part in
      let long : length part ≡ suc (length later) = ap (λ (l : List (List ℕ)). length l) split in
      let few : length part ≡ length all - n = ap (λ (l : List (List ℕ)). length l) is_last ∙ length-drop n all in
      let next : length all - length later ≡ n + 1 = omega (arith, long, few) in
      let tail : later ≡ drop 1 (drop n all) = ap (drop 1) (sym split ∙ is_last) in
      tail ∙ drop-drop 1 n all ∙ sym (ap (λ m. drop m all) next)

  -- a no goes on at the next spelling
  pub after_is : IsCursor tokens words r next_cursor
  after_is = record {
    token = is.token;
    rises = omega (arith, some);
    within = is.within;
    rest = last_ones all_shorter (words_at words cursor) here (words_at words next_cursor) is.rest first;
  }

  -- what is tried, and what comes after it at yes and at no
  pub tries : (start : List ℕ) → trials_of start tokens words r (Some cursor)
      ≡ Try (respelling_at words r cursor)
      (spell_trials start tokens (length r - suc cursor.token) (suc cursor.token) (respelling_at words r cursor))
      (trials_of start tokens words r (Some next_cursor))
  tries start = ap (word_trials (spell_trials start tokens (length r - suc cursor.token) (suc cursor.token)) r cursor.token) first

  -- the spelling is one of the shorter ones of the kind
  pub is_among : Has here all_shorter
  is_among = from_drop (length all_shorter - length (words_at words cursor)) all_shorter here
      (subst (λ (l : List (List ℕ)). Has here l) (sym first ∙ is.rest) (inl refl))
    where
      from_drop : (n : ℕ) (all : List (List ℕ)) (w : List ℕ) → Has w (drop n all) → Has w all
      from_drop zero all w has = has
      from_drop (suc n) [] w has = absurd has
      from_drop (suc n) (x ∷ all) w has = inr (from_drop n all w has)
