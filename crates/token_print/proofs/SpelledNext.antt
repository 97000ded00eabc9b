-- The kinds and spellings of the next kept tokens, and of tokens of the start that follow one another.
use Rattle.std.proofs.Common.{◌≡◌, ◌<◌, ◌≤◌, ◌+◌, ◌-◌, ◌↔◌, ◌⊎◌, inl, inr, ℕ, zero, suc, Bool, true, false, cond, List, [], ◌∷◌, ◌++◌, Some, map, take, drop}
use Rattle.std.proofs.Common.{slice_get, slice_index, slice_index_or, length, refl, sym, ap, ap₂, ◌∙◌, subst, arith, length-append}
use Rattle.std.specs.Prelude.{nat_le, nat_lt, ◌&&◌}
use Rattle.std.specs.List.{All, between, cons_option, filter, filter_map, range_with_len}
use Rattle.std.specs.List.Sorted.{IsNonDecreasingBy, IsStrictlyIncreasing}
use Rattle.std.proofs.lemmas.Bool.{and_from, and_left, and_right, cases_lt, le-leb, le-ltb, lt-leb, lt-ltb}
use Rattle.std.proofs.lemmas.List.{append-nil, drop_all, drop-drop, drop-map, drop_more, get_or-drop, get_or-map, get_or-take}
use Rattle.std.proofs.lemmas.List.{length-drop, length-map, length-take, map-append, take-append-drop, take-map}
use Rattle.std.proofs.lemmas.Option.{slice_get-get_or}
use Rattle.std.proofs.lemmas.List.Elements.{All-drop, All-head, All-tail, All-take, All-weaker, filter-append, filter_map-append}
use Rattle.grammar_tree.specs.Lexes.{Piece as PlainPiece, PlacedToken}
use Rattle.lexer.specs.declared.token.Token.{Token}
use Rattle.lexer.specs.Tokens.{token_of}
use Rattle.token_print.specs.LexingLaws.{AreInOrder, IsSlice}
use Rattle.token_print.specs.Spelling.{kind_and_spelling, kinds_and_spellings}
use Rattle.token_print.specs.Kept.{AreKept}
use Rattle.token_print.proofs.Offsets.{there}
use Rattle.token_print.proofs.Running.{climb}
use Rattle.token_print.proofs.SameTokens.{no_token}
use Rattle.token_print.proofs.SameTokens as same

-- parts of numbers that rise
pub rising_part : (kept : List ℕ) (from to : ℕ) → IsStrictlyIncreasing kept → to ≤ length kept → IsStrictlyIncreasing (between from to kept)
rising_part kept from to up h k l =
    let size = length-take (to - from) (drop from kept) in
    let long = length-drop from kept in
    let next : from + (k + 1) ≡ from + k + 1 = omega arith in
    let at : (n : ℕ) → n < to - from → slice_index (between from to kept) n ≡ slice_index kept (from + n) =
    λ n m. get_or-take (to - from) (drop from kept) n 0 m ∙ get_or-drop from kept n 0 in
    omega (
      arith,
      at k (omega (arith, l, size)),
      at (k + 1) (omega (arith, l, size)),
      ap (slice_index kept) next,
      up (from + k) (omega (arith, l, size, long, h)),
    )

pub all_part : {X : Type 0} (P : X → Type 0) (xs : List X) (from to : ℕ) → All P xs → All P (between from to xs)
all_part P xs from to all = All-take P (to - from) (drop from xs) (All-drop P from xs all)

pub part_map : (tokens : List Token) (from to : ℕ) → map token_of (between from to tokens) ≡ between from to (map token_of tokens)
part_map tokens from to = sym (take-map token_of (to - from) (drop from tokens)) ∙ ap (take (to - from)) (sym (drop-map token_of from tokens))

pub slices_part : (text : List ℕ) (tokens : List Token) (from to : ℕ) → All (λ t. IsSlice text t.start t.end) (map token_of tokens)
    → All (λ t. IsSlice text t.start t.end) (map token_of (between from to tokens))
slices_part text tokens from to all =
    let P : List PlacedToken → Type 0 = λ l. All (λ t. IsSlice text t.start t.end) l in
    subst P (sym (part_map tokens from to)) (all_part (λ (t : PlacedToken). IsSlice text t.start t.end) (map token_of tokens) from to all)

-- numbers that rise from the first one to the last one by one each
range_of : (first : ℕ) (numbers : List ℕ) → ((k : ℕ) → k < length numbers → slice_index numbers k ≡ first + k) → numbers ≡ range_with_len first (length numbers)
range_of first [] each = refl
range_of first (n ∷ numbers) each =
    ap₂ ◌∷◌ (omega (arith, each 0 (omega arith))) (range_of (first + 1) numbers (λ k h. omega (arith, each (suc k) (omega (arith, h)))))

pub is_range : (numbers : List ℕ) (first : ℕ) → IsStrictlyIncreasing numbers → slice_index numbers 0 ≡ first
    → slice_index numbers (length numbers - 1) ≡ first + (length numbers - 1) → numbers ≡ range_with_len first (length numbers)
is_range numbers first up begins ends =
    range_of first numbers
    (λ k h.
    let last = length numbers - 1 in
    let to : k + (last - k) ≡ last = omega (arith, h) in
    let none : 0 + k ≡ k = omega arith in
    omega (
      arith,
      begins,
      ends,
      h,
      climb numbers up k 0 (omega (arith, h)),
      climb numbers up (last - k) k (omega (arith, h, to)),
      ap (slice_index numbers) to,
      ap (slice_index numbers) none,
    ))

-- the tokens with the numbers of a range
range_tokens : (tokens : List PlacedToken) (n a : ℕ) → a + n ≤ length tokens → filter_map (slice_get tokens) (range_with_len a n) ≡ take n (drop a tokens)
range_tokens tokens zero a h = refl
range_tokens tokens (suc n) a h = ap₂ cons_option found (range_tokens tokens n (a + 1) (omega (arith, h))) ∙ ap (take (suc n)) (sym cut)
  where
    none : PlacedToken
    none = record { kind = 0; start = 0; end = 0 }

    found : slice_get tokens a ≡ Some (slice_index_or tokens a none)
    found = slice_get-get_or tokens a none (omega (arith, h))

    cut : drop a tokens ≡ slice_index_or tokens a none ∷ drop (a + 1) tokens
    cut = drop_more tokens a none (omega (arith, h))

pub spelled_range : (start : List ℕ) (tokens : List Token) (first end : ℕ) (kept : List ℕ) → first ≤ end → end ≤ length tokens → length kept ≡ end - first
    → kept ≡ range_with_len first (length kept) →
    map (kind_and_spelling start) (map token_of (between first end tokens)) ≡ kinds_and_spellings start (map token_of tokens) kept
spelled_range start tokens first end kept h l count is =
    ap (map (kind_and_spelling start)) (part_map tokens first end
    ∙ sym (range_tokens (map token_of tokens) (end - first) first (omega (arith, h, l, length-map tokens token_of))))
    ∙ ap (λ n. kinds_and_spellings start (map token_of tokens) (range_with_len first n)) (sym count)
    ∙ ap (kinds_and_spellings start (map token_of tokens)) (sym is)

list_append_same : (a b c d : List PlainPiece) → a ++ b ≡ c ++ d → length a ≡ length c → a ≡ c
list_append_same [] b [] d e h = refl
list_append_same [] b (x ∷ c) d e h = absurd (omega (arith, h))
list_append_same (x ∷ a) b [] d e h = absurd (omega (arith, h))
list_append_same (x ∷ a) b (y ∷ c) d e h =
    let heads : x ≡ y = cc in
    let tails : a ++ b ≡ c ++ d = cc in
    ap₂ ◌∷◌ heads (list_append_same a b c d tails (omega (arith, h)))

module _ (start : List ℕ) (tokens : List Token) (kept : List ℕ) (all : All (λ i. i < length tokens) kept) where
  abbrev from_index : ℕ → List PlainPiece
  from_index found = kinds_and_spellings start (map token_of tokens) (drop found kept)

  abbrev part : ℕ → ℕ → List PlainPiece
  part found to = kinds_and_spellings start (map token_of tokens) (between found to kept)

  pub spelled_size : (numbers : List ℕ) → All (λ i. i < length tokens) numbers
      → length (kinds_and_spellings start (map token_of tokens) numbers) ≡ length numbers
  spelled_size numbers there = ap length (same.all_kept start start tokens numbers there) ∙ length-map numbers (same.kept_one start start tokens)

  -- the next ones, and those after them
  cut : (found to : ℕ) → found ≤ to → to ≤ length kept → from_index found ≡ part found to ++ from_index to
  cut found to h l =
      let n = to - found in
      let end : found + n ≡ to = omega (arith, h) in
      ap (kinds_and_spellings start (map token_of tokens)) (sym (take-append-drop n (drop found kept)))
      ∙ ap (map (kind_and_spelling start)) (filter_map-append (slice_get (map token_of tokens)) (take n (drop found kept)) (drop n (drop found kept)))
      ∙ map-append (kind_and_spelling start) (filter_map (slice_get (map token_of tokens)) (take n (drop found kept)))
      (filter_map (slice_get (map token_of tokens)) (drop n (drop found kept)))
      ∙ ap (λ k. part found to ++ kinds_and_spellings start (map token_of tokens) k) (drop-drop n found kept ∙ ap (λ m. drop m kept) end)

  pub next_yes : (found to : ℕ) (words : List PlainPiece) → found ≤ to → to ≤ length kept → words ≡ part found to → from_index found ≡ words ++ from_index to
  next_yes found to words h l is = cut found to h l ∙ ap (λ w. w ++ from_index to) (sym is)

  part_size : (found to : ℕ) → found ≤ to → to ≤ length kept → length (part found to) ≡ to - found
  part_size found to h l =
      spelled_size (between found to kept) (all_part (λ i. i < length tokens) kept found to all)
      ∙ omega (arith, length-take (to - found) (drop found kept), length-drop found kept, h, l)

  pub next_no : (found to : ℕ) (words : List PlainPiece) → found ≤ to → to ≤ length kept → length words ≡ to - found → ¬ (words ≡ part found to)
      → (rest : List PlainPiece) → ¬ (from_index found ≡ words ++ rest)
  next_no found to words h l size others rest e =
      others (list_append_same words rest (part found to) (from_index to) (sym e ∙ cut found to h l) (omega (arith, size, part_size found to h l)))

  -- there are too few
  pub next_few : (found : ℕ) (words : List PlainPiece) → found ≤ length kept → length kept - found < length words → (rest : List PlainPiece)
      → ¬ (from_index found ≡ words ++ rest)
  next_few found words h few rest e =
      omega (
        arith,
        few,
        ap length e,
        length-append words rest,
        spelled_size (drop found kept) (All-drop (λ i. i < length tokens) found kept all),
        length-drop found kept,
      )

  -- one token
  pub next_one : (found : ℕ) → found < length kept → from_index found ≡ same.kept_one start start tokens (slice_index kept found) ∷ from_index (found + 1)
  next_one found h =
      let i = slice_index kept found in
      ap (kinds_and_spellings start (map token_of tokens)) (drop_more kept found 0 h)
      ∙ ap (λ o. map (kind_and_spelling start) (cons_option o (filter_map (slice_get (map token_of tokens)) (drop (found + 1) kept))))
      (there start tokens i no_token (all found 0 h))

  pub next_is : (found : ℕ) (word : PlainPiece) → found < length kept → word ≡ same.kept_one start start tokens (slice_index kept found)
      → from_index found ≡ word ∷ from_index (found + 1)
  next_is found word h is = next_one found h ∙ ap (λ w. w ∷ from_index (found + 1)) (sym is)

  pub next_other : (found : ℕ) (word : PlainPiece) → found < length kept → ¬ (word ≡ same.kept_one start start tokens (slice_index kept found))
      → (rest : List PlainPiece) → ¬ (from_index found ≡ word ∷ rest)
  next_other found word h other rest e =
      let both : same.kept_one start start tokens (slice_index kept found) ∷ from_index (found + 1) ≡ word ∷ rest = sym (next_one found h) ∙ e in
      other (let heads : word ≡ same.kept_one start start tokens (slice_index kept found) = cc in heads)

  pub none_next : (found : ℕ) (word : PlainPiece) → length kept ≤ found → (rest : List PlainPiece) → ¬ (from_index found ≡ word ∷ rest)
  none_next found word h rest e =
      omega (arith, h, ap length e, spelled_size (drop found kept) (All-drop (λ i. i < length tokens) found kept all), length-drop found kept)

-- a test that all elements pass, or none
filter_all : (p : PlacedToken → Bool) (xs : List PlacedToken) → All (λ x. p x ≡ true) xs → filter p xs ≡ xs
filter_all p [] all = refl
filter_all p (x ∷ xs) all =
    ap (λ b. cond b (x ∷ filter p xs) (filter p xs)) (All-head (λ y. p y ≡ true) x xs all)
    ∙ ap (λ l. x ∷ l) (filter_all p xs (All-tail (λ y. p y ≡ true) x xs all))

filter_none : (p : PlacedToken → Bool) (xs : List PlacedToken) → All (λ x. p x ≡ false) xs → filter p xs ≡ []
filter_none p [] all = refl
filter_none p (x ∷ xs) all =
    ap (λ b. cond b (x ∷ filter p xs) (filter p xs)) (All-head (λ y. p y ≡ false) x xs all) ∙ filter_none p xs (All-tail (λ y. p y ≡ false) x xs all)

-- The tokens that begin from the one offset on and before the other, by how many begin before each.
module _ (tokens : List Token) (from to first end : ℕ) (rises : from ≤ to) (inside : end ≤ length tokens)
    (low : (k : ℕ) (d : Token) → k < first → (slice_index_or tokens k d).start < from)
    (low_others : (k : ℕ) (d : Token) → first ≤ k → k < length tokens → from ≤ (slice_index_or tokens k d).start)
    (high : (k : ℕ) (d : Token) → k < end → (slice_index_or tokens k d).start < to)
    (high_others : (k : ℕ) (d : Token) → end ≤ k → k < length tokens → to ≤ (slice_index_or tokens k d).start)
    (first_inside : first ≤ length tokens) where
  pub first_le : first ≤ end
  first_le = pick (cases_lt end first)
    where
      pick : (end < first) ⊎ (first ≤ end) → first ≤ end
      pick (inl h) = absurd (omega (arith, low end no_token h, high_others end no_token (omega arith) (omega (arith, h, first_inside)), rises))
      pick (inr h) = h

  abbrev begun : PlacedToken → Bool
  begun t = nat_le from t.start && nat_lt t.start to

  abbrev placed : List PlacedToken
  placed = map token_of tokens

  placed_at : (P : PlacedToken → Type 0) (k : ℕ) (d : PlacedToken) → k < length tokens → P (token_of (slice_index_or tokens k no_token))
      → P (slice_index_or placed k d)
  placed_at P k d h is = subst P (sym (get_or-map token_of tokens k no_token d h)) is

  front_no : All (λ t. begun t ≡ false) (take first placed)
  front_no k d h =
      let less : k < first = omega (arith, h, length-take first placed) in
      let P : PlacedToken → Type 0 = λ t. begun t ≡ false in
      subst P (sym (get_or-take first placed k d less)) (placed_at P k d (omega (arith, less, first_inside)) (and_left _ _ (lt-leb _ _ (low k no_token less))))

  middle_yes : All (λ t. begun t ≡ true) (take (end - first) (drop first placed))
  middle_yes k d h =
      let less : k < end - first = omega (arith, h, length-take (end - first) (drop first placed)) in
      let P : PlacedToken → Type 0 = λ t. begun t ≡ true in
      subst P (sym (get_or-take (end - first) (drop first placed) k d less ∙ get_or-drop first placed k d))
      (placed_at P (first + k) d (omega (arith, less, inside))
      (and_from _ _ (le-leb _ _ (low_others (first + k) no_token (omega arith) (omega (arith, less, inside))))
      (lt-ltb _ _ (high (first + k) no_token (omega (arith, less))))))

  back_no : All (λ t. begun t ≡ false) (drop (end - first) (drop first placed))
  back_no k d h =
      let there : first + (end - first) ≡ end = omega (arith, first_le) in
      let far : end + k < length tokens =
      omega (arith, h, length-drop (end - first) (drop first placed), length-drop first placed, length-map tokens token_of, first_le) in
      let P : PlacedToken → Type 0 = λ t. begun t ≡ false in
      subst P
      (sym (ap (λ l. slice_index_or l k d) (drop-drop (end - first) first placed) ∙ get_or-drop (first + (end - first)) placed k d
      ∙ ap (λ n. slice_index_or placed (n + k) d) there))
      (placed_at P (end + k) d far (and_right _ _ (le-ltb _ _ (high_others (end + k) no_token (omega arith) far))))

  pub begun_are : (start : List ℕ) → map (kind_and_spelling start) (map token_of (between first end tokens)) ≡ map (kind_and_spelling start)
      (filter begun placed)
  begun_are start =
      let n = end - first in
      let middle = take n (drop first placed) in
      let back = drop n (drop first placed) in
      ap (map (kind_and_spelling start))
      (part_map tokens first end
      ∙ sym
      (ap (filter begun) (sym (take-append-drop first placed) ∙ ap (λ l. take first placed ++ l) (sym (take-append-drop n (drop first placed))))
      ∙ filter-append begun (take first placed) (middle ++ back)
      ∙ ap₂ ◌++◌ (filter_none begun (take first placed) front_no)
      (filter-append begun middle back ∙ ap₂ ◌++◌ (filter_all begun middle middle_yes) (filter_none begun back back_no))
      ∙ append-nil middle))

-- tokens rise
pub tokens_rise : (start : List ℕ) (tokens : List Token) → AreInOrder start (map token_of tokens) → IsNonDecreasingBy (λ (t : Token). t.start) tokens
tokens_rise start tokens order i j d h l = pick (cases_lt i j)
  where
    size : length (map token_of tokens) ≡ length tokens
    size = length-map tokens token_of

    at : (n : ℕ) → n < length tokens → slice_index_or (map token_of tokens) n (token_of d) ≡ token_of (slice_index_or tokens n d)
    at n m = get_or-map token_of tokens n d (token_of d) m

    pick : (i < j) ⊎ (j ≤ i) → (slice_index_or tokens i d).start ≤ (slice_index_or tokens j d).start
    pick (inl k) =
        let P : PlacedToken → Type 0 = λ t. t.start < t.end in
        let here : (slice_index_or tokens i d).start < (slice_index_or tokens i d).end =
        subst P (at i (omega (arith, k, l))) (order.not_empty i (token_of d) (omega (arith, k, l, size))) in
        omega (
          arith,
          order.apart i j (token_of d) k (omega (arith, l, size)),
          ap (λ (t : PlacedToken). t.end) (at i (omega (arith, k, l))),
          ap (λ (t : PlacedToken). t.start) (at j l),
          here,
        )
    pick (inr k) = let same : i ≡ j = omega (arith, h, k) in omega (arith, ap (λ n. (slice_index_or tokens n d).start) same)

-- nothing is left of the kept tokens exactly where all were found
pub none_left : (start : List ℕ) (tokens : List Token) (kept : List ℕ) → All (λ i. i < length tokens) kept → (found : ℕ) → found ≤ length kept
    → (kinds_and_spellings start (map token_of tokens) (drop found kept) ≡ []) ↔ (found ≡ length kept)
none_left start tokens kept all found few = (
  λ e. omega (
    arith,
    few,
    ap length e,
    spelled_size start tokens kept all (drop found kept) (All-drop (λ i. i < length tokens) found kept all),
    length-drop found kept,
  ),
  λ e. ap (kinds_and_spellings start (map token_of tokens)) (drop_all found kept (omega (arith, e))),
)

-- the numbers of kept tokens are those of tokens
pub kept_there : (tokens : List Token) (kept : List ℕ) → AreKept (map token_of tokens) kept → All (λ i. i < length tokens) kept
kept_there tokens kept are =
    All-weaker (λ i. i < length (map token_of tokens)) (λ i. i < length tokens) (λ i h. omega (arith, h, length-map tokens token_of)) kept are.there

-- how many words some tokens have
pub words_size : (start : List ℕ) (tokens : List Token) (first end : ℕ) → first ≤ end → end ≤ length tokens
    → length (map (kind_and_spelling start) (map token_of (between first end tokens))) ≡ end - first
words_size start tokens first end h l =
    omega (
      arith,
      length-map (map token_of (between first end tokens)) (kind_and_spelling start),
      length-map (between first end tokens) token_of,
      length-take (end - first) (drop first tokens),
      length-drop first tokens,
      h,
      l,
    )
