-- Sorted spellings, each of which is kept once: those of a kind are the spellings of its tokens, in order.
use Rattle.std.proofs.Common.{◌≡◌, ◌∙◌, ◌&&◌, ◌<◌, inl, inr, ℕ, zero, suc, Bool, true, false, cond, List, [], ◌∷◌, All, length, map, get_or}
use Rattle.std.proofs.Common.{refl, sym, ap, subst, arith}
use Rattle.std.specs.Prelude.{◌==◌, nat_eq}
use Rattle.std.specs.Cmp.{IsEquivalence, IsTotalOrder, both_tied, unsigned_ties}
use Rattle.std.specs.Cmp.Lexicographic.{on_texts_equal, pointwise, same_text, slice_cmp, texts_ties}
use Rattle.std.specs.List.{AllByRecursion, Contains, dedup, filter}
use Rattle.std.specs.List.Sorted.{IsPermutation, IsSorted, IsStrictlySortedBy}
use Rattle.std.specs.Ordering.{eq_by_cmp, nat_cmp, ordering_then}
use Rattle.std.specs.declared.cmp.Ordering.{Ordering}
use Rattle.std.specs.declared.cmp.Ordering.TheVariants.{Equal, Less}
use Rattle.std.proofs.lemmas.Bool.{and_parts, eq-eqb, eqb-true}
use Rattle.std.proofs.lemmas.Bool.Decides.{Decides-eqb}
use Rattle.std.proofs.lemmas.Cmp.{and_equiv, nat_cmp_total, nat_eq_equiv, nat_list_cmp_total, on_equiv, on_total, then_total}
use Rattle.std.proofs.lemmas.List.Elements.{All-head, All-tail}
use Rattle.std.proofs.lemmas.List.Filters.{All-dedup}
use Rattle.std.proofs.lemmas.List.Kept.{Any-dedup, Contains-from_dedup, IsStrictlySortedBy-dedup}
use Rattle.std.proofs.lemmas.List.Sorted.{All-permutation, Contains-permutation, IsPermutation-sym}
use Rattle.grammar_tree.specs.Lexes.{PlacedToken}
use Rattle.token_print.specs.Spelling.{spelling}
use Rattle.spell_shrink.specs.declared.words.Word.{Word}
use Rattle.spell_shrink.specs.KindWords.{AreSorted, IsSized, KindWord, bytes_of_kind, kind_word, kind_word_order, word_bytes_of}
use Rattle.spell_shrink.specs.Words.{word_order, words_of}
use Rattle.spell_shrink.proofs.SpelledWords.{Has, from_words_of, in_words_of}
use Rattle.spell_shrink.proofs.WordOrder.{same_number, same_words, words_sorted}

-- ---- the derived order

-- the two words are alike
abbrev pub is_word : Word → Word → Bool
is_word one other = (one.kind == other.kind) && ((one.size == other.size) && pointwise nat_eq one.text.now other.text.now)

abbrev pub order : Word → Word → Ordering
order one other =
    ordering_then (nat_cmp one.kind other.kind) (ordering_then (nat_cmp one.size other.size) (slice_cmp nat_cmp one.text.now other.text.now))

is_order : IsTotalOrder order
is_order =
    then_total (on_total (λ (w : Word). w.kind) nat_cmp_total)
    (then_total (on_total (λ (w : Word). w.size) nat_cmp_total) (on_total (λ (w : Word). w.text.now) nat_list_cmp_total))

is_equivalence : IsEquivalence is_word
is_equivalence =
    and_equiv (on_equiv (λ (w : Word). w.kind) nat_eq_equiv)
    (and_equiv (on_equiv (λ (w : Word). w.size) nat_eq_equiv) (on_texts_equal (λ (w : Word). w.text.now)))

ties : (one other : Word) → is_word one other ≡ eq_by_cmp order one other
ties one other =
    let texts = pointwise nat_eq one.text.now other.text.now in
    let text_order = slice_cmp nat_cmp one.text.now other.text.now in
    both_tied (one.kind == other.kind) ((one.size == other.size) && texts) (nat_cmp one.kind other.kind)
    (ordering_then (nat_cmp one.size other.size) text_order) (unsigned_ties one.kind other.kind)
    (both_tied (one.size == other.size) texts (nat_cmp one.size other.size) text_order (unsigned_ties one.size other.size)
    (texts_ties one.text.now other.text.now))

alike : (one other : Word) → is_word one other ≡ true → kind_word one ≡ kind_word other
alike one other same =
    let texts = pointwise nat_eq one.text.now other.text.now in
    let parts = and_parts (one.kind == other.kind) ((one.size == other.size) && texts) same in
    let kind = (Decides-eqb one.kind other.kind).0 parts.0 in
    let word = same_text one.text.now other.text.now (sym (and_parts (one.size == other.size) texts parts.1).1) in
    λ i. record { kind = kind i; word = word i }

-- where the sizes are known it is the order of the spellings
by_words : (one other : Word) → IsSized one → IsSized other → order one other ≡ kind_word_order (kind_word one) (kind_word other)
by_words one other sized other_sized =
    λ i. ordering_then (nat_cmp one.kind other.kind)
    (ordering_then (nat_cmp (sized i) (other_sized i)) (slice_cmp nat_cmp one.text.now other.text.now))

before_words : (first : Word) (words : List Word) → IsSized first → All IsSized words → AllByRecursion (λ w. order first w ≡ Less) words
    → AllByRecursion (λ v. kind_word_order (kind_word first) v ≡ Less) (map kind_word words)
before_words first [] sized all before = tt
before_words first (w ∷ words) sized all before = (
  sym (by_words first w sized (All-head IsSized w words all)) ∙ before.0,
  before_words first words sized (All-tail IsSized w words all) before.1,
)

sorted_words : (words : List Word) → All IsSized words → IsStrictlySortedBy order words → IsStrictlySortedBy kind_word_order (map kind_word words)
unfolding IsStrictlySortedBy
sorted_words [] all sorted = tt
sorted_words (w ∷ words) all sorted = (
  before_words w words (All-head IsSized w words all) (All-tail IsSized w words all) sorted.0,
  sorted_words words (All-tail IsSized w words all) sorted.1,
)

-- ---- those of a kind

module _ (kind : ℕ) where
  before_kind : (first : KindWord) (words : List KindWord) → first.kind ≡ kind → AllByRecursion (λ v. kind_word_order first v ≡ Less) words
      → AllByRecursion (λ word. word_order first.word word ≡ Less) (bytes_of_kind words kind)
  before_kind first [] is before = tt
  before_kind first (w ∷ words) is before = by (nat_eq w.kind kind) refl (before_kind first words is before.1)
    where
      by : (b : Bool) → nat_eq w.kind kind ≡ b → AllByRecursion (λ word. word_order first.word word ≡ Less) (bytes_of_kind words kind)
          → AllByRecursion (λ word. word_order first.word word ≡ Less) (map word_bytes_of (cond b (w ∷ filter (λ (v : KindWord). nat_eq v.kind kind) words)
          (filter (λ (v : KindWord). nat_eq v.kind kind) words)))
      by false e later = later
      by true e later =
          let one_kind : nat_cmp first.kind w.kind ≡ Equal = (λ i. nat_cmp (is i) (eqb-true w.kind kind e i)) ∙ same_number kind in
          (sym (ap (λ o. ordering_then o (word_order first.word w.word)) one_kind) ∙ before.0, later)

  kind_sorted : (words : List KindWord) → IsStrictlySortedBy kind_word_order words → IsStrictlySortedBy word_order (bytes_of_kind words kind)
  unfolding IsStrictlySortedBy
  kind_sorted [] sorted = tt
  kind_sorted (w ∷ words) sorted = by (nat_eq w.kind kind) refl (kind_sorted words sorted.1)
    where
      by : (b : Bool) → nat_eq w.kind kind ≡ b → IsStrictlySortedBy word_order (bytes_of_kind words kind)
          → IsStrictlySortedBy word_order (map word_bytes_of (cond b (w ∷ filter (λ (v : KindWord). nat_eq v.kind kind) words)
          (filter (λ (v : KindWord). nat_eq v.kind kind) words)))
      by false e later = later
      by true e later = (before_kind w words (eqb-true w.kind kind e) sorted.0, later)

  in_kind : (words : List KindWord) (v : KindWord) → Contains words v → v.kind ≡ kind → Has v.word (bytes_of_kind words kind)
  in_kind words v there is = at words there.0 there.1 there.2
    where
      kept : (w : KindWord) (words : List KindWord) (b : Bool) → Has v.word (map word_bytes_of words)
          → Has v.word (map word_bytes_of (cond b (w ∷ words) words))
      kept w words true has = inr has
      kept w words false has = has

      at : (words : List KindWord) (k : ℕ) → k < length words → get_or words k v ≡ v → Has v.word (bytes_of_kind words kind)
      at [] k less e = absurd (omega (arith, less))
      at (w ∷ words) zero less e =
          let of_kind : nat_eq w.kind kind ≡ true = eq-eqb w.kind kind (ap (λ (u : KindWord). u.kind) e ∙ is) in
          let later = filter (λ (u : KindWord). nat_eq u.kind kind) words in
          subst (λ b. Has v.word (map word_bytes_of (cond b (w ∷ later) later))) (sym of_kind) (inl (ap (λ (u : KindWord). u.word) e))
      at (w ∷ words) (suc k) less e =
          kept w (filter (λ (u : KindWord). nat_eq u.kind kind) words) (nat_eq w.kind kind) (at words k (omega (arith, less)) e)

  -- some word of the kind has these bytes
  record HasKindWord (words : List KindWord) (word : List ℕ) : Type 0 where
    pub one : KindWord
    pub there : Contains words one
    pub kind_is : one.kind ≡ kind
    pub word_is : word ≡ one.word

  one_more : (w : KindWord) (words : List KindWord) (word : List ℕ) → HasKindWord words word → HasKindWord (w ∷ words) word
  one_more w words word has =
      record { one = has.one; there = (suc has.there.0, omega (arith, has.there.1), has.there.2); kind_is = has.kind_is; word_is = has.word_is }

  from_kind : (words : List KindWord) (word : List ℕ) → Has word (bytes_of_kind words kind) → HasKindWord words word
  from_kind [] word has = absurd has
  from_kind (w ∷ words) word has = by (nat_eq w.kind kind) refl (λ later. one_more w words word (from_kind words word later)) has
    where
      by : (b : Bool) → nat_eq w.kind kind ≡ b → (Has word (bytes_of_kind words kind) → HasKindWord (w ∷ words) word)
          → Has word (map word_bytes_of (cond b (w ∷ filter (λ (v : KindWord). nat_eq v.kind kind) words)
          (filter (λ (v : KindWord). nat_eq v.kind kind) words)))
          → HasKindWord (w ∷ words) word
      by false e later has = later has
      by true e later (inl same) = record { one = w; there = (0, omega arith, refl); kind_is = eqb-true w.kind kind e; word_is = sym same }
      by true e later (inr has) = later has

-- ---- lists under a function

module _ {X Y : Type 0} (f : X → Y) where
  mapped : (xs : List X) (x : X) → Contains xs x → Contains (map f xs) (f x)
  mapped xs x there = at xs there.0 there.1 there.2
    where
      at : (xs : List X) (k : ℕ) → k < length xs → get_or xs k x ≡ x → Contains (map f xs) (f x)
      at [] k less e = absurd (omega (arith, less))
      at (y ∷ ys) zero less e = (0, omega arith, ap f e)
      at (y ∷ ys) (suc k) less e = let later = at ys k (omega (arith, less)) e in (suc later.0, omega (arith, later.1), later.2)

  from_mapped : (xs : List X) (y : Y) → Contains (map f xs) y → (x : X) × Contains xs x × (f x ≡ y)
  from_mapped xs y there = at xs there.0 there.1 there.2
    where
      at : (xs : List X) (k : ℕ) → k < length (map f xs) → get_or (map f xs) k y ≡ y → (x : X) × Contains xs x × (f x ≡ y)
      at [] k less e = absurd (omega (arith, less))
      at (x ∷ xs) zero less e = (x, (0, omega arith, refl), e)
      at (x ∷ xs) (suc k) less e =
          let later = at xs k (omega (arith, less)) e in
          let there = later.1 in (later.0, (suc there.0, omega (arith, there.1), there.2), later.2)

-- ---- all together

-- a token's kind and spelling
abbrev pub spelled_kind : List ℕ → PlacedToken → KindWord
spelled_kind start t = record { kind = t.kind; word = spelling start t }

module _ (items moved : List Word) (sized : All IsSized items) (permuted : IsPermutation items moved) (sorted : IsSorted order moved) where
  moved_sized : All IsSized moved
  moved_sized = All-permutation IsSized items moved permuted sized

  kept_sized : All IsSized (dedup is_word moved)
  kept_sized = All-dedup is_word IsSized moved moved_sized

  kept_sorted : IsStrictlySortedBy kind_word_order (map kind_word (dedup is_word moved))
  kept_sorted = sorted_words (dedup is_word moved) kept_sized (IsStrictlySortedBy-dedup is_order ties moved sorted)

  pub are_sorted : AreSorted (dedup is_word moved)
  are_sorted = (kept_sorted, kept_sized)

  module _ (start : List ℕ) (tokens : List PlacedToken) (same : map kind_word items ≡ map (spelled_kind start) tokens) (kind : ℕ) where
    abbrev kept : List KindWord
    kept = map kind_word (dedup is_word moved)

    to : (word : List ℕ) → Has word (bytes_of_kind kept kind) → Has word (words_of start tokens kind)
    to word has =
        let of = from_kind kind kept word has in
        let item = from_mapped kind_word (dedup is_word moved) of.one of.there in
        let in_items : Contains items item.0 =
        Contains-permutation moved items item.0 (IsPermutation-sym items moved permuted) (Contains-from_dedup is_word moved item.0 item.1) in
        let in_all : Contains (map (spelled_kind start) tokens) (kind_word item.0) =
        subst (λ (l : List KindWord). Contains l (kind_word item.0)) same (mapped kind_word items item.0 in_items) in
        let token = from_mapped (spelled_kind start) tokens (kind_word item.0) in_all in
        let is : spelled_kind start token.0 ≡ of.one = token.2 ∙ item.2 in
        let word_is : spelling start token.0 ≡ word = ap (λ (v : KindWord). v.word) is ∙ sym of.word_is in
        subst (λ (w : List ℕ). Has w (words_of start tokens kind)) word_is
        (in_words_of start kind tokens token.0 token.1 (ap (λ (v : KindWord). v.kind) is ∙ of.kind_is))

    from : (word : List ℕ) → Has word (words_of start tokens kind) → Has word (bytes_of_kind kept kind)
    from word has =
        let of = from_words_of start kind tokens word has in
        let in_all : Contains (map kind_word items) (spelled_kind start of.token) =
        subst (λ (l : List KindWord). Contains l (spelled_kind start of.token)) (sym same) (mapped (spelled_kind start) tokens of.token of.there) in
        let item = from_mapped kind_word items (spelled_kind start of.token) in_all in
        let one = Any-dedup is_equivalence moved item.0 (Contains-permutation items moved item.0 permuted item.1) in
        let is : kind_word one.1 ≡ spelled_kind start of.token = sym (alike item.0 one.1 one.4) ∙ item.2 in
        let there : Contains kept (kind_word one.1) = mapped kind_word (dedup is_word moved) one.1 (one.0, one.2, one.3) in
        subst (λ (w : List ℕ). Has w (bytes_of_kind kept kind)) (ap (λ (v : KindWord). v.word) is ∙ sym of.word_is)
        (in_kind kind kept (kind_word one.1) there (ap (λ (v : KindWord). v.kind) is ∙ of.kind_is))

    pub are_words : bytes_of_kind kept kind ≡ words_of start tokens kind
    are_words = same_words (bytes_of_kind kept kind) (words_of start tokens kind) (kind_sorted kind kept kept_sorted) (words_sorted start kind tokens) to from
