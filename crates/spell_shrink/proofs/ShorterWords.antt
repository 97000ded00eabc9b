-- The shorter spellings of a kind, as a part of all that are sorted.
use Rattle.std.proofs.Common.{◌≡◌, ◌∙◌, ◌&&◌, ◌||◌, ◌<◌, ◌≤◌, ◌⊎◌, inl, inr, ⊎_elim, ℕ, zero, suc, Bool, true, false, cond, List, [], ◌∷◌, All, length}
use Rattle.std.proofs.Common.{map, drop, take, get_or, ltb, refl, sym, ap, arith, subst}
use Rattle.std.specs.Prelude.{◌==◌, nat_eq, nat_lt}
use Rattle.std.specs.List.{AllByRecursion, between, filter}
use Rattle.std.specs.List.Sorted.{IsPartitionPoint, IsPartitionedBy, IsStrictlySortedBy}
use Rattle.std.specs.Ordering.{MatchOrdering, nat_cmp, ordering_then}
use Rattle.std.specs.declared.cmp.Ordering.{Ordering}
use Rattle.std.specs.declared.cmp.Ordering.TheVariants.{Equal, Greater, Less}
use Rattle.std.specs.Cmp.Lexicographic.{slice_cmp}
use Rattle.std.proofs.lemmas.Bool.{and_parts, eq-eqb, eqb-true, lt-ltb, ltb-true, true≢false}
use Rattle.std.proofs.lemmas.Cmp.{ranked}
use Rattle.std.proofs.lemmas.List.Elements.{All-head, All-tail}
use Rattle.std.proofs.lemmas.Slice.{between_is}
use Rattle.spell_shrink.specs.declared.words.Word.{Word}
use Rattle.spell_shrink.specs.KindWords.{IsSized, KindWord, bytes_of_kind, kind_word, kind_word_order, word_bytes_of}
use Rattle.spell_shrink.specs.Words.{shorter_than, word_order}

-- ---- what a sorted list is parted by

not_more : (x y : ℕ) (o : Ordering) → MatchOrdering o (x < y) (x ≡ y) (y < x) → (later : Ordering) → ordering_then o later ≡ Less
    → (x < y) ⊎ ((x ≡ y) × (later ≡ Less))
not_more x y Less is later less = inl is
not_more x y Equal is later less = inr (is, less)
not_more x y Greater is later less = absurd (cc less)

-- of two words in order the first has the lesser kind, or the same kind and no more bytes
kinds_rise : (v w : KindWord) → kind_word_order v w ≡ Less → (v.kind < w.kind) ⊎ ((v.kind ≡ w.kind) × (length v.word ≤ length w.word))
kinds_rise v w less =
    ⊎_elim (λ lesser. inl lesser) (λ both. inr (both.0, sizes both.1))
    (not_more v.kind w.kind (nat_cmp v.kind w.kind) (ranked v.kind w.kind (nat_cmp v.kind w.kind) refl) (word_order v.word w.word) less)
  where
    sizes : word_order v.word w.word ≡ Less → length v.word ≤ length w.word
    sizes rises =
        ⊎_elim (λ lesser. omega (arith, lesser)) (λ both. omega (arith, both.0))
        (not_more (length v.word) (length w.word) (nat_cmp (length v.word) (length w.word))
        (ranked (length v.word) (length w.word) (nat_cmp (length v.word) (length w.word)) refl) (slice_cmp nat_cmp v.word w.word) rises)

-- the word is of a lesser kind; or of the kind, and it has fewer bytes
abbrev pub is_before_kind : ℕ → Word → Bool
is_before_kind kind w = ltb w.kind kind

abbrev pub is_shorter_to : ℕ → ℕ → Word → Bool
is_shorter_to kind size w = ltb w.kind kind || ((w.kind == kind) && ltb w.size size)

or_cases : (x y : Bool) → (x || y) ≡ true → (x ≡ true) ⊎ (y ≡ true)
or_cases true y is = inl refl
or_cases false y is = inr is

or_first : (x y : Bool) → x ≡ true → (x || y) ≡ true
or_first x y is = ap (λ b. b || y) is

or_second : (x y : Bool) → y ≡ true → (x || y) ≡ true
or_second true y is = refl
or_second false y is = is

both_true : (x y : Bool) → x ≡ true → y ≡ true → (x && y) ≡ true
both_true x y one other = λ i. one i && other i

before_stays : (kind : ℕ) (x y : Word) → kind_word_order (kind_word x) (kind_word y) ≡ Less → is_before_kind kind y ≡ true → is_before_kind kind x ≡ true
before_stays kind x y less is =
    let below = ltb-true y.kind kind is in
    lt-ltb x.kind kind
    (⊎_elim (λ lesser. omega (arith, lesser, below)) (λ both. omega (arith, both.0, below)) (kinds_rise (kind_word x) (kind_word y) less))

shorter_stays : (kind size : ℕ) (x y : Word) → IsSized x → IsSized y → kind_word_order (kind_word x) (kind_word y) ≡ Less
    → is_shorter_to kind size y ≡ true → is_shorter_to kind size x ≡ true
shorter_stays kind size x y sized other_sized less is =
    ⊎_elim
    (λ before. or_first (ltb x.kind kind) ((x.kind == kind) && ltb x.size size) (before_stays kind x y less before))
    of_kind
    (or_cases (ltb y.kind kind) ((y.kind == kind) && ltb y.size size) is)
  where
    of_kind : ((y.kind == kind) && ltb y.size size) ≡ true → is_shorter_to kind size x ≡ true
    of_kind both =
        let parts = and_parts (y.kind == kind) (ltb y.size size) both in
        let same = eqb-true y.kind kind parts.0 in
        let below = ltb-true y.size size parts.1 in
        ⊎_elim
        (λ lesser. or_first (ltb x.kind kind) ((x.kind == kind) && ltb x.size size) (lt-ltb x.kind kind (omega (arith, lesser, same))))
        (λ rises. or_second (ltb x.kind kind) ((x.kind == kind) && ltb x.size size)
        (both_true (x.kind == kind) (ltb x.size size) (eq-eqb x.kind kind (rises.0 ∙ same))
        (lt-ltb x.size size (omega (arith, rises.1, below, sized, other_sized)))))
        (kinds_rise (kind_word x) (kind_word y) less)

first_before : (x : Word) (xs : List Word) (j : ℕ) (d : Word) → AllByRecursion (λ v. kind_word_order (kind_word x) v ≡ Less) (map kind_word xs)
    → j < length xs → kind_word_order (kind_word x) (kind_word (get_or xs j d)) ≡ Less
first_before x [] j d all less = absurd (omega (arith, less))
first_before x (y ∷ ys) zero d all less = all.0
first_before x (y ∷ ys) (suc j) d all less = first_before x ys j d all.1 (omega (arith, less))

module _ (p : Word → Bool) (stays : (x y : Word) → IsSized x → IsSized y → kind_word_order (kind_word x) (kind_word y) ≡ Less → p y ≡ true → p x ≡ true)
  where
    parted : (xs : List Word) → All IsSized xs → IsStrictlySortedBy kind_word_order (map kind_word xs) → IsPartitionedBy p xs
    unfolding IsStrictlySortedBy
    parted [] all sorted i j d rises less is = absurd (omega (arith, less))
    parted (x ∷ xs) all sorted zero zero d rises less is = is
    parted (x ∷ xs) all sorted zero (suc j) d rises less is =
        let below : j < length xs = omega (arith, less) in
        stays x (get_or xs j d) (All-head IsSized x xs all) (All-tail IsSized x xs all j d below) (first_before x xs j d sorted.0 below) is
    parted (x ∷ xs) all sorted (suc i) zero d rises less is = absurd (omega (arith, rises))
    parted (x ∷ xs) all sorted (suc i) (suc j) d rises less is =
        parted xs (All-tail IsSized x xs all) sorted.1 i j d (omega (arith, rises)) (omega (arith, less)) is

module _ (kind size : ℕ) (xs : List Word) (all : All IsSized xs) (sorted : IsStrictlySortedBy kind_word_order (map kind_word xs)) where
  pub parted_before : IsPartitionedBy (is_before_kind kind) xs
  parted_before = parted (is_before_kind kind) (λ x y sized other_sized. before_stays kind x y) xs all sorted

  pub parted_shorter : IsPartitionedBy (is_shorter_to kind size) xs
  parted_shorter = parted (is_shorter_to kind size) (shorter_stays kind size) xs all sorted

-- ---- the points where it is parted

-- The first ones, so many, pass the test, and no others.
abbrev IsCutAt : (Word → Bool) → List Word → ℕ → Type 0
IsCutAt p [] n = n ≡ 0
IsCutAt p (x ∷ xs) zero = (p x ≡ false) × IsCutAt p xs zero
IsCutAt p (x ∷ xs) (suc n) = (p x ≡ true) × IsCutAt p xs n

module _ (p : Word → Bool) where
  from_point : (xs : List Word) (n : ℕ) → n ≤ length xs → IsPartitionPoint (λ x. p x ≡ true) (λ x. p x ≡ false) xs n → IsCutAt p xs n
  from_point [] n bound point = omega (arith, bound)
  from_point (x ∷ xs) zero bound point = (
    point.1 0 x (omega arith) (omega arith),
    from_point xs zero (omega arith)
        ((λ k d low high. absurd (omega (arith, high))), (λ k d low high. point.1 (suc k) d (omega arith) (omega (arith, high)))),
  )
  from_point (x ∷ xs) (suc n) bound point = (
    point.0 0 x (omega arith) (omega arith),
    from_point xs n (omega (arith, bound)) (
      (λ k d low high. point.0 (suc k) d (omega arith) (omega (arith, high))),
      (λ k d low high. point.1 (suc k) d (omega (arith, low)) (omega (arith, high))),
    ),
  )

-- the same of a list that is lent
pub lent_point : (p : Word → Bool) (xs lent : List Word) → lent ≡ xs → (i : ℕ) → IsPartitionPoint (λ x. p x ≡ true) (λ x. p x ≡ false) lent i
    → IsPartitionPoint (λ x. p x ≡ true) (λ x. p x ≡ false) xs i
lent_point p xs lent same i = subst (λ (l : List Word). IsPartitionPoint (λ x. p x ≡ true) (λ x. p x ≡ false) l i) same

-- ---- what is between them

module _ (kind size : ℕ) where
  abbrev part : ℕ → ℕ → List Word → List (List ℕ)
  part first end xs = map word_bytes_of (drop first (take end (map kind_word xs)))

  abbrev shorter : List Word → List (List ℕ)
  shorter xs = shorter_than size (bytes_of_kind (map kind_word xs) kind)

  -- a word of another kind isn't among them, nor one with as many bytes
  other_kind : (x : Word) (xs : List Word) → nat_eq x.kind kind ≡ false → shorter (x ∷ xs) ≡ shorter xs
  other_kind x xs other =
      let later = filter (λ (w : KindWord). nat_eq w.kind kind) (map kind_word xs) in
      ap (λ (b : Bool). shorter_than size (map word_bytes_of (cond b (kind_word x ∷ later) later))) other

  as_long : (x : Word) (xs : List Word) → nat_eq x.kind kind ≡ true → nat_lt (length x.text.now) size ≡ false → shorter (x ∷ xs) ≡ shorter xs
  as_long x xs same long =
      let later = filter (λ (w : KindWord). nat_eq w.kind kind) (map kind_word xs) in
      ap (λ (b : Bool). shorter_than size (map word_bytes_of (cond b (kind_word x ∷ later) later))) same
      ∙ ap (λ (b : Bool). cond b (x.text.now ∷ shorter xs) (shorter xs)) long

  one_shorter : (x : Word) (xs : List Word) → nat_eq x.kind kind ≡ true → nat_lt (length x.text.now) size ≡ true → shorter (x ∷ xs) ≡ x.text.now ∷ shorter xs
  one_shorter x xs same short =
      let later = filter (λ (w : KindWord). nat_eq w.kind kind) (map kind_word xs) in
      ap (λ (b : Bool). shorter_than size (map word_bytes_of (cond b (kind_word x ∷ later) later))) same
      ∙ ap (λ (b : Bool). cond b (x.text.now ∷ shorter xs) (shorter xs)) short

  not_here : (x : Word) (xs : List Word) → IsSized x → is_shorter_to kind size x ≡ false → shorter (x ∷ xs) ≡ shorter xs
  not_here x xs sized not = by (nat_eq x.kind kind) refl (nat_lt (length x.text.now) size) refl
    where
      by : (b : Bool) → nat_eq x.kind kind ≡ b → (c : Bool) → nat_lt (length x.text.now) size ≡ c → shorter (x ∷ xs) ≡ shorter xs
      by false other c long = other_kind x xs other
      by true same false long = as_long x xs same long
      by true same true short =
          let below : ltb x.size size ≡ true = ap (λ n. ltb n size) sized ∙ short in
          absurd (true≢false (sym (or_second (ltb x.kind kind) ((x.kind == kind) && ltb x.size size)
          (both_true (x.kind == kind) (ltb x.size size) same below)) ∙ not))

  cut : (xs : List Word) (first end : ℕ) → All IsSized xs → IsCutAt (is_before_kind kind) xs first → IsCutAt (is_shorter_to kind size) xs end
      → part first end xs ≡ shorter xs
  cut [] zero zero all before upto = refl
  cut [] (suc first) end all before upto = absurd (omega (arith, before))
  cut [] zero (suc end) all before upto = absurd (omega (arith, upto))
  cut (x ∷ xs) zero zero all before upto =
      cut xs zero zero (All-tail IsSized x xs all) before.1 upto.1 ∙ sym (not_here x xs (All-head IsSized x xs all) upto.0)
  cut (x ∷ xs) zero (suc end) all before upto =
      let parts = of_kind (or_cases (ltb x.kind kind) ((x.kind == kind) && ltb x.size size) upto.0) in
      let short : nat_lt (length x.text.now) size ≡ true = ap (λ n. ltb n size) (sym (All-head IsSized x xs all)) ∙ parts.1 in
      ap (λ (rest : List (List ℕ)). x.text.now ∷ rest) (cut xs zero end (All-tail IsSized x xs all) before.1 upto.1) ∙ sym (one_shorter x xs parts.0 short)
    where
      of_kind : (ltb x.kind kind ≡ true) ⊎ (((x.kind == kind) && ltb x.size size) ≡ true) → (nat_eq x.kind kind ≡ true) × (ltb x.size size ≡ true)
      of_kind (inl lesser) = absurd (true≢false (sym lesser ∙ before.0))
      of_kind (inr both) = and_parts (x.kind == kind) (ltb x.size size) both
  cut (x ∷ xs) (suc first) zero all before upto =
      absurd (true≢false (sym (or_first (ltb x.kind kind) ((x.kind == kind) && ltb x.size size) before.0) ∙ upto.0))
  cut (x ∷ xs) (suc first) (suc end) all before upto =
      cut xs first end (All-tail IsSized x xs all) before.1 upto.1 ∙ sym (other_kind x xs (lesser_kind x.kind (ltb-true x.kind kind before.0)))
    where
      by : (n : ℕ) (b : Bool) → nat_eq n kind ≡ b → n < kind → b ≡ false
      by n false is less = refl
      by n true is less = absurd (omega (arith, eqb-true n kind is, less))

      lesser_kind : (n : ℕ) → n < kind → nat_eq n kind ≡ false
      lesser_kind n less = by n (nat_eq n kind) refl less

  -- the one point isn't after the other
  points_rise : (xs : List Word) (first end : ℕ) → IsCutAt (is_before_kind kind) xs first → IsCutAt (is_shorter_to kind size) xs end → first ≤ end
  points_rise [] first end before upto = omega (arith, before)
  points_rise (x ∷ xs) zero end before upto = omega arith
  points_rise (x ∷ xs) (suc first) zero before upto =
      absurd (true≢false (sym (or_first (ltb x.kind kind) ((x.kind == kind) && ltb x.size size) before.0) ∙ upto.0))
  points_rise (x ∷ xs) (suc first) (suc end) before upto = omega (arith, points_rise xs first end before.1 upto.1)

module _ (kind size : ℕ) (xs : List Word) (all : All IsSized xs) (first end : ℕ) (first_within : first ≤ length xs) (end_within : end ≤ length xs)
    (before : IsPartitionPoint (λ x. is_before_kind kind x ≡ true) (λ x. is_before_kind kind x ≡ false) xs first)
    (upto : IsPartitionPoint (λ x. is_shorter_to kind size x ≡ true) (λ x. is_shorter_to kind size x ≡ false) xs end) where
  before_cut : IsCutAt (is_before_kind kind) xs first
  before_cut = from_point (is_before_kind kind) xs first first_within before

  upto_cut : IsCutAt (is_shorter_to kind size) xs end
  upto_cut = from_point (is_shorter_to kind size) xs end end_within upto

  pub rises : first ≤ end
  rises = points_rise kind size xs first end before_cut upto_cut

  pub shorter_words : map word_bytes_of (between first end (map kind_word xs)) ≡ shorter_than size (bytes_of_kind (map kind_word xs) kind)
  shorter_words =
      ap (λ (l : List KindWord). map word_bytes_of l) (between_is (map kind_word xs) first end) ∙ cut kind size xs first end all before_cut upto_cut
