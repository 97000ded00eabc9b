-- Spellings in order, each once: two such lists with the same spellings are one.
use Rattle.std.proofs.Common.{◌≡◌, ◌∙◌, inl, inr, ℕ, Bool, true, false, cond, List, [], ◌∷◌, length, refl, sym, ap, subst}
use Rattle.std.specs.Prelude.{nat_eq}
use Rattle.std.specs.Cmp.{IsTotalOrder}
use Rattle.std.specs.List.{AllByRecursion}
use Rattle.std.specs.List.Sorted.{IsStrictlySortedBy}
use Rattle.std.specs.Ordering.{nat_cmp, on, ordering_reverse}
use Rattle.std.specs.declared.cmp.Ordering.{Ordering}
use Rattle.std.specs.declared.cmp.Ordering.TheVariants.{Less, Equal, Greater}
use Rattle.std.proofs.lemmas.Cmp.{nat_cmp_total, nat_list_cmp_total, on_total, then_total}
use Rattle.grammar_tree.specs.Lexes.{PlacedToken}
use Rattle.token_print.specs.Spelling.{spelling}
use Rattle.spell_shrink.specs.Words.{placed, with_word, word_order, words_of}
use Rattle.spell_shrink.proofs.SpelledWords.{Has}

by_length : IsTotalOrder (on (λ (word : List ℕ). length word) nat_cmp)
by_length = on_total (λ (word : List ℕ). length word) nat_cmp_total

word_total : IsTotalOrder word_order
word_total = then_total by_length nat_list_cmp_total

itself : (o : Ordering) → o ≡ ordering_reverse o → o ≡ Equal
itself Less same = absurd (cc same)
itself Equal same = refl
itself Greater same = absurd (cc same)

-- a number compares as equal to itself
pub same_number : (n : ℕ) → nat_cmp n n ≡ Equal
same_number n = itself (nat_cmp n n) (nat_cmp_total.antisymm n n)

not_before_itself : (word : List ℕ) → word_order word word ≡ Less → ⊥
not_before_itself word less =
    let equal = itself (word_order word word) (word_total.antisymm word word) in
    let both : Less ≡ Equal = sym less ∙ equal in
    absurd (cc both)

-- ---- two lists

abbrev IsBefore : List ℕ → List ℕ → Type 0
IsBefore word other = word_order word other ≡ Less

below : (word other : List ℕ) (words : List (List ℕ)) → AllByRecursion (IsBefore word) words → Has other words → IsBefore word other
below word other [] all has = absurd has
below word other (first ∷ words) all (inl same) = subst (IsBefore word) same all.0
below word other (first ∷ words) all (inr has) = below word other words all.1 has

same_first : (word other : List ℕ) (words others : List (List ℕ)) → AllByRecursion (IsBefore word) words → AllByRecursion (IsBefore other) others
    → Has word (other ∷ others) → Has other (word ∷ words) → other ≡ word
same_first word other words others before_words before_others (inl same) has = same
same_first word other words others before_words before_others (inr later) (inl same) = sym same
same_first word other words others before_words before_others (inr later) (inr has) =
    absurd (not_before_itself word (word_total.trans word other word (below word other words before_words has) (below other word others before_others later)))

later_has : (first other word : List ℕ) (words others : List (List ℕ)) → other ≡ first → AllByRecursion (IsBefore first) words → Has word words
    → Has word (other ∷ others) → Has word others
later_has first other word words others same before has (inl is) =
    absurd (not_before_itself first (subst (IsBefore first) (sym is ∙ same) (below first word words before has)))
later_has first other word words others same before has (inr later) = later

pub same_words : (words others : List (List ℕ)) → IsStrictlySortedBy word_order words → IsStrictlySortedBy word_order others
    → ((word : List ℕ) → Has word words → Has word others) → ((word : List ℕ) → Has word others → Has word words) → words ≡ others
unfolding IsStrictlySortedBy
same_words [] [] sorted others_sorted to from = refl
same_words [] (other ∷ others) sorted others_sorted to from = absurd (from other (inl refl))
same_words (first ∷ words) [] sorted others_sorted to from = absurd (to first (inl refl))
same_words (first ∷ words) (other ∷ others) sorted others_sorted to from =
    let is : other ≡ first = same_first first other words others sorted.0 others_sorted.0 (to first (inl refl)) (from other (inl refl)) in
    let rest : words ≡ others =
    same_words words others sorted.1 others_sorted.1
    (λ word has. later_has first other word words others is sorted.0 has (to word (inr has)))
    (λ word has. later_has other first word others words (sym is) others_sorted.0 has (from word (inr has))) in
    λ i. sym is i ∷ rest i

-- ---- one more word

before_each : (word other : List ℕ) (words : List (List ℕ)) → IsBefore word other → AllByRecursion (IsBefore other) words
    → AllByRecursion (IsBefore word) words
before_each word other [] less all = tt
before_each word other (first ∷ words) less all = (word_total.trans word other first less all.0, before_each word other words less all.1)

all_placed : (P : List ℕ → Type 0) (o : Ordering) (word other : List ℕ) (words later : List (List ℕ)) → P word → AllByRecursion P (other ∷ words)
    → AllByRecursion P later → AllByRecursion P (placed o word other words later)
all_placed P Less word other words later holds all more = (holds, all)
all_placed P Equal word other words later holds all more = all
all_placed P Greater word other words later holds all more = (all.0, more)

all_with_word : (P : List ℕ → Type 0) (word : List ℕ) (words : List (List ℕ)) → P word → AllByRecursion P words → AllByRecursion P (with_word word words)
all_with_word P word [] holds all = (holds, tt)
all_with_word P word (other ∷ words) holds all =
    all_placed P (word_order word other) word other words (with_word word words) holds all (all_with_word P word words holds all.1)

sorted_placed : (word other : List ℕ) (words later : List (List ℕ)) (o : Ordering) → word_order word other ≡ o → IsStrictlySortedBy word_order (other ∷ words)
    → IsStrictlySortedBy word_order later → (IsBefore other word → AllByRecursion (IsBefore other) later)
    → IsStrictlySortedBy word_order (placed o word other words later)
unfolding IsStrictlySortedBy
sorted_placed word other words later Less is sorted later_sorted after = ((is, before_each word other words is sorted.0), sorted)
sorted_placed word other words later Equal is sorted later_sorted after = sorted
sorted_placed word other words later Greater is sorted later_sorted after =
    let less : word_order other word ≡ Less = word_total.antisymm other word ∙ ap ordering_reverse is in
    (after less, later_sorted)

with_word_sorted : (word : List ℕ) (words : List (List ℕ)) → IsStrictlySortedBy word_order words → IsStrictlySortedBy word_order (with_word word words)
unfolding IsStrictlySortedBy
with_word_sorted word [] sorted = (tt, tt)
with_word_sorted word (other ∷ words) sorted =
    sorted_placed word other words (with_word word words) (word_order word other) refl sorted (with_word_sorted word words sorted.1)
    (λ less. all_with_word (IsBefore other) word words less sorted.0)

-- the spellings of a kind are in order, each once
pub words_sorted : (start : List ℕ) (kind : ℕ) (tokens : List PlacedToken) → IsStrictlySortedBy word_order (words_of start tokens kind)
unfolding IsStrictlySortedBy
words_sorted start kind [] = tt
words_sorted start kind (t ∷ tokens) = by (nat_eq t.kind kind) (words_sorted start kind tokens)
  where
    by : (b : Bool) → IsStrictlySortedBy word_order (words_of start tokens kind)
        → IsStrictlySortedBy word_order (cond b (with_word (spelling start t) (words_of start tokens kind)) (words_of start tokens kind))
    by true later = with_word_sorted (spelling start t) (words_of start tokens kind) later
    by false later = later
