-- The spellings that the tokens of a start have, by the numbers of their kinds. A spelling is its bytes.
use Rattle.std.specs.Prelude.{ℕ, nat_eq, nat_lt, cond, List, [], ◌∷◌, length, filter}
use Rattle.std.specs.Ordering.{nat_cmp, ordering_then}
use Rattle.std.specs.declared.cmp.Ordering.{Ordering}
use Rattle.std.specs.declared.cmp.Ordering.TheVariants.{Less, Equal, Greater}
use Rattle.std.specs.Cmp.Lexicographic.{slice_cmp}
use Rattle.grammar_tree.specs.Lexes.{PlacedToken}
use Rattle.token_print.specs.Spelling.{spelling}

-- the one with fewer bytes comes first, and of two with as many the one whose first other byte is less
abbrev pub word_order : List ℕ → List ℕ → Ordering
word_order word other = ordering_then (nat_cmp (length word) (length other)) (slice_cmp nat_cmp word other)

-- the first word before the others, unless it is the first of them; where it comes later, with those after the first as they are given
abbrev pub placed : Ordering → List ℕ → List ℕ → List (List ℕ) → List (List ℕ) → List (List ℕ)
placed Less word other words later = word ∷ other ∷ words
placed Equal word other words later = other ∷ words
placed Greater word other words later = other ∷ later

-- one more among spellings in this order, unless it is there
abbrev pub with_word : List ℕ → List (List ℕ) → List (List ℕ)
with_word word [] = word ∷ []
with_word word (other ∷ words) = placed (word_order word other) word other words (with_word word words)

-- the spellings of the tokens of this kind, each once, in this order
abbrev pub words_of : List ℕ → List PlacedToken → ℕ → List (List ℕ)
words_of start [] kind = []
words_of start (t ∷ tokens) kind = cond (nat_eq t.kind kind) (with_word (spelling start t) (words_of start tokens kind)) (words_of start tokens kind)

-- those with fewer bytes than this
abbrev pub shorter_than : ℕ → List (List ℕ) → List (List ℕ)
shorter_than size words = filter (λ word. nat_lt (length word) size) words
