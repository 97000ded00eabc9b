-- The spellings of a start, each with its kind.
use Rattle.std.specs.Prelude.{◌≡◌, ℕ, nat_eq, All, List, filter, length, map, refl}
use Rattle.std.specs.Coded.{Coded, code_by, coded×, coded_ℕ, coded_list}
use Rattle.std.specs.Ordering.{nat_cmp, ordering_then}
use Rattle.std.specs.declared.cmp.Ordering.{Ordering}
use Rattle.std.specs.List.Sorted.{IsStrictlySortedBy}
use Rattle.grammar_tree.specs.Lexes.{PlacedToken}
use Rattle.spell_shrink.specs.declared.words.Word.{Word}
use Rattle.spell_shrink.specs.Words.{word_order, words_of}

pub record KindWord : Type 0 where
  pub kind : ℕ
  pub word : List ℕ

abbrev pub kind_words_coded : Coded (List KindWord)
kind_words_coded =
    coded_list (code_by (ℕ × List ℕ) (coded× coded_ℕ (coded_list coded_ℕ)) (λ w. (w.kind, w.word)) (λ p. record { kind = p.0; word = p.1 }) (λ _. refl))

abbrev pub kind_word : Word → KindWord
kind_word w = record { kind = w.kind; word = w.text.now }

abbrev pub word_bytes_of : KindWord → List ℕ
word_bytes_of w = w.word

-- by their kinds, and those of a kind in the order of spellings
abbrev pub kind_word_order : KindWord → KindWord → Ordering
kind_word_order w other = ordering_then (nat_cmp w.kind other.kind) (word_order w.word other.word)

-- Its size is how many bytes it has.
abbrev pub IsSized : Word → Type 0
IsSized w = w.size ≡ length w.text.now

-- They are in this order, each once, with their sizes.
abbrev pub AreSorted : List Word → Type 0
AreSorted words = IsStrictlySortedBy kind_word_order (map kind_word words) × All IsSized words

-- those of a kind
abbrev pub bytes_of_kind : List KindWord → ℕ → List (List ℕ)
bytes_of_kind words kind = map word_bytes_of (filter (λ (w : KindWord). nat_eq w.kind kind) words)

-- They are the spellings of the start's tokens, by their kinds.
abbrev pub AreWordsOf : List ℕ → List PlacedToken → List KindWord → Type 0
AreWordsOf start tokens words = (kind : ℕ) → bytes_of_kind words kind ≡ words_of start tokens kind
