-- A text has at most one word more than bytes.
use Rattle.std.proofs.Common.{ℕ, zero, suc, ◌-◌, ◌≤◌, ◌==◌, List, [], ◌∷◌, Option, Some, None, length, ap, arith}
use Rattle.std.proofs.lemmas.Str.{encodes-chars, length-le-encodes}
use Rattle.std.specs.Str.{IsUtf8, chars}
use Rattle.grammar_reader_words.specs.Words.{brace_from, gap, is_last, listed, listed_gap, placed, settled, without_mark, word, words_from, words_of}
use Rattle.grammar_reader_words.specs.declared.word.Word.{Word}
use Rattle.grammar_reader_words.specs.declared.word.Placed.{Placed}
use Rattle.grammar_reader_words.proofs.Tails.{choose}

module _ (total : ℕ) where
  listed_few : (all cs : List ℕ) (p : Word × List ℕ) (go : List ℕ → List Placed) → ((rest : List ℕ) → length (go rest) ≤ suc (length cs))
      → length (listed total all p go) ≤ suc (suc (length cs))
  listed_few all cs p go h =
      choose (λ ws. length ws ≤ suc (suc (length cs))) (is_last p.0) {x = placed total all p.0 ∷ []}
      {y = placed total all (settled p.0 (brace_from 0 p.1)) ∷ go p.1} (omega arith) (omega (arith, h p.1))

  gap_few : (cs : List ℕ) (o : Option (List ℕ)) (go : List ℕ → List Placed) (start : List Placed) → ((rest : List ℕ) → length (go rest) ≤ suc (length cs))
      → length start ≤ suc (suc (length cs)) →
      length (listed_gap o go start) ≤ suc (suc (length cs))
  gap_few cs None go start h k = k
  gap_few cs (Some rest) go start h k = omega (arith, h rest)

  words_few : (k : ℕ) (cs : List ℕ) → length (words_from total k cs) ≤ suc (length cs)
  words_few k [] = omega arith
  words_few (suc k) (c ∷ cs) = omega (arith, words_few k cs)
  words_few zero (c ∷ cs) =
      let go : List ℕ → List Placed = λ rest. words_from total (length cs - length rest) cs in
      let few : (rest : List ℕ) → length (go rest) ≤ suc (length cs) = λ rest. words_few (length cs - length rest) cs in
      gap_few cs (gap (c ∷ cs)) go (listed total (c ∷ cs) (word (c ∷ cs)) go) few (listed_few (c ∷ cs) cs (word (c ∷ cs)) go few)

mark_few : (cs : List ℕ) → length (without_mark cs) ≤ length cs
mark_few [] = omega arith
mark_few (c ∷ cs) = choose (λ ds. length ds ≤ suc (length cs)) (c == 0xFEFF) {x = cs} {y = c ∷ cs} (omega arith) (omega arith)

-- each word but the end has a byte of its own
pub words_of_few : (bytes : List ℕ) → IsUtf8 bytes → length (words_of bytes) ≤ suc (length bytes)
unfolding words_of
words_of_few bytes u =
    let read : length (chars bytes) ≤ length bytes = omega (arith, length-le-encodes (chars bytes), ap length (encodes-chars bytes u)) in
    omega (arith, words_few (length bytes) 0 (without_mark (chars bytes)), mark_few (chars bytes))
