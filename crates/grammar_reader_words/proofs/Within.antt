-- The words of a text are within its bytes.
use Rattle.std.specs.Prelude.{⊤}
use Rattle.std.proofs.Common.{◌≤◌, ℕ, zero, suc, ◌-◌, List, [], ◌∷◌, Option, Some, None, length, arith}
use Rattle.std.specs.Str.{chars, encode_utf8_all}
use Rattle.grammar_reader_words.specs.Spans.{span_of, spans_at, spans_from, spans_gap, spans_of, spans_with, word_rest}
use Rattle.grammar_reader_words.specs.Words.{gap, without_mark, word}
use Rattle.grammar_reader_words.specs.declared.span.Span.{Span}
use Rattle.grammar_reader_words.proofs.Bytes.{ends_bytes}
use Rattle.grammar_reader_words.proofs.Spanning.{word_rest_ends}
use Rattle.grammar_reader_words.proofs.Tails.{RestEnds, one_more}

abbrev pub IsWithin : ℕ → Span → Type 0
IsWithin total span = (span.start ≤ span.end) × (span.end ≤ total)

abbrev pub AreWithin : ℕ → List Span → Type 0
AreWithin total [] = ⊤
AreWithin total (span ∷ spans) = IsWithin total span × AreWithin total spans

module _ (total : ℕ) where
  is_within : (c : ℕ) (cs : List ℕ) (o : Option (List ℕ)) → RestEnds cs o → IsWithin total (span_of total (c ∷ cs) o)
  is_within c cs None e = (omega arith, omega arith)
  is_within c cs (Some rest) e = let less : length (encode_utf8_all rest) ≤ length (encode_utf8_all (c ∷ cs)) =
      ends_bytes (one_more c e) in (omega (arith, less), omega arith)

  by_rest : (c : ℕ) (cs : List ℕ) (o : Option (List ℕ)) (go : List ℕ → List Span) → RestEnds cs o → ((rest : List ℕ) → AreWithin total (go rest))
      → AreWithin total (spans_with total (c ∷ cs) o go)
  by_rest c cs None go e within = (is_within c cs None e, tt)
  by_rest c cs (Some rest) go e within = (is_within c cs (Some rest) e, within rest)

  by_gap : (o : Option (List ℕ)) (go : List ℕ → List Span) (current : List Span) → ((rest : List ℕ) → AreWithin total (go rest)) → AreWithin total current
      → AreWithin total (spans_gap o go current)
  by_gap None go current within here = here
  by_gap (Some rest) go current within here = within rest

  from_within : (skip : ℕ) (cs : List ℕ) → AreWithin total (spans_from total skip cs)
  from_within skip [] = tt
  from_within (suc skip) (c ∷ cs) = from_within skip cs
  from_within zero (c ∷ cs) =
      by_gap (gap (c ∷ cs)) (λ rest. spans_from total (length cs - length rest) cs)
      (spans_with total (c ∷ cs) (word_rest (word (c ∷ cs))) (λ rest. spans_from total (length cs - length rest) cs))
      (λ rest. from_within (length cs - length rest) cs)
      (by_rest c cs (word_rest (word (c ∷ cs))) (λ rest. spans_from total (length cs - length rest) cs) (word_rest_ends total c cs)
      (λ rest. from_within (length cs - length rest) cs))

pub spans_within : (bytes : List ℕ) → AreWithin (length bytes) (spans_of bytes)
unfolding spans_at
spans_within bytes = from_within (length bytes) 0 (without_mark (chars bytes))
