-- The separators of the first tokens, one after another.
use denote.Ref.{Bor}
use Rattle.std.proofs.Common.{◌≡◌, ◌⊎◌, inl, inr, ◌+◌, ◌<◌, ◌≤◌, ◌++◌, ℕ, List, [], ◌∷◌, length, slice_index_or, arith, length-append, ap, sym, ◌∙◌}
use Rattle.std.proofs.lemmas.Bool.{cases_lt}
use Rattle.std.proofs.lemmas.List.{get_or_append_left, get_or_push}
use Rattle.grammar_tree.specs.Lexes.{PlacedToken}
use Rattle.token_print.specs.Spelling.{gap_text}
use Rattle.token_print.specs.declared.style.Skips.{Skips}
use Rattle.token_print.specs.Printed.{separator}
use Rattle.cert_check_texts.specs.inner.Reached.{AreSeparators}

module _ (skips : Skips) (start : List ℕ) (tokens : List PlacedToken) where
  pub no_separators : (all : List (Bor (List ℕ))) → all ≡ [] → AreSeparators skips start tokens 0 all
  no_separators all none = record { long = ap (λ (l : List (Bor (List ℕ))). length l) none; separate = λ index d below. absurd (omega (arith, below)) }

  pub more_separators : (count : ℕ) (all all' : List (Bor (List ℕ))) (next : Bor (List ℕ)) → all' ≡ all ++ next ∷ []
      → next.now ≡ separator skips (gap_text start tokens count) → AreSeparators skips start tokens count all
      → AreSeparators skips start tokens (count + 1) all'
  more_separators count all all' next is next_is are = record {
    long = omega (arith, ap (λ (l : List (Bor (List ℕ))). length l) is, length-append all (next ∷ []), are.long);
    separate = λ index d below. by index d below (cases_lt index count);
  }
    where
      by : (index : ℕ) (d : Bor (List ℕ)) → index < count + 1 → (index < count) ⊎ (count ≤ index)
          → (slice_index_or all' index d).now ≡ separator skips (gap_text start tokens index)
      by index d below (inl early) =
          ap (λ (l : List (Bor (List ℕ))). (slice_index_or l index d).now) is
          ∙ ap (λ (b : Bor (List ℕ)). b.now) (get_or_append_left all (next ∷ []) d index (omega (arith, early, are.long))) ∙ are.separate index d early
      by index d below (inr late) =
          let same : index ≡ length all = omega (arith, below, late, are.long) in
          let last : index ≡ count = omega (arith, below, late) in
          ap (λ (l : List (Bor (List ℕ))). (slice_index_or l index d).now) is
          ∙ ap (λ (b : Bor (List ℕ)). b.now) (get_or_push all next d index (sym same)) ∙ next_is
          ∙ ap (λ (k : ℕ). separator skips (gap_text start tokens k)) (sym last)
