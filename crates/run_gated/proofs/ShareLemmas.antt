-- What several workers did, one by one, is what their gates did together.
use Rattle.std.proofs.Common.{arith, ◌≡◌, ◌<◌, ℕ, zero, suc, List, [], ◌∷◌, Option, length, map, option_map, slice_index_or, refl, ap, ◌∙◌}
use Rattle.faults.specs.Count.{Rose}
use Rattle.script_gate_trait.specs.declared.log.Log.{Log}
use Rattle.worker_pool.specs.RunHistory.{with_all_asked}
use Rattle.run_gated.specs.Records.{all_asked}
use Rattle.run_gated.specs.Workers.{RoseAtIndex}

-- so many asks of a gate
pub record AskedSome (count : ℕ) (old new : Option Log) : Type 0 where
  pub texts : List (List ℕ)
  pub counted : length texts ≡ count
  pub answered : new ≡ option_map (with_all_asked texts) old

-- lists of texts, one for each gate, which were asked
pub record AreShares (counts : List ℕ) (old new : List (Option Log)) : Type 0 where
  pub shares : List (List (List ℕ))
  pub one_each : length shares ≡ length old
  pub counted : map (λ (share : List (List ℕ)). length share) shares ≡ counts
  pub asked : new ≡ all_asked shares old

module _ {X : Type 0} (log : X → Option Log) where
  -- the gates one by one are the gates together
  pub shares_of : (counts : List ℕ) (old new : List X) → length counts ≡ length old → length new ≡ length old
      → ((i : ℕ) (d : X) → i < length old → AskedSome (slice_index_or counts i 0) (log (slice_index_or old i d)) (log (slice_index_or new i d)))
      → AreShares counts (map log old) (map log new)
  shares_of [] [] [] many same each = record { shares = []; one_each = refl; counted = refl; asked = refl }
  shares_of [] [] (y ∷ new) many same each = absurd (omega (arith, same))
  shares_of [] (x ∷ old) new many same each = absurd (omega (arith, many))
  shares_of (count ∷ counts) [] new many same each = absurd (omega (arith, many))
  shares_of (count ∷ counts) (x ∷ old) [] many same each = absurd (omega (arith, same))
  shares_of (count ∷ counts) (x ∷ old) (y ∷ new) many same each =
      let first : AskedSome count (log x) (log y) = each 0 x (omega arith) in
      let rest : AreShares counts (map log old) (map log new) =
      shares_of counts old new (omega (arith, many)) (omega (arith, same)) (λ i d within. each (suc i) d (omega (arith, within))) in
      let long = rest.one_each in
      record {
        shares = first.texts ∷ rest.shares;
        one_each = omega (arith, long);
        counted = ap (λ (n : ℕ). n ∷ map (λ (share : List (List ℕ)). length share) rest.shares) first.counted ∙ ap (λ (ns : List ℕ). count ∷ ns) rest.counted;
        asked =
            ap (λ (l : Option Log). l ∷ map log new) first.answered
            ∙ ap (λ (ls : List (Option Log)). option_map (with_all_asked first.texts) (log x) ∷ ls) rest.asked;
      }

module _ {X : Type 0} (faults : X → ℕ) where
  -- the count at an index rose
  pub rose_at : (old new : List X) (i : ℕ) (d : X) → i < length old → length new ≡ length old
      → Rose (faults (slice_index_or old i d)) (faults (slice_index_or new i d)) → RoseAtIndex (map faults old) (map faults new) i
  rose_at [] new i d within same rose = absurd (omega (arith, within))
  rose_at (x ∷ old) [] i d within same rose = absurd (omega (arith, same))
  rose_at (x ∷ old) (y ∷ new) zero d within same rose = rose
  rose_at (x ∷ old) (y ∷ new) (suc i) d within same rose = rose_at old new i d (omega (arith, within)) (omega (arith, same)) rose

  -- no count rose
  pub all_quiet : (old new : List X) → length new ≡ length old
      → ((i : ℕ) (d : X) → i < length old → faults (slice_index_or new i d) ≡ faults (slice_index_or old i d)) → map faults new ≡ map faults old
  all_quiet [] [] same each = refl
  all_quiet [] (y ∷ new) same each = absurd (omega (arith, same))
  all_quiet (x ∷ old) [] same each = absurd (omega (arith, same))
  all_quiet (x ∷ old) (y ∷ new) same each =
      ap (λ (n : ℕ). n ∷ map faults new) (each 0 x (omega arith))
      ∙ ap (λ (ns : List ℕ). faults x ∷ ns) (all_quiet old new (omega (arith, same)) (λ i d within. each (suc i) d (omega (arith, within))))
