-- Recursions that come to the same in their openings and rounds give the same reductions.
use Rattle.std.proofs.Common.{◌≡◌, ℕ, suc, zero, Bool, true, false, cond, List, Option, Some, None, refl, ap, ◌∙◌}
use Rattle.std.specs.Prelude.{IfSome}
use Rattle.std.specs.Option.{option_map_or}
use Rattle.reduce_rounds.specs.Mode.{RoundMode, Keeps}
use Rattle.reduce_rounds.specs.Reduction.{Recursion, Reduction, RoundEnd, after_opening, after_round, asks_first}
use Rattle.reduce_rounds.specs.Reduction.{ends_with, next_rounds, reduction, rounds_of, rounds_within}
use Rattle.reduce_rounds.specs.ByTrials.{opening_of, recursion_of, round_of}
use Rattle.reduce_rounds.specs.Laws.{RecursionsReduceAlike}
use Rattle.reduce_rounds.proofs.Fuel.{remaining-kept}

module _ {T : Type 0} (mode : RoundMode T) (Kept : T → Type 0) (keeps : Keeps mode Kept) (opening : (List ℕ → Bool) → RoundEnd T)
    (round : (List ℕ → Bool) → T → RoundEnd T) (verdict : List ℕ → Bool)
    (opens : opening verdict ≡ opening_of mode verdict) (same : (state : T) → Kept state → round verdict state ≡ round_of mode verdict state) where
  abbrev other : Recursion T
  other = record (recursion_of mode) { opening = opening; round = round }

  phase_same : (go go' : T → Reduction T) (end : Reduction T) (o : Option T) → IfSome o Kept → ((state : T) → Kept state → go state ≡ go' state)
      → option_map_or go o end ≡ option_map_or go' o end
  phase_same go go' end None kept each = refl
  phase_same go go' end (Some next) kept each = each next kept

  -- what follows a round is the same, where it is so from each kept state
  next_same : (go go' : T → Reduction T) (last : RoundEnd T) → Kept last.state → ((state : T) → Kept state → go state ≡ go' state)
      → next_rounds mode.next_phase go last ≡ next_rounds mode.next_phase go' last
  next_same go go' last kept each = by_change last.changed
    where
      by_change : (changed : Bool)
          → cond changed (go last.state) (option_map_or go (mode.next_phase last.state) (ends_with last.state false))
          ≡ cond changed (go' last.state) (option_map_or go' (mode.next_phase last.state) (ends_with last.state false))
      by_change true = each last.state kept
      by_change false = phase_same go go' (ends_with last.state false) (mode.next_phase last.state) (keeps.phase last.state kept) each

  pub rounds_same : (n : ℕ) (state : T) → Kept state → rounds_within n other verdict state ≡ rounds_within n (recursion_of mode) verdict state
  unfolding rounds_within
  rounds_same zero state kept = refl
  rounds_same (suc n) state kept =
      let last : RoundEnd T = round_of mode verdict state in
      ap (λ (end : RoundEnd T). after_round end (next_rounds mode.next_phase (λ remaining. rounds_within n other verdict remaining) end)) (same state kept)
      ∙ ap (after_round last)
      (next_same (λ remaining. rounds_within n other verdict remaining) (λ remaining. rounds_within n (recursion_of mode) verdict remaining) last
      (remaining-kept mode verdict Kept state (mode.round state) kept (keeps.round state kept)) (λ remaining kept'. rounds_same n remaining kept'))

  -- the same of all rounds from a state
  pub all_rounds_same : (state : T) → Kept state → rounds_of other verdict state ≡ rounds_of (recursion_of mode) verdict state
  unfolding rounds_of
  all_rounds_same state kept = rounds_same (suc (mode.measure state)) state kept

  reduction_same : reduction other verdict ≡ reduction (recursion_of mode) verdict
  unfolding reduction
  reduction_same =
      let begun : RoundEnd T = opening_of mode verdict in
      let kept : Kept begun.state = remaining-kept mode verdict Kept mode.start mode.opening keeps.start keeps.opening in
      ap (λ (r : Reduction T). asks_first (mode.text mode.start) (cond (verdict (mode.text mode.start)) r (ends_with mode.start true)))
      (ap (λ (end : RoundEnd T). after_opening end (rounds_of other verdict end.state)) opens
      ∙ ap (after_opening begun) (all_rounds_same begun.state kept))

pub recursions_reduce_alike : {T : Type 0} (mode : RoundMode T) (Kept : T → Type 0) → RecursionsReduceAlike mode Kept
recursions_reduce_alike mode Kept keeps opening round verdict opens same = reduction_same mode Kept keeps opening round verdict opens same
