-- A reduction whose start has a yes doesn't refuse it.
use Rattle.std.proofs.Common.{◌≡◌, ◌∙◌, ℕ, zero, suc, Bool, true, false, cond, List, Option, Some, None, refl, ap}
use Rattle.std.specs.Option.{option_map_or}
use Rattle.reduce_rounds.specs.Reduction.{Recursion, Reduction, RoundEnd, after_opening, ends_with, next_rounds, reduction, rounds_of, rounds_within}

module _ {T : Type 0} (recursion : Recursion T) (verdict : List ℕ → Bool) where
  in_phase : (go : T → Reduction T) → ((state : T) → (go state).refused ≡ false) → (state : T) (o : Option T)
      → (option_map_or go o (ends_with state false)).refused ≡ false
  in_phase go each state None = refl
  in_phase go each state (Some next) = each next

  next : (go : T → Reduction T) → ((state : T) → (go state).refused ≡ false) → (round : RoundEnd T)
      → (next_rounds recursion.next_phase go round).refused ≡ false
  next go each round = by round.changed
    where
      by : (changed : Bool)
          → (cond changed (go round.state) (option_map_or go (recursion.next_phase round.state) (ends_with round.state false))).refused ≡ false
      by true = each round.state
      by false = in_phase go each round.state (recursion.next_phase round.state)

  within_not_refused : (n : ℕ) (state : T) → (rounds_within n recursion verdict state).refused ≡ false
  unfolding rounds_within
  within_not_refused zero state = refl
  within_not_refused (suc n) state =
      next (λ remaining. rounds_within n recursion verdict remaining) (λ remaining. within_not_refused n remaining) (recursion.round verdict state)

  -- rounds refuse nothing
  pub rounds_not_refused : (state : T) → (rounds_of recursion verdict state).refused ≡ false
  unfolding rounds_of
  rounds_not_refused state = within_not_refused (suc (recursion.measure state)) state

  pub start_not_refused : verdict (recursion.text recursion.start) ≡ true → (reduction recursion verdict).refused ≡ false
  unfolding reduction
  start_not_refused at_start =
      let opened : Reduction T = after_opening (recursion.opening verdict) (rounds_of recursion verdict (recursion.opening verdict).state) in
      ap (λ (b : Bool). (cond b opened (ends_with recursion.start true)).refused) at_start
      ∙ rounds_not_refused (recursion.opening verdict).state
