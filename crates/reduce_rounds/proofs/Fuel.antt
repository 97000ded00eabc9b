-- The rounds never run out: each but the last leaves a smaller state.
use Rattle.std.proofs.Common.{◌≡◌, ℕ, suc, zero, ◌+◌, ◌<◌, ◌≤◌, Bool, true, false, cond, List, Option, Some, None, refl, sym, ap, arith}
use Rattle.std.specs.Prelude.{IfSome}
use Rattle.std.specs.Option.{option_map_or}
use Rattle.std.proofs.lemmas.Bool.{false≢true}
use Rattle.reduce_step.specs.Plan.{Plan, End, Ask}
use Rattle.reduce_rounds.specs.Trials.{Trials, Done, Try, AllTried, EachIsSmaller}
use Rattle.reduce_rounds.specs.Mode.{BeginsPhase, RoundMode, IsLawful}
use Rattle.reduce_rounds.specs.Reduction.{Reduction, RoundEnd, after_question, after_round, after_yes, capped_count}
use Rattle.reduce_rounds.specs.Reduction.{ends_with, next_rounds, rounds_of, rounds_within}
use Rattle.reduce_rounds.specs.ByTrials.{recursion_of, round_of, texts_of, trials_end}
use Rattle.reduce_rounds.specs.RoundsPlan.{ask_if, plan_in, plan_next, plan_rounds, plan_within, step_result}
use Rattle.reduce_rounds.specs.inner.RoundsPlan.{plan_round}
use Rattle.reduce_rounds.specs.Laws.{GoesByItsRounds}

pub ask_if-same : (listed : Bool) (text : List ℕ) (y y' n n' p p' : Plan) → y ≡ y' → n ≡ n' → p ≡ p' → ask_if listed text y n p ≡ ask_if listed text y' n' p'
ask_if-same true text y y' n n' p p' a b c = λ i. Ask text (a i) (b i)
ask_if-same false text y y' n n' p p' a b c = c

module _ {T : Type 0} (mode : RoundMode T) (Kept : T → Type 0) where
  -- what the next phase does is the same, where it is so from each kept state of a smaller measure
  phase-same : {X : Type 0} (go go' : T → X) (end : X) (state : T) (o : Option T) → IfSome o Kept → IfSome o (BeginsPhase mode state)
      → ((next : T) → Kept next → mode.measure next < mode.measure state → go next ≡ go' next) → option_map_or go o end ≡ option_map_or go' o end
  phase-same go go' end state None kept begins each = refl
  phase-same go go' end state (Some next) kept begins each = each next kept begins.smaller

  -- what goes on after the trials is asked for kept states alone, and after a yes for smaller ones
  pub plan_in-same : (go go' : T → Bool → ℕ → Plan) (bound : ℕ)
      → ((state : T) (used : ℕ) → Kept state → mode.measure state < bound → go state true used ≡ go' state true used)
      → ((state : T) (used : ℕ) → Kept state → mode.measure state ≤ bound → go state false used ≡ go' state false used)
      → (n : ℕ) (state : T) (trials : Trials T) (changed : Bool) (used : ℕ) → Kept state → AllTried Kept trials → EachIsSmaller mode.measure n trials
      → n ≤ bound
      → (changed ≡ true → mode.measure state < bound) → mode.measure state ≤ bound
      → plan_in mode go state trials changed used ≡ plan_in mode go' state trials changed used
  plan_in-same go go' bound at_true at_false n state Done true used kept all smaller low small within = at_true state used kept (small refl)
  plan_in-same go go' bound at_true at_false n state Done false used kept all smaller low small within = at_false state used kept within
  plan_in-same go go' bound at_true at_false n state (Try other at_yes at_no) changed used kept all smaller low small within =
      let less = smaller.0 in
      ask_if-same (mode.is_listed other) (mode.text other) _ _ _ _ _ _
      (plan_in-same go go' bound at_true at_false (mode.measure other) other at_yes true (capped_count (used + 1)) all.0 all.1.0 smaller.1.0
      (omega (arith, less))
      (λ _. omega (arith, less)) (omega (arith, less)))
      (plan_in-same go go' bound at_true at_false n state at_no changed (capped_count (used + 1)) kept all.1.1 smaller.1.1 low small within)
      (plan_in-same go go' bound at_true at_false n state at_no changed used kept all.1.1 smaller.1.1 low small within)

  plan_within-more : IsLawful mode Kept → (n m rounds used : ℕ) (state : T) → Kept state → mode.measure state < n → mode.measure state < m
      → plan_within n mode rounds used state ≡ plan_within m mode rounds used state
  unfolding plan_within
  plan_within-more law zero m rounds used state kept enough enough' = absurd (omega arith)
  plan_within-more law (suc n) zero rounds used state kept enough enough' = absurd (omega arith)
  plan_within-more law (suc n) (suc m) rounds used state kept enough enough' =
      plan_in-same (plan_next mode (λ r u remaining. plan_within n mode r u remaining) rounds)
      (plan_next mode (λ r u remaining. plan_within m mode r u remaining) rounds) (mode.measure state)
      (λ remaining u kept' less. plan_within-more law n m (capped_count (rounds + 1)) u remaining kept' (omega arith) (omega arith))
      (λ remaining u kept' within.
      phase-same (λ next. plan_within n mode (capped_count (rounds + 1)) u next) (λ next. plan_within m mode (capped_count (rounds + 1)) u next)
      (End (step_result mode remaining u (capped_count (rounds + 1)) false)) remaining (mode.next_phase remaining)
      (law.keeps.phase remaining kept') (law.phases remaining kept')
      (λ next kept'' less. plan_within-more law n m (capped_count (rounds + 1)) u next kept'' (omega (arith, less, within)) (omega (arith, less, within))))
      (mode.measure state) state (mode.round state) false used kept (law.keeps.round state kept) (law.smaller state kept) (omega arith) (λ no. absurd (cc))
      (omega arith)

  -- the rounds from a kept state on are one round and what follows it
  pub plan_rounds-step : IsLawful mode Kept → (rounds used : ℕ) (state : T) → Kept state
      → plan_rounds mode rounds used state ≡ plan_round mode rounds state (mode.round state) false used
  unfolding plan_rounds plan_within
  plan_rounds-step law rounds used state kept =
      plan_in-same (plan_next mode (λ r u remaining. plan_within (mode.measure state) mode r u remaining) rounds)
      (plan_next mode (λ r u remaining. plan_within (suc (mode.measure remaining)) mode r u remaining) rounds) (mode.measure state)
      (λ remaining u kept' less. plan_within-more law (mode.measure state) (suc (mode.measure remaining)) (capped_count (rounds + 1)) u remaining kept' less
      (omega arith))
      (λ remaining u kept' within.
      phase-same (λ next. plan_within (mode.measure state) mode (capped_count (rounds + 1)) u next)
      (λ next. plan_within (suc (mode.measure next)) mode (capped_count (rounds + 1)) u next)
      (End (step_result mode remaining u (capped_count (rounds + 1)) false)) remaining (mode.next_phase remaining)
      (law.keeps.phase remaining kept') (law.phases remaining kept')
      (λ next kept'' less. plan_within-more law (mode.measure state) (suc (mode.measure next)) (capped_count (rounds + 1)) u next kept''
      (omega (arith, less, within)) (omega arith)))
      (mode.measure state) state (mode.round state) false used kept (law.keeps.round state kept) (law.smaller state kept) (omega arith) (λ no. absurd (cc))
      (omega arith)

-- The same of the recursion.

module _ {T : Type 0} (mode : RoundMode T) (verdict : List ℕ → Bool) where
  SmallerAtYes : ℕ → RoundEnd T → Type 0
  SmallerAtYes n last = last.changed ≡ true → mode.measure last.state < n

  smaller_by : (listed answer : Bool) (text : List ℕ) (n : ℕ) (ey en : RoundEnd T) → mode.measure ey.state < n → SmallerAtYes n en
      → SmallerAtYes n (cond listed (after_question text (cond answer (after_yes ey) en)) en)
  unfolding SmallerAtYes
  smaller_by false answer text n ey en at_yes at_no = at_no
  smaller_by true true text n ey en at_yes at_no = λ _. at_yes
  smaller_by true false text n ey en at_yes at_no = at_no

  -- the state that remains isn't greater, and after a yes it is smaller
  no_greater : (n : ℕ) (state : T) (trials : Trials T) → mode.measure state ≤ n → EachIsSmaller mode.measure n trials
      → mode.measure (trials_end (texts_of mode) verdict state trials).state ≤ n
  no_greater n state Done low smaller = low
  no_greater n state (Try other at_yes at_no) low smaller =
      let less = smaller.0 in
      chosen (mode.is_listed other) (verdict (mode.text other)) (trials_end (texts_of mode) verdict other at_yes)
      (trials_end (texts_of mode) verdict state at_no)
      (let at_other = no_greater (mode.measure other) other at_yes (omega arith) smaller.1.0 in omega (arith, less, at_other))
      (no_greater n state at_no low smaller.1.1)
    where
      chosen : (listed answer : Bool) (ey en : RoundEnd T) → mode.measure ey.state ≤ n → mode.measure en.state ≤ n
          → mode.measure (cond listed (after_question (mode.text other) (cond answer (after_yes ey) en)) en).state ≤ n
      chosen false answer ey en a b = b
      chosen true true ey en a b = a
      chosen true false ey en a b = b

  smaller_at_yes : (n : ℕ) (state : T) (trials : Trials T) → EachIsSmaller mode.measure n trials
      → SmallerAtYes n (trials_end (texts_of mode) verdict state trials)
  unfolding SmallerAtYes
  smaller_at_yes n state Done smaller = λ is. absurd (false≢true is)
  smaller_at_yes n state (Try other at_yes at_no) smaller =
      let less = smaller.0 in
      smaller_by (mode.is_listed other) (verdict (mode.text other)) (mode.text other) n (trials_end (texts_of mode) verdict other at_yes)
      (trials_end (texts_of mode) verdict state at_no)
      (let at_other = no_greater (mode.measure other) other at_yes (omega arith) smaller.1.0 in omega (arith, less, at_other))
      (smaller_at_yes n state at_no smaller.1.1)

  same_next : (go go' : T → Reduction T) (last : RoundEnd T) → (last.changed ≡ true → go last.state ≡ go' last.state)
      → option_map_or go (mode.next_phase last.state) (ends_with last.state false) ≡ option_map_or go' (mode.next_phase last.state) (ends_with last.state false)
      → next_rounds mode.next_phase go last ≡ next_rounds mode.next_phase go' last
  same_next go go' last same phase = by_change last.changed same
    where
      by_change : (changed : Bool) → (changed ≡ true → go last.state ≡ go' last.state)
          → cond changed (go last.state) (option_map_or go (mode.next_phase last.state) (ends_with last.state false))
          ≡ cond changed (go' last.state) (option_map_or go' (mode.next_phase last.state) (ends_with last.state false))
      by_change true same = same refl
      by_change false same = phase

  -- the state that remains is kept
  pub remaining-kept : (Kept : T → Type 0) (state : T) (trials : Trials T) → Kept state → AllTried Kept trials
      → Kept (trials_end (texts_of mode) verdict state trials).state
  remaining-kept Kept state Done kept all = kept
  remaining-kept Kept state (Try other at_yes at_no) kept all =
      chosen (mode.is_listed other) (verdict (mode.text other))
      (trials_end (texts_of mode) verdict other at_yes) (trials_end (texts_of mode) verdict state at_no)
      (remaining-kept Kept other at_yes all.0 all.1.0) (remaining-kept Kept state at_no kept all.1.1)
    where
      chosen : (listed answer : Bool) (ey en : RoundEnd T) → Kept ey.state → Kept en.state
          → Kept (cond listed (after_question (mode.text other) (cond answer (after_yes ey) en)) en).state
      chosen false answer ey en a b = b
      chosen true true ey en a b = a
      chosen true false ey en a b = b

  -- a round without a yes leaves its state
  pub same_without_yes : (state : T) (trials : Trials T) → (trials_end (texts_of mode) verdict state trials).changed ≡ false
      → (trials_end (texts_of mode) verdict state trials).state ≡ state
  same_without_yes state Done is = refl
  same_without_yes state (Try other at_yes at_no) is =
      chosen (mode.is_listed other) (verdict (mode.text other)) (trials_end (texts_of mode) verdict other at_yes)
      (trials_end (texts_of mode) verdict state at_no) (same_without_yes state at_no) is
    where
      chosen : (listed answer : Bool) (ey en : RoundEnd T) → (en.changed ≡ false → en.state ≡ state)
          → (cond listed (after_question (mode.text other) (cond answer (after_yes ey) en)) en).changed ≡ false
          → (cond listed (after_question (mode.text other) (cond answer (after_yes ey) en)) en).state ≡ state
      chosen false answer ey en later unchanged = later unchanged
      chosen true true ey en later unchanged = absurd (false≢true (sym unchanged))
      chosen true false ey en later unchanged = later unchanged

  -- a round with a yes leaves a smaller state
  pub smaller_after_yes : (Kept : T → Type 0) → IsLawful mode Kept → (state : T) → Kept state → (round_of mode verdict state).changed ≡ true
      → mode.measure (round_of mode verdict state).state < mode.measure state
  unfolding SmallerAtYes
  smaller_after_yes Kept law state kept is = smaller_at_yes (mode.measure state) state (mode.round state) (law.smaller state kept) is

  rounds_within-more : (Kept : T → Type 0) → IsLawful mode Kept → (n m : ℕ) (state : T) → Kept state → mode.measure state < n → mode.measure state < m
      → rounds_within n (recursion_of mode) verdict state ≡ rounds_within m (recursion_of mode) verdict state
  unfolding rounds_within SmallerAtYes
  rounds_within-more Kept law zero m state kept enough enough' = absurd (omega arith)
  rounds_within-more Kept law (suc n) zero state kept enough enough' = absurd (omega arith)
  rounds_within-more Kept law (suc n) (suc m) state kept enough enough' =
      let last : RoundEnd T = round_of mode verdict state in
      ap (after_round last) (same_next (λ remaining. rounds_within n (recursion_of mode) verdict remaining)
      (λ remaining. rounds_within m (recursion_of mode) verdict remaining) last
      (λ is. let less = smaller_at_yes (mode.measure state) state (mode.round state) (law.smaller state kept) is in
      rounds_within-more Kept law n m last.state (remaining-kept Kept state (mode.round state) kept (law.keeps.round state kept)) (omega (arith, less))
      (omega (arith, less)))
      (let kept' : Kept last.state = remaining-kept Kept state (mode.round state) kept (law.keeps.round state kept) in
      let within = no_greater (mode.measure state) state (mode.round state) (omega arith) (law.smaller state kept) in
      phase-same mode Kept (λ next. rounds_within n (recursion_of mode) verdict next) (λ next. rounds_within m (recursion_of mode) verdict next)
      (ends_with last.state false) last.state (mode.next_phase last.state) (law.keeps.phase last.state kept') (law.phases last.state kept')
      (λ next kept'' less. rounds_within-more Kept law n m next kept'' (omega (arith, less, within)) (omega (arith, less, within)))))

  pub rounds_of-step : (Kept : T → Type 0) → IsLawful mode Kept → (state : T) → Kept state
      → rounds_of (recursion_of mode) verdict state ≡ after_round (round_of mode verdict state)
      (next_rounds mode.next_phase (λ remaining. rounds_of (recursion_of mode) verdict remaining) (round_of mode verdict state))
  unfolding rounds_of rounds_within SmallerAtYes
  rounds_of-step Kept law state kept =
      let last : RoundEnd T = round_of mode verdict state in
      ap (after_round last) (same_next (λ remaining. rounds_within (mode.measure state) (recursion_of mode) verdict remaining)
      (λ remaining. rounds_within (suc (mode.measure remaining)) (recursion_of mode) verdict remaining) last
      (λ is. let less = smaller_at_yes (mode.measure state) state (mode.round state) (law.smaller state kept) is in
      rounds_within-more Kept law (mode.measure state) (suc (mode.measure last.state)) last.state
      (remaining-kept Kept state (mode.round state) kept (law.keeps.round state kept)) less (omega arith))
      (let kept' : Kept last.state = remaining-kept Kept state (mode.round state) kept (law.keeps.round state kept) in
      let within = no_greater (mode.measure state) state (mode.round state) (omega arith) (law.smaller state kept) in
      phase-same mode Kept (λ next. rounds_within (mode.measure state) (recursion_of mode) verdict next)
      (λ next. rounds_within (suc (mode.measure next)) (recursion_of mode) verdict next)
      (ends_with last.state false) last.state (mode.next_phase last.state) (law.keeps.phase last.state kept') (law.phases last.state kept')
      (λ next kept'' less. rounds_within-more Kept law (mode.measure state) (suc (mode.measure next)) next kept'' (omega (arith, less, within)) (omega arith))))

pub goes_by_its_rounds : {T : Type 0} (mode : RoundMode T) (Kept : T → Type 0) → IsLawful mode Kept → GoesByItsRounds (recursion_of mode) Kept
goes_by_its_rounds mode Kept law verdict state kept = rounds_of-step mode verdict Kept law state kept
