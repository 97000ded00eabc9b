-- The reduction as one recursion over trials, in which what follows is a parameter.
use Rattle.std.proofs.Common.{◌≡◌, ℕ, suc, zero, ◌+◌, Bool, true, false, cond, List, ◌++◌, Option, refl, sym, ap, ◌∙◌}
use Rattle.std.specs.Prelude.{◌||◌}
use Rattle.std.specs.Option.{option_map_or}
use Rattle.reduce_rounds.specs.Trials.{Trials, Done, Try}
use Rattle.reduce_rounds.specs.Mode.{RoundMode}
use Rattle.reduce_rounds.specs.Reduction.{Reduction, RoundEnd, after_opening, after_question, after_round, after_yes, asks_first}
use Rattle.reduce_rounds.specs.Reduction.{ends_with, next_rounds, reduction, rounds_of, rounds_within}
use Rattle.reduce_rounds.specs.ByTrials.{opening_of, recursion_of, reduction_of, round_of, texts_of, trials_end}

pub or-true : (b : Bool) → (b || true) ≡ true
or-true true = refl
or-true false = refl

pub or-false : (b : Bool) → (b || false) ≡ b
or-false true = refl
or-false false = refl

module _ {T : Type 0} where
  -- a test of a state that may be listed, at this verdict
  abbrev pub by_test : Bool → Bool → List ℕ → Reduction T → Reduction T → Reduction T
  by_test true answer text at_yes at_no = asks_first text (cond answer at_yes at_no)
  by_test false answer text at_yes at_no = at_no

  abbrev pub one_round_more : Reduction T → Reduction T
  one_round_more r = record r { rounds = r.rounds + 1 }

  -- what follows a round, where this is the next phase of a state
  abbrev pub next_round : (T → Option T) → (T → Reduction T) → T → Bool → Reduction T
  next_round phase go state changed = one_round_more (cond changed (go state) (option_map_or go (phase state) (ends_with state false)))

  -- these texts are asked first
  abbrev pub after_texts : List (List ℕ) → Reduction T → Reduction T
  after_texts texts r = record r { questions = texts ++ r.questions }

  -- what follows trials with this end
  abbrev pub from_end : (T → Bool → Reduction T) → Bool → RoundEnd T → Reduction T
  from_end go changed last = after_texts last.questions (go last.state (changed || last.changed))

  abbrev end_by : Bool → Bool → List ℕ → RoundEnd T → RoundEnd T → RoundEnd T
  end_by listed answer text at_yes at_no = cond listed (after_question text (cond answer (after_yes at_yes) at_no)) at_no

  from_end-test : (go : T → Bool → Reduction T) (changed listed answer : Bool) (text : List ℕ) (ry rn : Reduction T) (ey en : RoundEnd T)
      → ry ≡ from_end go true ey → rn ≡ from_end go changed en → by_test listed answer text ry rn ≡ from_end go changed (end_by listed answer text ey en)
  from_end-test go changed false answer text ry rn ey en at_yes at_no = at_no
  from_end-test go changed true true text ry rn ey en at_yes at_no =
      ap (asks_first text) at_yes ∙ ap (λ c. asks_first text (after_texts ey.questions (go ey.state c))) (sym (or-true changed))
  from_end-test go changed true false text ry rn ey en at_yes at_no = ap (asks_first text) at_no

module _ {T : Type 0} (mode : RoundMode T) (verdict : List ℕ → Bool) where
  -- trials from a state on, and then `go` with the state that end_at
  abbrev pub tried_in : (T → Bool → Reduction T) → T → Trials T → Bool → Reduction T
  tried_in go state Done changed = go state changed
  tried_in go state (Try other at_yes at_no) changed =
      by_test (mode.is_listed other) (verdict (mode.text other)) (mode.text other) (tried_in go other at_yes true) (tried_in go state at_no changed)

  pub tried_in-end : (go : T → Bool → Reduction T) (state : T) (trials : Trials T) (changed : Bool)
      → tried_in go state trials changed ≡ from_end go changed (trials_end (texts_of mode) verdict state trials)
  tried_in-end go state Done changed = ap (λ c. go state c) (sym (or-false changed))
  tried_in-end go state (Try other at_yes at_no) changed =
      from_end-test go changed (mode.is_listed other) (verdict (mode.text other)) (mode.text other) _ _ (trials_end (texts_of mode) verdict other at_yes)
      (trials_end (texts_of mode) verdict state at_no)
      (tried_in-end go other at_yes true) (tried_in-end go state at_no changed)

  abbrev pub rounds_in : ℕ → T → Reduction T
  rounds_in zero state = ends_with state false
  rounds_in (suc n) state = tried_in (next_round mode.next_phase (λ remaining. rounds_in n remaining)) state (mode.round state) false

  abbrev pub all_rounds : T → Reduction T
  all_rounds state = rounds_in (suc (mode.measure state)) state

  abbrev pub reduction_in : Reduction T
  reduction_in =
      asks_first (mode.text mode.start)
      (cond (verdict (mode.text mode.start)) (tried_in (λ state changed. all_rounds state) mode.start mode.opening false) (ends_with mode.start true))

  rounds_in-within : (n : ℕ) (state : T) → rounds_within n (recursion_of mode) verdict state ≡ rounds_in n state
  unfolding rounds_within
  rounds_in-within zero state = refl
  rounds_in-within (suc n) state =
      let last : RoundEnd T = round_of mode verdict state in
      (λ i. after_round last (next_rounds mode.next_phase (λ remaining. rounds_in-within n remaining i) last))
      ∙ sym (tried_in-end (next_round mode.next_phase (λ remaining. rounds_in n remaining)) state (mode.round state) false)

  pub reduction-in : reduction_of mode verdict ≡ reduction_in
  unfolding reduction rounds_of
  reduction-in =
      let last : RoundEnd T = opening_of mode verdict in
      ap (λ r. asks_first (mode.text mode.start) (cond (verdict (mode.text mode.start)) r (ends_with mode.start true)))
      (ap (after_opening last) (rounds_in-within (suc (mode.measure last.state)) last.state)
      ∙ sym (tried_in-end (λ state changed. all_rounds state) mode.start mode.opening false))
