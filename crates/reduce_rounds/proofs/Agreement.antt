-- Reductions over maps of verdicts that agree are equal.
use Rattle.std.proofs.Common.{◌≡◌, ℕ, suc, zero, Bool, true, false, List, Option, Some, None, IsSome, refl, sym, ap, ◌∙◌, subst}
use Rattle.std.proofs.lemmas.Bool.{false≢true}
use Rattle.script_gate_trait.specs.declared.gate.Verdict.{Verdict}
use Rattle.script_gate_trait.specs.declared.gate.Verdict.TheVariants.{Yes, No}
use Rattle.reduce_rounds.specs.Trials.{Trials, Done, Try}
use Rattle.reduce_rounds.specs.Mode.{RoundMode}
use Rattle.std.specs.Option.{option_map_or}
use Rattle.reduce_rounds.specs.Reduction.{Reduction, asks_first, ends_with}
use Rattle.reduce_rounds.specs.ByTrials.{recursion_of, reduction_of}
use Rattle.reduce_rounds.specs.Laws.{AgreeingMapsReduceAlike}
use Rattle.reduce_rounds.specs.Verdicts.{Agree, HasVerdicts, says_yes}
use Rattle.reduce_rounds.proofs.Continued.{all_rounds, by_test, next_round, one_round_more, reduction-in, reduction_in, rounds_in, tried_in}

module _ {T : Type 0} (mode : RoundMode T) (V W : List ℕ → Option Verdict) (agree : Agree V W) where
  -- the two are equal where each map has a verdict for what its own asks
  Alike : Reduction T → Reduction T → Type 0
  Alike r r' = HasVerdicts V r.questions → HasVerdicts W r'.questions → r ≡ r'

  by_verdict : (o : Option Verdict) (text : List ℕ) (ry rn ry' rn' : Reduction T) → V text ≡ o → W text ≡ o → Alike ry ry' → Alike rn rn' → IsSome o
      → Alike (by_test true (says_yes V text) text ry rn) (by_test true (says_yes W text) text ry' rn')
  unfolding Alike
  by_verdict None text ry rn ry' rn' is is' at_yes at_no some = absurd (false≢true some)
  by_verdict (Some Yes) text ry rn ry' rn' is is' at_yes at_no some =
      let by : by_test true (says_yes V text) text ry rn ≡ asks_first text ry = rw is refl in
      let by' : by_test true (says_yes W text) text ry' rn' ≡ asks_first text ry' = rw is' refl in
      λ has has'.
      by ∙ ap (asks_first text) (at_yes (subst (λ (r : Reduction T). HasVerdicts V r.questions) by has).1
      (subst (λ (r : Reduction T). HasVerdicts W r.questions) by' has').1) ∙ sym by'
  by_verdict (Some No) text ry rn ry' rn' is is' at_yes at_no some =
      let by : by_test true (says_yes V text) text ry rn ≡ asks_first text rn = rw is refl in
      let by' : by_test true (says_yes W text) text ry' rn' ≡ asks_first text rn' = rw is' refl in
      λ has has'.
      by ∙ ap (asks_first text) (at_no (subst (λ (r : Reduction T). HasVerdicts V r.questions) by has).1
      (subst (λ (r : Reduction T). HasVerdicts W r.questions) by' has').1) ∙ sym by'

  alike-test : (listed : Bool) (text : List ℕ) (ry rn ry' rn' : Reduction T) → Alike ry ry' → Alike rn rn'
      → Alike (by_test listed (says_yes V text) text ry rn) (by_test listed (says_yes W text) text ry' rn')
  unfolding Alike
  alike-test false text ry rn ry' rn' at_yes at_no = at_no
  alike-test true text ry rn ry' rn' at_yes at_no =
      λ has has'. by_verdict (V text) text ry rn ry' rn' refl (sym (agree text has.0 has'.0)) at_yes at_no has.0 has has'

  alike-in : (go go' : T → Bool → Reduction T) → ((state : T) (changed : Bool) → Alike (go state changed) (go' state changed))
      → (state : T) (trials : Trials T) (changed : Bool)
      → Alike (tried_in mode (says_yes V) go state trials changed) (tried_in mode (says_yes W) go' state trials changed)
  alike-in go go' each state Done changed = each state changed
  alike-in go go' each state (Try other at_yes at_no) changed =
      alike-test (mode.is_listed other) (mode.text other) _ _ _ _ (alike-in go go' each other at_yes true) (alike-in go go' each state at_no changed)

  alike-phase : (go go' : T → Reduction T) (state : T) (o : Option T) → ((next : T) → Alike (go next) (go' next))
      → Alike (one_round_more (option_map_or go o (ends_with state false))) (one_round_more (option_map_or go' o (ends_with state false)))
  unfolding Alike
  alike-phase go go' state None each = λ has has'. refl
  alike-phase go go' state (Some next) each = λ has has'. ap one_round_more (each next has has')

  alike-next : (go go' : T → Reduction T) (state : T) (changed : Bool) → ((remaining : T) → Alike (go remaining) (go' remaining))
      → Alike (next_round mode.next_phase go state changed) (next_round mode.next_phase go' state changed)
  unfolding Alike
  alike-next go go' state true each = λ has has'. ap one_round_more (each state has has')
  alike-next go go' state false each = alike-phase go go' state (mode.next_phase state) each

  alike-rounds : (n : ℕ) (state : T) → Alike (rounds_in mode (says_yes V) n state) (rounds_in mode (says_yes W) n state)
  unfolding Alike
  alike-rounds zero state = λ has has'. refl
  alike-rounds (suc n) state =
      alike-in (next_round mode.next_phase (λ remaining. rounds_in mode (says_yes V) n remaining))
      (next_round mode.next_phase (λ remaining. rounds_in mode (says_yes W) n remaining))
      (λ remaining changed. alike-next (λ r. rounds_in mode (says_yes V) n r) (λ r. rounds_in mode (says_yes W) n r) remaining changed
      (λ r. alike-rounds n r)) state (mode.round state) false

  whole : Alike (reduction_in mode (says_yes V)) (reduction_in mode (says_yes W))
  unfolding Alike
  whole =
      alike-test true (mode.text mode.start) _ _ _ _
      (alike-in (λ state changed. all_rounds mode (says_yes V) state) (λ state changed. all_rounds mode (says_yes W) state)
      (λ state changed. alike-rounds (suc (mode.measure state)) state) mode.start mode.opening false)
      (λ has has'. refl)

  alike : HasVerdicts V (reduction_of mode (says_yes V)).questions → HasVerdicts W (reduction_of mode (says_yes W)).questions
      → reduction_of mode (says_yes V) ≡ reduction_of mode (says_yes W)
  unfolding Alike
  alike has has' =
      let is = reduction-in mode (says_yes V) in
      let is' = reduction-in mode (says_yes W) in
      is ∙ whole (subst (λ (r : Reduction T). HasVerdicts V r.questions) is has) (subst (λ (r : Reduction T). HasVerdicts W r.questions) is' has') ∙ sym is'

pub agreeing_maps : {T : Type 0} (mode : RoundMode T) → AgreeingMapsReduceAlike (recursion_of mode)
agreeing_maps mode V W agree has has' = alike mode V W agree has has'
