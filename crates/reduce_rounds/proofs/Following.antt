-- Followed over a map of verdicts, the plan is the recursion.
use Rattle.std.proofs.Common.{◌≡◌, ℕ, suc, zero, ◌+◌, ◌<◌, ◌^◌, Bool, true, false, List, length, Option, Some, None, IsSome, refl, sym, ap, ◌∙◌, subst, arith}
use Rattle.std.proofs.lemmas.Bool.{false≢true}
use Rattle.script_gate_trait.specs.declared.gate.Verdict.{Verdict}
use Rattle.script_gate_trait.specs.declared.gate.Verdict.TheVariants.{Yes, No}
use Rattle.reduce_step.specs.Plan.{Plan, End, Ask, StepResult, HasEnded, follow}
use Rattle.reduce_rounds.specs.Trials.{Trials, Done, Try}
use Rattle.reduce_rounds.specs.Mode.{RoundMode}
use Rattle.std.specs.Option.{option_map_or}
use Rattle.reduce_rounds.specs.Reduction.{Reduction, asks_first, capped_count, ends_with, reduction}
use Rattle.reduce_rounds.specs.ByTrials.{recursion_of, reduction_of}
use Rattle.reduce_rounds.specs.RoundsPlan.{ask_if, plan_first, plan_in, plan_next, plan_opening, plan_rounds, plan_within, step_result}
use Rattle.reduce_rounds.specs.Laws.{IsTheReduction, RefusesAtNo}
use Rattle.reduce_rounds.specs.Verdicts.{HasVerdicts, says_yes}
use Rattle.reduce_rounds.proofs.Continued.{all_rounds, by_test, next_round, one_round_more, reduction-in, reduction_in, rounds_in, tried_in}

module _ {T : Type 0} (mode : RoundMode T) (V : List ℕ → Option Verdict) where
  abbrev pub result_from : ℕ → ℕ → Reduction T → StepResult
  result_from used rounds r = step_result mode r.state (capped_count (used + length r.questions)) (capped_count (rounds + r.rounds)) r.refused

  -- after so many tests and rounds the plan is the recursion
  pub record Follows (used rounds : ℕ) (plan : Plan) (r : Reduction T) : Type 0 where
    pub ends : HasVerdicts V r.questions → follow V plan ≡ End (result_from used rounds r)
    pub defined : HasEnded (follow V plan) → HasVerdicts V r.questions

  same_result : (state : T) (used used' rounds rounds' : ℕ) (refused : Bool) → used ≡ used' → rounds ≡ rounds'
      → step_result mode state used rounds refused ≡ step_result mode state used' rounds' refused
  same_result state used used' rounds rounds' refused p q = λ i. step_result mode state (p i) (q i) refused

  answered : (o : Option Verdict) (text : List ℕ) (used rounds : ℕ) (y n : Plan) (ry rn : Reduction T) → V text ≡ o
      → Follows (capped_count (used + 1)) rounds y ry → Follows (capped_count (used + 1)) rounds n rn
      → Follows used rounds (Ask text y n) (by_test true (says_yes V text) text ry rn)
  answered None text used rounds y n ry rn is at_yes at_no = record {
    ends = λ has. absurd (let some = has.0 in false≢true (subst (λ o. IsSome o) is some));
    defined =
        λ ended. absurd (let still : follow V (Ask text y n) ≡ Ask text y n = rw is refl in let none : Some text ≡ None = subst HasEnded still ended in (cc));
  }
  answered (Some Yes) text used rounds y n ry rn is at_yes at_no =
      let to : follow V (Ask text y n) ≡ follow V y = rw is refl in
      let by : by_test true (says_yes V text) text ry rn ≡ asks_first text ry = rw is refl in
      subst (Follows used rounds (Ask text y n)) (sym by) (record {
        ends = λ has. to ∙ at_yes.ends has.1 ∙ ap End (same_result ry.state _ _ _ _ ry.refused (omega arith) refl);
        defined = λ ended. (rw is refl, at_yes.defined (subst HasEnded to ended));
      })
  answered (Some No) text used rounds y n ry rn is at_yes at_no =
      let to : follow V (Ask text y n) ≡ follow V n = rw is refl in
      let by : by_test true (says_yes V text) text ry rn ≡ asks_first text rn = rw is refl in
      subst (Follows used rounds (Ask text y n)) (sym by) (record {
        ends = λ has. to ∙ at_no.ends has.1 ∙ ap End (same_result rn.state _ _ _ _ rn.refused (omega arith) refl);
        defined = λ ended. (rw is refl, at_no.defined (subst HasEnded to ended));
      })

  asked_or_passed : (listed : Bool) (text : List ℕ) (used rounds : ℕ) (y n p : Plan) (ry rn : Reduction T)
      → Follows (capped_count (used + 1)) rounds y ry → Follows (capped_count (used + 1)) rounds n rn → Follows used rounds p rn
      → Follows used rounds (ask_if listed text y n p) (by_test listed (says_yes V text) text ry rn)
  asked_or_passed true text used rounds y n p ry rn at_yes at_no passed = answered (V text) text used rounds y n ry rn refl at_yes at_no
  asked_or_passed false text used rounds y n p ry rn at_yes at_no passed = passed

  in_trials : (rounds : ℕ) (go : T → Bool → ℕ → Plan) (go' : T → Bool → Reduction T)
      → ((state : T) (changed : Bool) (used : ℕ) → used < 2 ^ 64 → Follows used rounds (go state changed used) (go' state changed))
      → (state : T) (trials : Trials T) (changed : Bool) (used : ℕ) → used < 2 ^ 64
      → Follows used rounds (plan_in mode go state trials changed used) (tried_in mode (says_yes V) go' state trials changed)
  in_trials rounds go go' each state Done changed used fits = each state changed used fits
  in_trials rounds go go' each state (Try other at_yes at_no) changed used fits =
      asked_or_passed (mode.is_listed other) (mode.text other) used rounds _ _ _ _ _
      (in_trials rounds go go' each other at_yes true (capped_count (used + 1)) (omega arith))
      (in_trials rounds go go' each state at_no changed (capped_count (used + 1)) (omega arith))
      (in_trials rounds go go' each state at_no changed used fits)

  at_end : (used rounds : ℕ) (state : T) (refused : Bool) → used < 2 ^ 64 → rounds < 2 ^ 64
      → Follows used rounds (End (step_result mode state used rounds refused)) (ends_with state refused)
  at_end used rounds state refused fits fits' = record {
    ends = λ has. ap End (same_result state _ _ _ _ refused (omega arith) (omega arith));
    defined = λ ended. tt;
  }

  one_more : (used rounds : ℕ) (plan : Plan) (r : Reduction T) → Follows used (capped_count (rounds + 1)) plan r → Follows used rounds plan (one_round_more r)
  one_more used rounds plan r later = record {
    ends = λ has. later.ends has ∙ ap End (same_result r.state _ _ _ _ r.refused refl (omega arith));
    defined = later.defined;
  }

  in_phase : (used rounds : ℕ) (state : T) (go : T → Plan) (go' : T → Reduction T) (o : Option T) → used < 2 ^ 64 → rounds < 2 ^ 64
      → ((next : T) → Follows used rounds (go next) (go' next))
      → Follows used rounds (option_map_or go o (End (step_result mode state used rounds false))) (option_map_or go' o (ends_with state false))
  in_phase used rounds state go go' None fits fits' later = at_end used rounds state false fits fits'
  in_phase used rounds state go go' (Some next) fits fits' later = later next

  next : (used rounds : ℕ) (state : T) (changed : Bool) (go : ℕ → ℕ → T → Plan) (go' : T → Reduction T) → used < 2 ^ 64
      → ((remaining : T) → Follows used (capped_count (rounds + 1)) (go (capped_count (rounds + 1)) used remaining) (go' remaining))
      → Follows used rounds (plan_next mode go rounds state changed used) (next_round mode.next_phase go' state changed)
  next used rounds state true go go' fits later = one_more used rounds _ _ (later state)
  next used rounds state false go go' fits later =
      one_more used rounds _ _
      (in_phase used (capped_count (rounds + 1)) state (go (capped_count (rounds + 1)) used) go' (mode.next_phase state) fits (omega arith) later)

  in_rounds : (n rounds used : ℕ) (state : T) → used < 2 ^ 64 → rounds < 2 ^ 64
      → Follows used rounds (plan_within n mode rounds used state) (rounds_in mode (says_yes V) n state)
  unfolding plan_within
  in_rounds zero rounds used state fits fits' = at_end used rounds state false fits fits'
  in_rounds (suc n) rounds used state fits fits' =
      in_trials rounds _ _
      (λ remaining changed used' low. next used' rounds remaining changed (λ r u l. plan_within n mode r u l) (λ l. rounds_in mode (says_yes V) n l) low
      (λ l. in_rounds n (capped_count (rounds + 1)) used' l low (omega arith)))
      state (mode.round state) false used fits

  in_all_rounds : (used : ℕ) (state : T) → used < 2 ^ 64 → Follows used 0 (plan_rounds mode 0 used state) (all_rounds mode (says_yes V) state)
  unfolding plan_rounds
  in_all_rounds used state fits = in_rounds (suc (mode.measure state)) 0 used state fits (omega arith)

  one_test : 1 ≡ capped_count (0 + 1)
  one_test = omega arith

  whole : Follows 0 0 (plan_first mode) (reduction_in mode (says_yes V))
  whole =
      answered (V (mode.text mode.start)) (mode.text mode.start) 0 0 _ _ _ _ refl
      (subst (λ u. Follows u 0 (plan_opening mode 0 mode.start mode.opening 1)
      (tried_in mode (says_yes V) (λ state changed. all_rounds mode (says_yes V) state) mode.start mode.opening false)) one_test
      (in_trials 0 (λ remaining changed used'. plan_rounds mode 0 used' remaining) (λ state changed. all_rounds mode (says_yes V) state)
      (λ remaining changed used' low. in_all_rounds used' remaining low) mode.start mode.opening false 1 (omega arith)))
      (subst (λ u. Follows u 0 (End (step_result mode mode.start 1 0 true)) (ends_with mode.start true)) one_test
      (at_end 1 0 mode.start true (omega arith) (omega arith)))

  pub follows_reduction : IsTheReduction (plan_first mode) (recursion_of mode) V
  follows_reduction =
      let r : Reduction T = reduction_of mode (says_yes V) in
      let both : Follows 0 0 (plan_first mode) (reduction_of mode (says_yes V)) =
      subst (Follows 0 0 (plan_first mode)) (sym (reduction-in mode (says_yes V))) whole in
      record {
        ends = λ has. both.ends has ∙ ap End (same_result r.state _ _ _ _ r.refused (omega arith) (omega arith));
        defined = both.defined;
      }

-- Rounds are made of a start that wasn't refused.

module _ {T : Type 0} (mode : RoundMode T) (verdict : List ℕ → Bool) where
  abbrev pub IsKept : Reduction T → Type 0
  IsKept r = r.refused ≡ false

  kept-test : (listed answer : Bool) (text : List ℕ) (ry rn : Reduction T) → IsKept ry → IsKept rn → IsKept (by_test listed answer text ry rn)
  kept-test false answer text ry rn at_yes at_no = at_no
  kept-test true true text ry rn at_yes at_no = at_yes
  kept-test true false text ry rn at_yes at_no = at_no

  kept-in : (go : T → Bool → Reduction T) → ((state : T) (changed : Bool) → IsKept (go state changed)) → (state : T) (trials : Trials T) (changed : Bool)
      → IsKept (tried_in mode verdict go state trials changed)
  kept-in go each state Done changed = each state changed
  kept-in go each state (Try other at_yes at_no) changed =
      kept-test (mode.is_listed other) (verdict (mode.text other)) (mode.text other) _ _ (kept-in go each other at_yes true)
      (kept-in go each state at_no changed)

  kept-phase : (go : T → Reduction T) (state : T) (o : Option T) → ((next : T) → IsKept (go next)) → IsKept (option_map_or go o (ends_with state false))
  kept-phase go state None each = refl
  kept-phase go state (Some next) each = each next

  kept-next : (go : T → Reduction T) (state : T) (changed : Bool) → ((remaining : T) → IsKept (go remaining))
      → IsKept (next_round mode.next_phase go state changed)
  kept-next go state true each = each state
  kept-next go state false each = kept-phase go state (mode.next_phase state) each

  kept-rounds : (n : ℕ) (state : T) → IsKept (rounds_in mode verdict n state)
  kept-rounds zero state = refl
  kept-rounds (suc n) state =
      kept-in (next_round mode.next_phase (λ remaining. rounds_in mode verdict n remaining))
      (λ remaining changed. kept-next (λ r. rounds_in mode verdict n r) remaining changed (λ r. kept-rounds n r)) state (mode.round state) false

  pub kept-opening : IsKept (tried_in mode verdict (λ state changed. all_rounds mode verdict state) mode.start mode.opening false)
  kept-opening =
      kept-in (λ state changed. all_rounds mode verdict state) (λ state changed. kept-rounds (suc (mode.measure state)) state) mode.start mode.opening false

pub refuses_at_no : {T : Type 0} (mode : RoundMode T) → RefusesAtNo (plan_first mode) (recursion_of mode)
unfolding reduction
refuses_at_no mode V = (
  λ is. ap (λ r. r.refused) (reduction-in mode (says_yes V)) ∙ rw is (kept-opening mode (says_yes V)),
  λ isn't. (let to : follow V (plan_first mode) ≡ End (step_result mode mode.start 1 0 true) = rw isn't refl in subst HasEnded (sym to) refl, rw isn't refl),
)
