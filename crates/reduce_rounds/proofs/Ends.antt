-- The end of a reduction is a yes, and each listed edit of it a no.
use Rattle.std.proofs.Common.{◌≡◌, ⊎_elim, ℕ, suc, zero, ◌<◌, ◌≤◌, Bool, true, false, cond, List, ◌∷◌, Option, Some, None, IsSome, refl, sym, ◌∙◌, subst, arith}
use Rattle.std.proofs.lemmas.Bool.{false≢true}
use Rattle.script_gate_trait.specs.declared.gate.Verdict.{Verdict}
use Rattle.script_gate_trait.specs.declared.gate.Verdict.TheVariants.{Yes, No}
use Rattle.reduce_rounds.specs.Trials.{Trials, Done, Try, AllTried, EachIsSmaller, IsTriedAtNo}
use Rattle.reduce_rounds.specs.Mode.{BeginsPhase, IsLawful, PhasesAgree, RoundMode, TriesEdits}
use Rattle.std.specs.Prelude.{IfSome}
use Rattle.std.specs.Option.{option_map_or}
use Rattle.reduce_rounds.specs.Reduction.{Reduction, ends_with}
use Rattle.reduce_rounds.specs.ByTrials.{reduction_of}
use Rattle.reduce_rounds.specs.Laws.{EndsMinimal, EndsWell}
use Rattle.reduce_rounds.specs.Verdicts.{HasVerdicts, says_yes}
use Rattle.reduce_rounds.proofs.Continued.{all_rounds, by_test, next_round, one_round_more, reduction-in, reduction_in, rounds_in, tried_in}

module _ {T : Type 0} (mode : RoundMode T) (Kept : T → Type 0) (V : List ℕ → Option Verdict) where
  -- the state is a listed yes that is kept
  record IsYes (state : T) : Type 0 where
    says : V (mode.text state) ≡ Some Yes
    listed : mode.is_listed state ≡ true
    kept : Kept state

  -- each listed state that is tried at no has a no
  IsQuiet : Trials T → Type 0
  IsQuiet trials = (other : T) → IsTriedAtNo trials other → mode.is_listed other ≡ true → V (mode.text other) ≡ Some No

  record IsGood (r : Reduction T) : Type 0 where
    yes_at_end : IsYes r.state
    quiet : IsQuiet (mode.round r.state)
    last : mode.next_phase r.state ≡ None

  -- a test whose verdict is there
  by_cases : (listed : Bool) (text : List ℕ) (P : Reduction T → Type 0) (ry rn : Reduction T)
      → HasVerdicts V (by_test listed (says_yes V text) text ry rn).questions
      → (listed ≡ true → V text ≡ Some Yes → HasVerdicts V ry.questions → P ry)
      → ((listed ≡ true → V text ≡ Some No) → HasVerdicts V rn.questions → P rn)
      → ((r : Reduction T) → P r → P (record r { questions = text ∷ r.questions }))
      → P (by_test listed (says_yes V text) text ry rn)
  by_cases false text P ry rn has at_yes at_no more = at_no (λ is. absurd (false≢true is)) has
  by_cases true text P ry rn has at_yes at_no more =
      by_verdict (V text) refl has
    where
      by_verdict : (o : Option Verdict) → V text ≡ o → HasVerdicts V (by_test true (says_yes V text) text ry rn).questions
          → P (by_test true (says_yes V text) text ry rn)
      by_verdict None is known = absurd (let some = known.0 in false≢true (subst (λ o. IsSome o) is some))
      by_verdict (Some Yes) is known =
          let by : cond (says_yes V text) ry rn ≡ ry = rw is refl in
          subst (λ r. P (record r { questions = text ∷ r.questions })) (sym by)
          (more ry (at_yes refl is (subst (λ (r : Reduction T). HasVerdicts V r.questions) by known.1)))
      by_verdict (Some No) is known =
          let by : cond (says_yes V text) ry rn ≡ rn = rw is refl in
          subst (λ r. P (record r { questions = text ∷ r.questions })) (sym by)
          (more rn (at_no (λ _. is) (subst (λ (r : Reduction T). HasVerdicts V r.questions) by known.1)))

  -- the trials of a round, whose first trials are of a state of this size
  in_trials : (go : T → Bool → Reduction T) (begun : T) (bound : ℕ)
      → ((remaining : T) → mode.measure remaining < bound → IsYes remaining → HasVerdicts V (go remaining true).questions → IsGood (go remaining true))
      → ((remaining : T) → mode.measure remaining ≤ bound → IsYes remaining → IsQuiet (mode.round remaining) → HasVerdicts V (go remaining false).questions
      → IsGood (go remaining false))
      → (n : ℕ) (state : T) (trials : Trials T) (changed : Bool) → AllTried Kept trials → EachIsSmaller mode.measure n trials → n ≤ bound
      → (changed ≡ true → mode.measure state < bound) → mode.measure state ≤ bound
      → IsYes state → (changed ≡ false → IsQuiet trials → IsQuiet (mode.round state))
      → HasVerdicts V (tried_in mode (says_yes V) go state trials changed).questions → IsGood (tried_in mode (says_yes V) go state trials changed)
  unfolding IsQuiet
  in_trials go begun bound at_true at_false n state Done true all smaller low small within is_yes_now quiet has = at_true state (small refl) is_yes_now has
  in_trials go begun bound at_true at_false n state Done false all smaller low small within is_yes_now quiet has =
      at_false state within is_yes_now (quiet refl (λ other tried listed. absurd tried)) has
  in_trials go begun bound at_true at_false n state (Try other at_yes at_no) changed all smaller low small within is_yes_now quiet has =
      let less = smaller.0 in
      by_cases (mode.is_listed other) (mode.text other) IsGood _ _ has
      (λ listed says known. in_trials go begun bound at_true at_false (mode.measure other) other at_yes true all.1.0 smaller.1.0 (omega (arith, less))
      (λ _. omega (arith, less)) (omega (arith, less))
      (record { says = says; listed = listed; kept = all.0 }) (λ no. absurd (cc)) known)
      (λ says_no known. in_trials go begun bound at_true at_false n state at_no changed all.1.1 smaller.1.1 low small within is_yes_now
      (λ unchanged later. quiet unchanged (λ one tried listed. ⊎_elim
      (λ same. subst (λ t. V (mode.text t) ≡ Some No) same (says_no (subst (λ t. mode.is_listed t ≡ true) (sym same) listed)))
      (λ more. later one more listed) tried)) known)
      (λ r good. record { yes_at_end = good.yes_at_end; quiet = good.quiet; last = good.last })

  -- the next phase begins with a yes too
  yes_next : PhasesAgree mode → IsLawful mode Kept → (state next : T) → mode.next_phase state ≡ Some next → IsYes state → IsYes next
  yes_next agree law state next is yes_there =
      let same = subst (λ o. IfSome o (λ s. (mode.text s ≡ mode.text state) × (mode.size s ≡ mode.size state))) is (agree state) in
      let begins = subst (λ o. IfSome o (BeginsPhase mode state)) is (law.phases state yes_there.kept) in
      record {
        says = subst (λ text. V text ≡ Some Yes) (sym same.0) yes_there.says;
        listed = begins.listed ∙ yes_there.listed;
        kept = subst (λ o. IfSome o Kept) is (law.keeps.phase state yes_there.kept);
      }

  -- after a round without a yes
  in_phase : PhasesAgree mode → IsLawful mode Kept → (go : T → Reduction T) (state : T) (o : Option T) → mode.next_phase state ≡ o → IsYes state
      → IsQuiet (mode.round state) → HasVerdicts V (one_round_more (option_map_or go o (ends_with state false))).questions
      → ((next : T) → mode.measure next < mode.measure state → IsYes next → HasVerdicts V (go next).questions → IsGood (go next))
      → IsGood (one_round_more (option_map_or go o (ends_with state false)))
  in_phase agree law go state None is yes_there still known each = record { yes_at_end = yes_there; quiet = still; last = is }
  in_phase agree law go state (Some next) is yes_there still known each =
      let begins = subst (λ o. IfSome o (BeginsPhase mode state)) is (law.phases state yes_there.kept) in
      let good = each next begins.smaller (yes_next agree law state next is yes_there) known in
      record { yes_at_end = good.yes_at_end; quiet = good.quiet; last = good.last }

  in_rounds : PhasesAgree mode → IsLawful mode Kept → (n : ℕ) (state : T) → mode.measure state < n → IsYes state
      → HasVerdicts V (rounds_in mode (says_yes V) n state).questions
      → IsGood (rounds_in mode (says_yes V) n state)
  in_rounds agree law zero state enough is_yes_now has = absurd (omega arith)
  in_rounds agree law (suc n) state enough is_yes_now has =
      in_trials (next_round mode.next_phase (λ remaining. rounds_in mode (says_yes V) n remaining)) state (mode.measure state)
      (λ remaining less yes_there known. let good = in_rounds agree law n remaining (omega arith) yes_there known in
      record { yes_at_end = good.yes_at_end; quiet = good.quiet; last = good.last })
      (λ remaining within yes_there still known. in_phase agree law (λ next. rounds_in mode (says_yes V) n next) remaining (mode.next_phase remaining) refl
      yes_there still known (λ next less yes_next known'. in_rounds agree law n next (omega (arith, within, less)) yes_next known'))
      (mode.measure state) state (mode.round state) false (law.keeps.round state is_yes_now.kept) (law.smaller state is_yes_now.kept) (omega arith)
      (λ no. absurd (cc)) (omega arith) is_yes_now (λ _ still. still) has

  -- the opening's trials, of any size
  in_opening : PhasesAgree mode → IsLawful mode Kept → (state : T) (trials : Trials T) (changed : Bool) → AllTried Kept trials → IsYes state
      → HasVerdicts V (tried_in mode (says_yes V) (λ remaining changed'. all_rounds mode (says_yes V) remaining) state trials changed).questions
      → IsGood (tried_in mode (says_yes V) (λ remaining changed'. all_rounds mode (says_yes V) remaining) state trials changed)
  in_opening agree law state Done changed all yes_there has = in_rounds agree law (suc (mode.measure state)) state (omega arith) yes_there has
  in_opening agree law state (Try other at_yes at_no) changed all yes_there has =
      by_cases (mode.is_listed other) (mode.text other) IsGood _ _ has
      (λ listed says known. in_opening agree law other at_yes true all.1.0 (record { says = says; listed = listed; kept = all.0 }) known)
      (λ says_no known. in_opening agree law state at_no changed all.1.1 yes_there known)
      (λ r good. record { yes_at_end = good.yes_at_end; quiet = good.quiet; last = good.last })

  pub record GoodUnlessRefused (r : Reduction T) : Type 0 where
    good : r.refused ≡ false → IsGood r

  whole : PhasesAgree mode → IsLawful mode Kept → mode.is_listed mode.start ≡ true → HasVerdicts V (reduction_in mode (says_yes V)).questions
      → GoodUnlessRefused (reduction_in mode (says_yes V))
  whole agree law first has =
      by_cases true (mode.text mode.start) GoodUnlessRefused _ _ has
      (λ listed says known. record {
        good = λ stays. in_opening agree law mode.start mode.opening false law.keeps.opening
            (record { says = says; listed = first; kept = law.keeps.start }) known;
      })
      (λ says_no known. record { good = λ stays. absurd (false≢true (sym stays)) })
      (λ r later. record { good = λ stays. let g = later.good stays in record { yes_at_end = g.yes_at_end; quiet = g.quiet; last = g.last } })

  pub ends_well : (IsEdit : T → T → Type 0) → PhasesAgree mode → IsLawful mode Kept → TriesEdits mode Kept IsEdit → mode.is_listed mode.start ≡ true
      → (reduction_of mode (says_yes V)).refused ≡ false
      → HasVerdicts V (reduction_of mode (says_yes V)).questions → EndsWell mode Kept IsEdit V (reduction_of mode (says_yes V)).state
  unfolding IsQuiet
  ends_well IsEdit agree law tries first stays has =
      let is = reduction-in mode (says_yes V) in
      let good : GoodUnlessRefused (reduction_of mode (says_yes V)) =
      subst GoodUnlessRefused (sym is) (whole agree law first (subst (λ (r : Reduction T). HasVerdicts V r.questions) is has)) in
      let g = good.good stays in
      record {
        yes_at_end = g.yes_at_end.says;
        listed = g.yes_at_end.listed;
        kept = g.yes_at_end.kept;
        last = g.last;
        minimal = λ other edit listed. g.quiet other (tries (reduction_of mode (says_yes V)).state other g.yes_at_end.kept edit) listed;
      }

pub ends_minimal : {T : Type 0} (mode : RoundMode T) (Kept : T → Type 0) (IsEdit : T → T → Type 0) → PhasesAgree mode → EndsMinimal mode Kept IsEdit
ends_minimal mode Kept IsEdit agree law tries first V stays has = ends_well mode Kept V IsEdit agree law tries first stays has
