-- What the fields of a machine mean.
use Rattle.std.proofs.Common.{◌≡◌, ◌+◌, ◌<◌, ℕ, Bool, true, false, cond, List, Option, Some, None, IsSome, refl, sym, ap, ◌∙◌, subst}
use Rattle.std.proofs.Math.Logic.{∥∥₁_elim}
use Rattle.std.proofs.Props.{props}
use Rattle.std.proofs.lemmas.Bool.{false≢true}
use Rattle.std.specs.Prelude.{◌||◌, IfSome}
use Rattle.std.specs.Option.{option_map_or}
use Rattle.script_gate_trait.specs.declared.gate.Verdict.{Verdict}
use Rattle.script_gate_trait.specs.declared.gate.Verdict.TheVariants.{Yes, No}
use Rattle.reduce_step.specs.Plan.{Plan, End, asked, after as plan_after}
use Rattle.reduce_rounds.specs.declared.stage.Stage.{Stage}
use Rattle.reduce_rounds.specs.declared.stage.Stage.TheVariants.{Start, Opening, Within, Ended}
use Rattle.reduce_rounds.specs.declared.stage.Progress.{Progress}
use Rattle.reduce_rounds.specs.Trials.{Trials, Done, Try, AllTried, EachIsSmaller, is_done, state_after, trials_after}
use Rattle.reduce_rounds.specs.Mode.{BeginsPhase, IsLawful, PhasesAgree, RoundMode}
use Rattle.reduce_rounds.specs.Verdicts.{is_yes}
use Rattle.reduce_rounds.specs.RoundsPlan.{ask_if, plan_in, plan_next, plan_opening, plan_rounds, step_result}
use Rattle.reduce_rounds.specs.inner.RoundsPlan.{plan_round}
use Rattle.reduce_rounds.specs.Reduction.{capped_count}
use Rattle.reduce_rounds.specs.Fields.{WentOn, listed_text, text_if}
use Rattle.reduce_rounds.specs.inner.Fields.{Becomes, HasState, IsReady, IsTrying, StaysKept, listed_trials, plan_of, result_so_far, stage_after}
use Rattle.reduce_rounds.specs.inner.FieldProps.{are_kept_prop}
use Rattle.reduce_rounds.proofs.Continued.{or-false, or-true}
use Rattle.reduce_rounds.proofs.Fuel.{ask_if-same, plan_rounds-step}

module _ {T : Type 0} (mode : RoundMode T) where
  pass-by : (listed : Bool) (text : List ℕ) (go : T → Bool → ℕ → Plan) (state : T) (current later : Trials T) (y n p : Plan) (changed : Bool) (used : ℕ)
      → plan_in mode go state current changed used ≡ ask_if listed text y n p → plan_in mode go state later changed used ≡ p
      → plan_in mode go state (cond listed current later) changed used ≡ ask_if listed text y n p
  pass-by true text go state current later y n p changed used a b = a
  pass-by false text go state current later y n p changed used a b = b

  -- to pass over what isn't listed changes nothing
  pub plan_in-listed_trials : (go : T → Bool → ℕ → Plan) (state : T) (rest : Trials T) (changed : Bool) (used : ℕ)
      → plan_in mode go state (listed_trials mode rest) changed used ≡ plan_in mode go state rest changed used
  plan_in-listed_trials go state Done changed used = refl
  plan_in-listed_trials go state (Try other at_yes at_no) changed used =
      pass-by (mode.is_listed other) (mode.text other) go state (Try other at_yes at_no) (listed_trials mode at_no) _ _ _ changed used refl
      (plan_in-listed_trials go state at_no changed used)

  listed_by : (listed : Bool) (other : T) (y n rest : Trials T) → mode.is_listed other ≡ listed → (is_done rest ≡ false → IsSome (listed_text mode rest))
      → is_done (cond listed (Try other y n) rest) ≡ false → IsSome (listed_text mode (cond listed (Try other y n) rest))
  listed_by false other y n rest is below open_ = below open_
  listed_by true other y n rest is below open_ = rw is refl

  -- what remains after passing asks, or is over
  pub listed_trials-asks : (rest : Trials T) → is_done (listed_trials mode rest) ≡ false → IsSome (listed_text mode (listed_trials mode rest))
  listed_trials-asks Done open_ = absurd (false≢true (sym open_))
  listed_trials-asks (Try other at_yes at_no) open_ =
      listed_by (mode.is_listed other) other at_yes at_no (listed_trials mode at_no) refl (listed_trials-asks at_no) open_

  pub done-is : (rest : Trials T) → is_done rest ≡ true → rest ≡ Done
  done-is Done is = refl
  done-is (Try other y n) is = absurd (false≢true is)

  pub end-is : (state : T) (progress : Progress) (used rounds : ℕ) → HasState mode state progress → progress.used ≡ used → progress.rounds ≡ rounds
      → End (result_so_far progress) ≡ End (step_result mode state used rounds false)
  end-is state progress used rounds has p q = λ i. End (record { text = has.text i; units = has.units i; used = p i; rounds = q i; refused = has.refused i })

  -- what is passed over leaves only kept states
  pub kept-listed : (Kept : T → Type 0) (state : T) (rest : Trials T) → StaysKept mode Kept state rest → StaysKept mode Kept state (listed_trials mode rest)
  kept-listed Kept state rest stays keeps = ((stays keeps).0, all-listed rest (stays keeps).1)
    where
      chosen : (P : T → Type 0) (listed : Bool) (first later : Trials T) → AllTried P first → AllTried P later → AllTried P (cond listed first later)
      chosen P true first later a b = a
      chosen P false first later a b = b

      all-listed : (rest : Trials T) → AllTried (λ other. ∥ Kept other ∥₁) rest → AllTried (λ other. ∥ Kept other ∥₁) (listed_trials mode rest)
      all-listed Done all = tt
      all-listed (Try other at_yes at_no) all =
          chosen (λ other'. ∥ Kept other' ∥₁) (mode.is_listed other) (Try other at_yes at_no) (listed_trials mode at_no) all (all-listed at_no all.1.1)

  -- an answer leads to a kept state
  pub kept-after : (Kept : T → Type 0) (state : T) (rest : Trials T) (answer : Bool) → StaysKept mode Kept state rest
      → StaysKept mode Kept (state_after state rest answer) (trials_after rest answer)
  kept-after Kept state Done answer stays keeps = stays keeps
  kept-after Kept state (Try other at_yes at_no) true stays keeps = let all = (stays keeps).1 in (all.0, all.1.0)
  kept-after Kept state (Try other at_yes at_no) false stays keeps = let all = (stays keeps).1 in ((stays keeps).0, all.1.1)

  merely_all : (Kept : T → Type 0) (rest : Trials T) → AllTried Kept rest → AllTried (λ other. ∥ Kept other ∥₁) rest
  merely_all Kept Done all = tt
  merely_all Kept (Try other at_yes at_no) all = (∣ all.0 ∣₁, (merely_all Kept at_yes all.1.0, merely_all Kept at_no all.1.1))

  -- the mode's start and opening are kept
  pub kept-first : (Kept : T → Type 0) → StaysKept mode Kept mode.start mode.opening
  kept-first Kept keeps = (∣ keeps.start ∣₁, merely_all Kept mode.opening keeps.opening)

  -- a round from a kept state is kept
  pub kept-round : (Kept : T → Type 0) (state : T) (rest : Trials T) → StaysKept mode Kept state rest → StaysKept mode Kept state (mode.round state)
  kept-round Kept state rest stays keeps =
      ∥∥₁_elim (stays keeps).0 (are_kept_prop Kept state (mode.round state)) (λ kept. (∣ kept ∣₁, merely_all Kept (mode.round state) (keeps.round state kept)))

  smaller_prop : (n : ℕ) (rest : Trials T) → IsProp (EachIsSmaller mode.measure n rest)
  smaller_prop n Done = hlevel props
  smaller_prop n (Try other at_yes at_no) = hlevel (props, smaller_prop (mode.measure other) at_yes, smaller_prop n at_no)

  begins_prop : (state : T) (o : Option T) → IsProp (IfSome o (BeginsPhase mode state))
  begins_prop state None = hlevel props
  begins_prop state (Some next) = hlevel props

  kept_phase_prop : (Kept : T → Type 0) (o : Option T) → IsProp (IfSome o (λ next. ∥ Kept next ∥₁))
  kept_phase_prop Kept None = hlevel props
  kept_phase_prop Kept (Some next) = hlevel props

  merely_phase : (Kept : T → Type 0) (o : Option T) → IfSome o Kept → IfSome o (λ next. ∥ Kept next ∥₁)
  merely_phase Kept None kept = tt
  merely_phase Kept (Some next) kept = ∣ kept ∣₁

  -- a lawful mode is lawful for the states of which at least one proof says that they are kept
  merely_lawful : (Kept : T → Type 0) → IsLawful mode Kept → IsLawful mode (λ state. ∥ Kept state ∥₁)
  merely_lawful Kept law = record {
    keeps = record {
      start = ∣ law.keeps.start ∣₁;
      opening = merely_all Kept mode.opening law.keeps.opening;
      round = λ state kept. (kept-round Kept state Done (λ keeps. (kept, tt)) law.keeps).1;
      phase = λ state kept. ∥∥₁_elim kept (kept_phase_prop Kept (mode.next_phase state))
          (λ one. merely_phase Kept (mode.next_phase state) (law.keeps.phase state one));
    };
    smaller = λ state kept. ∥∥₁_elim kept (smaller_prop (mode.measure state) (mode.round state)) (law.smaller state);
    phases = λ state kept. ∥∥₁_elim kept (begins_prop state (mode.next_phase state)) (law.phases state);
  }

  -- a phase begins with a kept state
  kept-next : (Kept : T → Type 0) (state next : T) (rest : Trials T) → StaysKept mode Kept state rest → mode.next_phase state ≡ Some next
      → StaysKept mode Kept next Done
  kept-next Kept state next rest stays is keeps = (
    ∥∥₁_elim (stays keeps).0 (hlevel props) (λ kept. ∣ subst (λ o. IfSome o Kept) is (keeps.phase state kept) ∣₁),
    tt,
  )

  -- and reads as the state before
  state-next : (state next : T) (progress : Progress) → PhasesAgree mode → mode.next_phase state ≡ Some next → HasState mode state progress
      → HasState mode next progress
  state-next state next progress agree is has =
      let same = subst (λ o. IfSome o (λ s. (mode.text s ≡ mode.text state) × (mode.size s ≡ mode.size state))) is (agree state) in
      record { text = has.text ∙ sym same.0; units = has.units ∙ sym same.1; refused = has.refused }

  -- the rounds from the state that remains are one round and what follows it
  first-round : (Kept : T → Type 0) → IsLawful mode Kept → (rounds used : ℕ) (state : T) (rest : Trials T) → StaysKept mode Kept state rest
      → plan_rounds mode rounds used state ≡ plan_round mode rounds state (mode.round state) false used
  first-round Kept law rounds used state rest stays =
      plan_rounds-step mode (λ one. ∥ Kept one ∥₁) (merely_lawful Kept law) rounds used state (stays law.keeps).0

  -- a round without a yes is the last in the last phase
  last-next : (rounds : ℕ) (state : T) (used : ℕ) → mode.next_phase state ≡ None
      → End (step_result mode state used (capped_count (rounds + 1)) false) ≡ plan_next mode (plan_rounds mode) rounds state false used
  last-next rounds state used last =
      ap (λ o. option_map_or (plan_rounds mode (capped_count (rounds + 1)) used) o (End (step_result mode state used (capped_count (rounds + 1)) false)))
      (sym last)

  -- and else the next phase follows
  phase-next : (rounds : ℕ) (state next : T) (used : ℕ) → mode.next_phase state ≡ Some next
      → plan_rounds mode (capped_count (rounds + 1)) used next ≡ plan_next mode (plan_rounds mode) rounds state false used
  phase-next rounds state next used is =
      ap (λ o. option_map_or (plan_rounds mode (capped_count (rounds + 1)) used) o (End (step_result mode state used (capped_count (rounds + 1)) false)))
      (sym is)

  -- another round begins with this state: it has the last yes's text and units, it is kept, and the plan goes on with it
  abbrev pub GoesOn : (T → Type 0) → Progress → ℕ → ℕ → Plan → T → Type 0
  GoesOn Kept progress rounds used plan new =
      HasState mode new progress × StaysKept mode Kept new Done × (plan_rounds mode (capped_count (rounds + 1)) used new ≡ plan)

  in-next : (Kept : T → Type 0) (state new : T) (rest : Trials T) (progress : Progress) (rounds used : ℕ) (o : Option T) → PhasesAgree mode
      → StaysKept mode Kept state rest → HasState mode state progress → mode.next_phase state ≡ o → WentOn o state new true
      → GoesOn Kept progress rounds used (plan_next mode (plan_rounds mode) rounds state false used) new
  in-next Kept state new rest progress rounds used None agree stays has is went = absurd (false≢true (sym went.0))
  in-next Kept state new rest progress rounds used (Some next) agree stays has is went =
      subst (GoesOn Kept progress rounds used (plan_next mode (plan_rounds mode) rounds state false used)) (sym went.1)
      (state-next state next progress agree is has, kept-next Kept state next rest stays is, phase-next rounds state next used is)

  -- after a round comes one from the state that remains, or in the next phase
  pub went-on : (Kept : T → Type 0) (state new : T) (rest : Trials T) (changed : Bool) (progress : Progress) (rounds used : ℕ) → PhasesAgree mode
      → StaysKept mode Kept state rest → HasState mode state progress → WentOn (cond changed (Some state) (mode.next_phase state)) state new true
      → GoesOn Kept progress rounds used (plan_next mode (plan_rounds mode) rounds state changed used) new
  went-on Kept state new rest true progress rounds used agree stays has went =
      subst (GoesOn Kept progress rounds used (plan_rounds mode (capped_count (rounds + 1)) used state)) (sym went.1)
      (has, λ keeps. ((stays keeps).0, tt), refl)
  went-on Kept state new rest false progress rounds used agree stays has went =
      in-next Kept state new rest progress rounds used (mode.next_phase state) agree stays has refl went

  in-last : (state new : T) (o : Option T) → mode.next_phase state ≡ o → WentOn o state new false → (mode.next_phase state ≡ None) × (new ≡ state)
  in-last state new None is went = (is, went.1)
  in-last state new (Some next) is went = absurd (false≢true went.0)

  -- or the round was the last one of the last phase, and had no yes
  pub went-nowhere : (state new : T) (changed : Bool) → WentOn (cond changed (Some state) (mode.next_phase state)) state new false
      → (changed ≡ false) × ((mode.next_phase state ≡ None) × (new ≡ state))
  went-nowhere state new true went = absurd (false≢true went.0)
  went-nowhere state new false went = (refl, in-last state new (mode.next_phase state) refl went)

  in-smaller : (state new : T) (o : Option T) → IfSome o (BeginsPhase mode state) → WentOn o state new true → mode.measure new < mode.measure state
  in-smaller state new None begins went = absurd (false≢true (sym went.0))
  in-smaller state new (Some next) begins went = subst (λ s. mode.measure s < mode.measure state) (sym went.1) begins.smaller

  -- the next phase has a smaller measure
  pub phase-smaller : (Kept : T → Type 0) → IsLawful mode Kept → (state new : T) (rest : Trials T) → StaysKept mode Kept state rest
      → WentOn (mode.next_phase state) state new true → mode.measure new < mode.measure state
  phase-smaller Kept law state new rest stays went =
      in-smaller state new (mode.next_phase state) ((merely_lawful Kept law).phases state (stays law.keeps).0) went

  -- a round that asks nothing comes to what follows it
  passed-over : (Kept : T → Type 0) → IsLawful mode Kept → (rounds used : ℕ) (state : T) (before rest : Trials T) → StaysKept mode Kept state before
      → rest ≡ listed_trials mode (mode.round state) → is_done rest ≡ true
      → plan_next mode (plan_rounds mode) rounds state false used ≡ plan_rounds mode rounds used state
  passed-over Kept law rounds used state before rest stays is over =
      ap (λ r. plan_round mode rounds state r false used) (sym (sym is ∙ done-is rest over))
      ∙ plan_in-listed_trials (plan_next mode (plan_rounds mode) rounds) state (mode.round state) false used
      ∙ sym (first-round Kept law rounds used state before stays)

  -- and so to the rounds of the next phase
  pub begun-next : (Kept : T → Type 0) → IsLawful mode Kept → (rounds used : ℕ) (state new : T) (before rest : Trials T) (progress : Progress)
      → PhasesAgree mode → StaysKept mode Kept state before → HasState mode state progress → rest ≡ listed_trials mode (mode.round state)
      → is_done rest ≡ true → WentOn (mode.next_phase state) state new true → GoesOn Kept progress rounds used (plan_rounds mode rounds used state) new
  begun-next Kept law rounds used state new before rest progress agree stays has is over went =
      let on = went-on Kept state new before false progress rounds used agree stays has went in
      (on.0, on.1, on.2 ∙ passed-over Kept law rounds used state before rest stays is over)

  -- a round that was begun: the fields after passing
  pub begun-asking : (Kept : T → Type 0) → IsLawful mode Kept → (state : T) (before rest : Trials T) (progress : Progress) → StaysKept mode Kept state before
      → rest ≡ listed_trials mode (mode.round state) → is_done rest ≡ false
      → HasState mode state progress → Becomes (plan_rounds mode progress.rounds progress.used state) mode Kept state rest (Within false) progress
  begun-asking Kept law state before rest progress stays is open_ has = record {
    same = ap (λ r. plan_round mode progress.rounds state r false progress.used) is
        ∙ plan_in-listed_trials (plan_next mode (plan_rounds mode) progress.rounds) state (mode.round state) false progress.used
        ∙ sym (first-round Kept law progress.rounds progress.used state before stays);
    asking = (
      has,
      subst (λ r. IsSome (listed_text mode r)) (sym is) (listed_trials-asks (mode.round state) (subst (λ r. is_done r ≡ false) is open_)),
      subst (StaysKept mode Kept state) (sym is) (kept-listed Kept state (mode.round state) (kept-round Kept state before stays)),
    );
  }

  pub begun-over : (Kept : T → Type 0) → IsLawful mode Kept → (state : T) (before rest : Trials T) (progress progress' : Progress)
      → StaysKept mode Kept state before → rest ≡ listed_trials mode (mode.round state) → is_done rest ≡ true
      → mode.next_phase state ≡ None
      → HasState mode state progress' → progress'.used ≡ progress.used → progress'.rounds ≡ capped_count (progress.rounds + 1)
      → Becomes (plan_rounds mode progress.rounds progress.used state) mode Kept state rest Ended progress'
  begun-over Kept law state before rest progress progress' stays is over last has p q = record {
    same = end-is state progress' progress.used (capped_count (progress.rounds + 1)) has p q
        ∙ last-next progress.rounds state progress.used last
        ∙ passed-over Kept law progress.rounds progress.used state before rest stays is over;
    asking = tt;
  }

  asking-passed : (Kept : T → Type 0) (state : T) (rest rest' : Trials T) → rest' ≡ listed_trials mode rest → is_done rest' ≡ false
      → IsSome (listed_text mode rest')
  asking-passed Kept state rest rest' is open_ =
      subst (λ r. IsSome (listed_text mode r)) (sym is) (listed_trials-asks rest (subst (λ r. is_done r ≡ false) is open_))

  -- trials that go on: the fields after passing
  pub passed-asking : (Kept : T → Type 0) (state : T) (rest rest' : Trials T) (stage : Stage) (progress : Progress) → IsTrying stage progress
      → StaysKept mode Kept state rest → rest' ≡ listed_trials mode rest → is_done rest' ≡ false → HasState mode state progress
      → Becomes (plan_of mode state rest stage progress) mode Kept state rest' stage progress
  passed-asking Kept state rest rest' Start progress trying stays is open_ has = absurd trying
  passed-asking Kept state rest rest' Opening progress trying stays is open_ has = record {
    same =
        ap (λ r. plan_opening mode progress.rounds state r progress.used) is
        ∙ plan_in-listed_trials (λ remaining changed used'. plan_rounds mode progress.rounds used' remaining) state rest false progress.used;
    asking = (has, asking-passed Kept state rest rest' is open_, subst (StaysKept mode Kept state) (sym is) (kept-listed Kept state rest stays), trying);
  }
  passed-asking Kept state rest rest' (Within changed) progress trying stays is open_ has = record {
    same =
        ap (λ r. plan_round mode progress.rounds state r changed progress.used) is
        ∙ plan_in-listed_trials (plan_next mode (plan_rounds mode) progress.rounds) state rest changed progress.used;
    asking = (has, asking-passed Kept state rest rest' is open_, subst (StaysKept mode Kept state) (sym is) (kept-listed Kept state rest stays));
  }
  passed-asking Kept state rest rest' Ended progress trying stays is open_ has = absurd trying

  -- trials that are over
  pub opening-over : (state : T) (rest rest' : Trials T) (progress : Progress) → rest' ≡ listed_trials mode rest → rest' ≡ Done
      → plan_rounds mode progress.rounds progress.used state ≡ plan_opening mode progress.rounds state rest progress.used
  opening-over state rest rest' progress is over =
      ap (λ r. plan_opening mode progress.rounds state r progress.used) (sym (sym is ∙ over))
      ∙ plan_in-listed_trials (λ remaining changed used'. plan_rounds mode progress.rounds used' remaining) state rest false progress.used

  pub round-over : (state : T) (rest rest' : Trials T) (changed : Bool) (rounds used : ℕ) → rest' ≡ listed_trials mode rest → rest' ≡ Done
      → plan_next mode (plan_rounds mode) rounds state changed used ≡ plan_round mode rounds state rest changed used
  round-over state rest rest' changed rounds used is over =
      ap (λ r. plan_round mode rounds state r changed used) (sym (sym is ∙ over))
      ∙ plan_in-listed_trials (plan_next mode (plan_rounds mode) rounds) state rest changed used

  asked-by : (listed : Bool) (text : List ℕ) (y n p : Plan) (verdict : Verdict) → IsSome (text_if listed text) → (P : Plan → Type 0) → (verdict ≡ Yes → P y)
      → (verdict ≡ No → P n)
      → P (plan_after (ask_if listed text y n p) verdict)
  asked-by false text y n p verdict some P at_yes at_no = absurd (false≢true some)
  asked-by true text y n p Yes some P at_yes at_no = at_yes refl
  asked-by true text y n p No some P at_yes at_no = at_no refl

  answered-in : (go : T → Bool → ℕ → Plan) (state : T) (rest : Trials T) (changed : Bool) (used : ℕ) (verdict : Verdict) → IsSome (listed_text mode rest)
      → plan_in mode go (state_after state rest (is_yes (Some verdict))) (trials_after rest (is_yes (Some verdict))) (changed || is_yes (Some verdict))
      (capped_count (used + 1)) ≡ plan_after (plan_in mode go state rest changed used) verdict
  answered-in go state Done changed used verdict some = absurd (false≢true some)
  answered-in go state (Try other at_yes at_no) changed used verdict some =
      let now : Bool → Plan =
      λ answer. plan_in mode go (state_after state (Try other at_yes at_no) answer) (trials_after (Try other at_yes at_no) answer) (changed || answer)
      (capped_count (used + 1)) in
      asked-by (mode.is_listed other) (mode.text other) _ _ _ verdict some
      (λ p. now (is_yes (Some verdict)) ≡ p)
      (λ is. ap (λ v. now (is_yes (Some v))) is ∙ ap (λ c. plan_in mode go other at_yes c (capped_count (used + 1))) (or-true changed))
      (λ is. ap (λ v. now (is_yes (Some v))) is ∙ ap (λ c. plan_in mode go state at_no c (capped_count (used + 1))) (or-false changed))

  -- where a yes before doesn't matter
  unchanged-in : (go : T → ℕ → Plan) (state : T) (rest : Trials T) (changed changed' : Bool) (used : ℕ)
      → plan_in mode (λ s c u. go s u) state rest changed used ≡ plan_in mode (λ s c u. go s u) state rest changed' used
  unchanged-in go state Done changed changed' used = refl
  unchanged-in go state (Try other at_yes at_no) changed changed' used =
      ask_if-same (mode.is_listed other) (mode.text other) _ _ _ _ _ _ refl (unchanged-in go state at_no changed changed' (capped_count (used + 1)))
      (unchanged-in go state at_no changed changed' used)

  -- an answer goes one step on
  pub answered-plan : (state : T) (rest : Trials T) (stage : Stage) (progress progress' : Progress) (verdict : Verdict) → IsTrying stage progress
      → IsSome (listed_text mode rest)
      → progress'.used ≡ capped_count (progress.used + 1) → progress'.rounds ≡ progress.rounds
      → plan_of mode (state_after state rest (is_yes (Some verdict))) (trials_after rest (is_yes (Some verdict)))
      (stage_after stage (is_yes (Some verdict))) progress' ≡ plan_after (plan_of mode state rest stage progress) verdict
  answered-plan state rest Start progress progress' verdict trying some p q = absurd trying
  answered-plan state rest Opening progress progress' verdict trying some p q =
      let answer : Bool = is_yes (Some verdict) in
      (λ i. plan_opening mode (q i) (state_after state rest answer) (trials_after rest answer) (p i))
      ∙ unchanged-in (λ remaining used'. plan_rounds mode progress.rounds used' remaining) (state_after state rest answer) (trials_after rest answer) false
      (false || answer) (capped_count (progress.used + 1))
      ∙ answered-in (λ remaining changed used'. plan_rounds mode progress.rounds used' remaining) state rest false progress.used verdict some
  answered-plan state rest (Within changed) progress progress' verdict trying some p q =
      let answer : Bool = is_yes (Some verdict) in
      (λ i. plan_round mode (q i) (state_after state rest answer) (trials_after rest answer) (changed || answer) (p i))
      ∙ answered-in (plan_next mode (plan_rounds mode) progress.rounds) state rest changed progress.used verdict some
  answered-plan state rest Ended progress progress' verdict trying some p q = absurd trying

  asked-if : (listed : Bool) (text : List ℕ) (y n p : Plan) → IsSome (text_if listed text) → asked (ask_if listed text y n p) ≡ text_if listed text
  asked-if true text y n p some = refl
  asked-if false text y n p some = absurd (false≢true some)

  asked-in : (go : T → Bool → ℕ → Plan) (state : T) (rest : Trials T) (changed : Bool) (used : ℕ) → IsSome (listed_text mode rest)
      → asked (plan_in mode go state rest changed used) ≡ listed_text mode rest
  asked-in go state Done changed used some = absurd (false≢true some)
  asked-in go state (Try other at_yes at_no) changed used some = asked-if (mode.is_listed other) (mode.text other) _ _ _ some

  -- what is asked now
  pub asked-now : (state : T) (rest : Trials T) (stage : Stage) (progress : Progress) → IsTrying stage progress → IsSome (listed_text mode rest)
      → asked (plan_of mode state rest stage progress) ≡ listed_text mode rest
  asked-now state rest Start progress trying some = absurd trying
  asked-now state rest Opening progress trying some = asked-in _ state rest false progress.used some
  asked-now state rest (Within changed) progress trying some = asked-in _ state rest changed progress.used some
  asked-now state rest Ended progress trying some = absurd trying

-- the same fields of a round that was called
pub moved : {I T : Type 0} (mode_of : I → RoundMode T) (Kept_of : I → T → Type 0) (plan plan' : Plan) (input input' : I) (state state' : T) (rest : Trials T)
    (stage : Stage) (progress : Progress)
    → plan' ≡ plan → input' ≡ input → state' ≡ state → Becomes plan' (mode_of input) (Kept_of input) state rest stage progress
    → Becomes plan (mode_of input') (Kept_of input') state' rest stage progress
moved mode_of Kept_of plan plan' input input' state state' rest stage progress p q r becomes =
    subst (λ s. Becomes plan (mode_of input') (Kept_of input') s rest stage progress) (sym r)
    (subst (λ m. Becomes plan (mode_of m) (Kept_of m) state rest stage progress) (sym q)
    (subst (λ p. Becomes p (mode_of input) (Kept_of input) state rest stage progress) p becomes))

-- the same of what is kept and what was shown, and of where it went on to
pub moved-state : {I T : Type 0} (mode_of : I → RoundMode T) (input input' : I) (state state' : T) (progress : Progress) → input' ≡ input → state' ≡ state
    → HasState (mode_of input) state progress → HasState (mode_of input') state' progress
moved-state mode_of input input' state state' progress q r has =
    subst (λ s. HasState (mode_of input') s progress) (sym r) (subst (λ m. HasState (mode_of m) state progress) (sym q) has)

pub moved-kept : {I T : Type 0} (mode_of : I → RoundMode T) (Kept_of : I → T → Type 0) (input input' : I) (state state' : T) (rest rest' : Trials T)
    → input' ≡ input → state' ≡ state → rest' ≡ rest → StaysKept (mode_of input) (Kept_of input) state rest
    → StaysKept (mode_of input') (Kept_of input') state' rest'
moved-kept mode_of Kept_of input input' state state' rest rest' q r p stays =
    subst (StaysKept (mode_of input') (Kept_of input') state') (sym p)
    (subst (λ s. StaysKept (mode_of input') (Kept_of input') s rest) (sym r)
    (subst (λ m. StaysKept (mode_of m) (Kept_of m) state rest) (sym q) stays))

pub moved-went : {I T : Type 0} (mode_of : I → RoundMode T) (input input' : I) (state state' new : T) (changed more more' : Bool) → input' ≡ input
    → state' ≡ state → more ≡ more' → WentOn (cond changed (Some state') ((mode_of input').next_phase state')) state' new more
    → WentOn (cond changed (Some state) ((mode_of input).next_phase state)) state new more'
moved-went mode_of input input' state state' new changed more more' q r p went =
    subst (WentOn (cond changed (Some state) ((mode_of input).next_phase state)) state new) p
    (subst (λ s. WentOn (cond changed (Some s) ((mode_of input).next_phase s)) s new more) r
    (subst (λ m. WentOn (cond changed (Some state') ((mode_of m).next_phase state')) state' new more) q went))

-- a round without a yes was the last, in the last phase
pub round-ends : {T : Type 0} (mode : RoundMode T) (Kept : T → Type 0) (state : T) (rest rest' : Trials T) (changed : Bool) (progress : Progress) (rounds : ℕ)
    → rest' ≡ listed_trials mode rest → rest' ≡ Done → changed ≡ false → mode.next_phase state ≡ None
    → rounds ≡ capped_count (progress.rounds + 1) → HasState mode state progress
    → Becomes (plan_of mode state rest (Within changed) progress) mode Kept state rest' Ended (record progress { rounds = rounds })
round-ends mode Kept state rest rest' changed progress rounds is over no_yes last more has = record {
  same = end-is mode state (record progress { rounds = rounds }) progress.used (capped_count (progress.rounds + 1))
      (record { text = has.text; units = has.units; refused = has.refused }) refl more
      ∙ last-next mode progress.rounds state progress.used last
      ∙ ap (λ b. plan_next mode (plan_rounds mode) progress.rounds state b progress.used) (sym no_yes)
      ∙ round-over mode state rest rest' changed progress.rounds progress.used is over;
  asking = tt;
}

-- a machine that asks nothing has ended with its progress
pub ended-now : {T : Type 0} (mode : RoundMode T) (Kept : T → Type 0) (state : T) (rest : Trials T) (stage : Stage) (progress : Progress)
    → IsReady mode Kept state rest stage progress
    → asked (plan_of mode state rest stage progress) ≡ None → plan_of mode state rest stage progress ≡ End (result_so_far progress)
ended-now mode Kept state rest Start progress ready none = absurd (cc none)
ended-now mode Kept state rest Opening progress ready none =
    absurd (let open_ = asked-now mode state rest Opening progress ready.asking.3 ready.asking.1 in
    false≢true (subst (λ o. IsSome o) (sym open_ ∙ none) ready.asking.1))
ended-now mode Kept state rest (Within changed) progress ready none =
    absurd (let open_ = asked-now mode state rest (Within changed) progress tt ready.asking.1 in
    false≢true (subst (λ o. IsSome o) (sym open_ ∙ none) ready.asking.1))
ended-now mode Kept state rest Ended progress ready none = refl
