-- What a machine shows between its answers.
use Rattle.std.proofs.Common.{◌≡◌, ◌+◌, ◌⊎◌, inl, inr, ℕ, suc, zero, Bool, true, false, List, Option, Some, None, IsSome, refl, sym, ap, ◌∙◌, subst, arith}
use Rattle.std.specs.Prelude.{IfSome, unwrap_or}
use Rattle.std.specs.Option.{option_map_or}
use Rattle.std.proofs.lemmas.Bool.{false≢true}
use Rattle.reduce_step.specs.Plan.{Plan, End}
use Rattle.reduce_rounds.specs.declared.stage.Stage.{Stage}
use Rattle.reduce_rounds.specs.declared.stage.Stage.TheVariants.{Start, Opening, Within, Ended}
use Rattle.reduce_rounds.specs.declared.stage.Progress.{Progress}
use Rattle.reduce_rounds.specs.Trials.{Trials, Done, Try, tried_state}
use Rattle.reduce_rounds.specs.Mode.{PhasesAgree, RoundMode}
use Rattle.reduce_rounds.specs.Shown.{CountsRounds, EndsByAnswers, Shows, end_at_no, rounds_at_no, rounds_at_no_within}
use Rattle.reduce_rounds.specs.RoundsPlan.{ask_if, plan_in, plan_next, plan_opening, plan_rounds, plan_within, step_result}
use Rattle.reduce_rounds.specs.inner.RoundsPlan.{plan_round}
use Rattle.reduce_rounds.specs.Reduction.{capped_count}
use Rattle.reduce_rounds.specs.Fields.{listed_text, text_if}
use Rattle.reduce_rounds.specs.inner.Fields.{IsReady, asked_state, plan_of, result_so_far}

module _ {T : Type 0} (mode : RoundMode T) (agree : PhasesAgree mode) where
  -- at no's alone it ends with the units of this state, after so many rounds
  record EndsAt (plan : Plan) (state : T) (rounds : ℕ) : Type 0 where
    units : (end_at_no plan).units ≡ mode.size state
    made : (end_at_no plan).rounds ≡ rounds

  ends-if : (listed : Bool) (text : List ℕ) (y n p : Plan) (state : T) (rounds : ℕ) → EndsAt n state rounds → EndsAt p state rounds
      → EndsAt (ask_if listed text y n p) state rounds
  ends-if true text y n p state rounds at_no passed = record { units = at_no.units; made = at_no.made }
  ends-if false text y n p state rounds at_no passed = passed

  ends-in : (go : T → Bool → ℕ → Plan) (state : T) (changed : Bool) (rounds : ℕ) → ((used : ℕ) → EndsAt (go state changed used) state rounds)
      → (rest : Trials T) (used : ℕ) → EndsAt (plan_in mode go state rest changed used) state rounds
  ends-in go state changed rounds each Done used = each used
  ends-in go state changed rounds each (Try other at_yes at_no) used =
      ends-if (mode.is_listed other) (mode.text other) _ _ _ state rounds (ends-in go state changed rounds each at_no (capped_count (used + 1)))
      (ends-in go state changed rounds each at_no used)

  -- how many rounds follow one without a yes
  later_rounds : ℕ → Option T → ℕ
  later_rounds n o = option_map_or (λ next. rounds_at_no_within n mode next) o 0

  -- a round without a yes is followed by those of the next phase
  ends-phase : (go : T → Plan) (n rounds : ℕ) (state : T) (used : ℕ) (o : Option T)
      → IfSome o (λ next. (mode.text next ≡ mode.text state) × (mode.size next ≡ mode.size state))
      → ((next : T) → EndsAt (go next) next (capped_count (rounds + rounds_at_no_within n mode next))) → rounds ≡ capped_count rounds
      → EndsAt (option_map_or go o (End (step_result mode state used rounds false))) state (capped_count (rounds + later_rounds n o))
  unfolding later_rounds
  ends-phase go n rounds state used None same each fits = record { units = refl; made = fits ∙ omega arith }
  ends-phase go n rounds state used (Some next) same each fits =
      let later = each next in
      record { units = later.units ∙ same.1; made = later.made }

  ends-within : (n rounds : ℕ) (state : T) (used : ℕ) → rounds ≡ capped_count rounds
      → EndsAt (plan_within n mode rounds used state) state (capped_count (rounds + rounds_at_no_within n mode state))
  unfolding plan_within later_rounds
  ends-within zero rounds state used fits = record { units = refl; made = fits ∙ omega arith }
  ends-within (suc n) rounds state used fits =
      ends-in (plan_next mode (λ r u remaining. plan_within n mode r u remaining) rounds) state false _
      (λ u. let later = ends-phase (λ next. plan_within n mode (capped_count (rounds + 1)) u next) n (capped_count (rounds + 1)) state u (mode.next_phase state)
      (agree state) (λ next. ends-within n (capped_count (rounds + 1)) next u (omega arith)) (omega arith) in
      record { units = later.units; made = later.made ∙ omega arith }) (mode.round state) used

  ends-rounds : (rounds : ℕ) (state : T) (used : ℕ) → rounds ≡ capped_count rounds
      → EndsAt (plan_rounds mode rounds used state) state (capped_count (rounds + rounds_at_no mode state))
  unfolding plan_rounds
  ends-rounds rounds state used fits = ends-within (suc (mode.measure state)) rounds state used fits

  -- how many rounds follow the present one, which has had a yes or not
  rounds_left : Bool → T → ℕ
  rounds_left true state = rounds_at_no mode state
  rounds_left false state = option_map_or (λ next. rounds_at_no mode next) (mode.next_phase state) 0

  ends-last : (rounds : ℕ) (state : T) (used : ℕ) (o : Option T)
      → IfSome o (λ next. (mode.text next ≡ mode.text state) × (mode.size next ≡ mode.size state)) → rounds ≡ capped_count rounds
      → EndsAt (option_map_or (plan_rounds mode rounds used) o (End (step_result mode state used rounds false))) state
      (capped_count (rounds + option_map_or (λ next. rounds_at_no mode next) o 0))
  ends-last rounds state used None same fits = record { units = refl; made = fits ∙ omega arith }
  ends-last rounds state used (Some next) same fits =
      let later = ends-rounds rounds next used fits in
      record { units = later.units ∙ same.1; made = later.made }

  ends-next : (rounds : ℕ) (state : T) (changed : Bool) (used : ℕ)
      → EndsAt (plan_next mode (plan_rounds mode) rounds state changed used) state (capped_count (rounds + (1 + rounds_left changed state)))
  unfolding rounds_left
  ends-next rounds state true used =
      let later = ends-rounds (capped_count (rounds + 1)) state used (omega arith) in
      record { units = later.units; made = later.made ∙ omega arith }
  ends-next rounds state false used =
      let later = ends-last (capped_count (rounds + 1)) state used (mode.next_phase state) (agree state) (omega arith) in
      record { units = later.units; made = later.made ∙ omega arith }

  ends-opening : (rounds : ℕ) (state : T) (rest : Trials T) (used : ℕ) → rounds ≡ capped_count rounds
      → EndsAt (plan_opening mode rounds state rest used) state (capped_count (rounds + rounds_at_no mode state))
  ends-opening rounds state rest used fits =
      ends-in (λ remaining changed u. plan_rounds mode rounds u remaining) state false (capped_count (rounds + rounds_at_no mode state))
      (λ u. ends-rounds rounds state u fits) rest used

  ends-round : (rounds : ℕ) (state : T) (rest : Trials T) (changed : Bool) (used : ℕ)
      → EndsAt (plan_round mode rounds state rest changed used) state (capped_count (rounds + (1 + rounds_left changed state)))
  ends-round rounds state rest changed used =
      ends-in (plan_next mode (plan_rounds mode) rounds) state changed (capped_count (rounds + (1 + rounds_left changed state)))
      (ends-next rounds state changed) rest used

  -- each end has the text of the last yes, and a test for each answer
  by-if : (listed : Bool) (text : List ℕ) (y n p : Plan) (last : List ℕ) (used : ℕ) → EndsByAnswers y text (capped_count (used + 1))
      → EndsByAnswers n last (capped_count (used + 1)) → EndsByAnswers p last used → EndsByAnswers (ask_if listed text y n p) last used
  by-if true text y n p last used at_yes at_no passed = (at_yes, at_no)
  by-if false text y n p last used at_yes at_no passed = passed

  by-in : (go : T → Bool → ℕ → Plan) → ((state : T) (changed : Bool) (used : ℕ) → EndsByAnswers (go state changed used) (mode.text state) used)
      → (state : T) (rest : Trials T) (changed : Bool) (used : ℕ) → EndsByAnswers (plan_in mode go state rest changed used) (mode.text state) used
  by-in go each state Done changed used = each state changed used
  by-in go each state (Try other at_yes at_no) changed used =
      by-if (mode.is_listed other) (mode.text other) _ _ _ (mode.text state) used (by-in go each other at_yes true (capped_count (used + 1)))
      (by-in go each state at_no changed (capped_count (used + 1))) (by-in go each state at_no changed used)

  by-phase : (go : T → Plan) (rounds : ℕ) (state : T) (used : ℕ) (o : Option T)
      → IfSome o (λ next. (mode.text next ≡ mode.text state) × (mode.size next ≡ mode.size state))
      → ((next : T) → EndsByAnswers (go next) (mode.text next) used)
      → EndsByAnswers (option_map_or go o (End (step_result mode state used rounds false))) (mode.text state) used
  by-phase go rounds state used None same each = (refl, refl)
  by-phase go rounds state used (Some next) same each = subst (λ text. EndsByAnswers (go next) text used) same.0 (each next)

  by-next : (go : ℕ → ℕ → T → Plan) (rounds : ℕ) → ((state : T) (r u : ℕ) → EndsByAnswers (go r u state) (mode.text state) u)
      → (state : T) (changed : Bool) (used : ℕ) → EndsByAnswers (plan_next mode go rounds state changed used) (mode.text state) used
  by-next go rounds each state true used = each state (capped_count (rounds + 1)) used
  by-next go rounds each state false used =
      by-phase (go (capped_count (rounds + 1)) used) (capped_count (rounds + 1)) state used (mode.next_phase state) (agree state)
      (λ next. each next (capped_count (rounds + 1)) used)

  by-within : (n : ℕ) (state : T) (rounds used : ℕ) → EndsByAnswers (plan_within n mode rounds used state) (mode.text state) used
  unfolding plan_within
  by-within zero state rounds used = (refl, refl)
  by-within (suc n) state rounds used =
      by-in (plan_next mode (λ r u remaining. plan_within n mode r u remaining) rounds)
      (by-next (λ r u remaining. plan_within n mode r u remaining) rounds (by-within n)) state (mode.round state) false used

  by-rounds : (state : T) (rounds used : ℕ) → EndsByAnswers (plan_rounds mode rounds used state) (mode.text state) used
  unfolding plan_rounds
  by-rounds state rounds used = by-within (suc (mode.measure state)) state rounds used

  by-opening : (rounds : ℕ) (state : T) (rest : Trials T) (used : ℕ) → EndsByAnswers (plan_opening mode rounds state rest used) (mode.text state) used
  by-opening rounds state rest used =
      by-in (λ remaining changed u. plan_rounds mode rounds u remaining) (λ remaining changed u. by-rounds remaining rounds u) state rest false used

  by-round : (rounds : ℕ) (state : T) (rest : Trials T) (changed : Bool) (used : ℕ)
      → EndsByAnswers (plan_round mode rounds state rest changed used) (mode.text state) used
  by-round rounds state rest changed used =
      by-in (plan_next mode (plan_rounds mode) rounds) (by-next (plan_rounds mode) rounds by-rounds) state rest changed used

  -- what the fields show
  pub shown-now : (Kept : T → Type 0) (state : T) (rest : Trials T) (stage : Stage) (progress : Progress) → IsReady mode Kept state rest stage progress
      → Shows (plan_of mode state rest stage progress) (result_so_far progress)
  shown-now Kept state rest Start progress ready =
      let has = ready.asking.0 in
      let used : ℕ = capped_count (progress.used + 1) in
      record {
        answers = (
          subst (λ text. EndsByAnswers (plan_opening mode progress.rounds state rest used) text used) (sym has.text)
              (by-opening progress.rounds state rest used),
          (refl, refl),
        );
        units = refl;
        refused = λ asking. has.refused;
      }
  shown-now Kept state rest Opening progress ready =
      let has = ready.asking.0 in
      record {
        answers = subst (λ text. EndsByAnswers (plan_opening mode progress.rounds state rest progress.used) text progress.used) (sym has.text)
            (by-opening progress.rounds state rest progress.used);
        units = has.units ∙ sym (ends-opening progress.rounds state rest progress.used (omega (arith, ready.asking.3))).units;
        refused = λ asking. has.refused;
      }
  shown-now Kept state rest (Within changed) progress ready =
      let has = ready.asking.0 in
      record {
        answers = subst (λ text. EndsByAnswers (plan_round mode progress.rounds state rest changed progress.used) text progress.used) (sym has.text)
            (by-round progress.rounds state rest changed progress.used);
        units = has.units ∙ sym (ends-round progress.rounds state rest changed progress.used).units;
        refused = λ asking. has.refused;
      }
  shown-now Kept state rest Ended progress ready = record { answers = (refl, refl); units = refl; refused = λ asking. absurd (false≢true asking) }

  -- before the rounds
  first_rounds : (made rounds later : ℕ) → made ≡ capped_count (rounds + later) → rounds ≡ 0
      → (made ≡ capped_count (rounds + (1 + later))) ⊎ ((made ≡ capped_count later) × (rounds ≡ 0))
  first_rounds made rounds later is none =
      let same : rounds + later ≡ later = omega (arith, none) in
      inr (is ∙ ap capped_count same, none)

  counted-if : (listed : Bool) (text : List ℕ) (y n p : Plan) (rounds later : ℕ) → IsSome (text_if listed text)
      → ((end_at_no y).rounds ≡ capped_count (rounds + (1 + later))) ⊎ (((end_at_no y).rounds ≡ capped_count later) × (rounds ≡ 0))
      → CountsRounds later (ask_if listed text y n p) rounds
  counted-if true text y n p rounds later some made = made
  counted-if false text y n p rounds later some made = absurd (false≢true some)

  -- the rounds that the fields count
  pub rounds-now : (Kept : T → Type 0) (state : T) (rest : Trials T) (stage : Stage) (progress : Progress) → IsReady mode Kept state rest stage progress
      → CountsRounds (rounds_at_no mode (asked_state state rest stage)) (plan_of mode state rest stage progress) progress.rounds
  unfolding rounds_left
  rounds-now Kept state rest Start progress ready =
      first_rounds _ progress.rounds (rounds_at_no mode state)
      (ends-opening progress.rounds state rest (capped_count (progress.used + 1)) (omega (arith, ready.asking.2))).made ready.asking.2
  rounds-now Kept state rest Opening progress ready = in_opening rest ready.asking.1
    where
      in_opening : (rest : Trials T) → IsSome (listed_text mode rest)
          → CountsRounds (rounds_at_no mode (unwrap_or (tried_state rest) state)) (plan_opening mode progress.rounds state rest progress.used) progress.rounds
      in_opening Done some = absurd (false≢true some)
      in_opening (Try other at_yes at_no) some =
          counted-if (mode.is_listed other) (mode.text other) _ _ _ progress.rounds (rounds_at_no mode other) some
          (first_rounds _ progress.rounds (rounds_at_no mode other)
          (ends-in (λ remaining changed u. plan_rounds mode progress.rounds u remaining) other true (capped_count (progress.rounds + rounds_at_no mode other))
          (λ u. ends-rounds progress.rounds other u (omega (arith, ready.asking.3))) at_yes (capped_count (progress.used + 1))).made ready.asking.3)
  rounds-now Kept state rest (Within changed) progress ready = in_round rest ready.asking.1
    where
      in_round : (rest : Trials T) → IsSome (listed_text mode rest)
          → CountsRounds (rounds_at_no mode (unwrap_or (tried_state rest) state)) (plan_round mode progress.rounds state rest changed progress.used)
          progress.rounds
      in_round Done some = absurd (false≢true some)
      in_round (Try other at_yes at_no) some =
          counted-if (mode.is_listed other) (mode.text other) _ _ _ progress.rounds (rounds_at_no mode other) some
          (inl (ends-round progress.rounds other at_yes true (capped_count (progress.used + 1))).made)
  rounds-now Kept state rest Ended progress ready = refl
