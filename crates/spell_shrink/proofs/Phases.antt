-- Trials of trees or of respellings, as those of a reduction with respelling.
use Rattle.std.proofs.Common.{◌≡◌, ◌∙◌, ◌+◌, inl, inr, ℕ, Bool, true, false, cond, List, refl, sym, ap, subst, arith}
use Rattle.std.specs.Option.{option_map}
use Rattle.reduce_rounds.specs.ByTrials.{trials_end}
use Rattle.reduce_rounds.specs.Reduction.{RoundEnd, after_question, after_yes}
use Rattle.reduce_rounds.specs.StateTexts.{StateTexts}
use Rattle.reduce_rounds.specs.Fields.{listed_text, text_if}
use Rattle.reduce_rounds.specs.Mode.{RoundMode}
use Rattle.reduce_rounds.specs.Trials.{Trials, Done, Try, AllTried, EachIsSmaller, IsTriedAtNo}
use Rattle.reduce_rounds.specs.Trials.{is_done, state_after, tried_state, trials_after}
use Rattle.spell_shrink.specs.Respelled.{SpellState}
use Rattle.spell_shrink.specs.SpellMode.{trials_as}
use Rattle.spell_shrink.specs.SpellRecursion.{state_end}

module _ {T : Type 0} (as_state : T → SpellState) where
  -- what holds of each that is tried
  pub all_as : (P : T → Type 0) (Q : SpellState → Type 0) → ((state : T) → P state → Q (as_state state)) → (trials : Trials T) → AllTried P trials
      → AllTried Q (trials_as as_state trials)
  all_as P Q each Done all = tt
  all_as P Q each (Try state at_yes at_no) all = (each state all.0, (all_as P Q each at_yes all.1.0, all_as P Q each at_no all.1.1))

  -- each is smaller, also where all count for more by the same
  pub smaller_as : (size : T → ℕ) (measure : SpellState → ℕ) (more : ℕ) → ((state : T) → measure (as_state state) ≡ size state + more)
      → (n : ℕ) (trials : Trials T) → EachIsSmaller size n trials → EachIsSmaller measure (n + more) (trials_as as_state trials)
  smaller_as size measure more is n Done smaller = tt
  smaller_as size measure more is n (Try state at_yes at_no) smaller = (
    omega (arith, is state, smaller.0),
    (
      subst (λ m. EachIsSmaller measure m (trials_as as_state at_yes)) (sym (is state)) (smaller_as size measure more is (size state) at_yes smaller.1.0),
      smaller_as size measure more is n at_no smaller.1.1,
    ),
  )

  -- the same is tried
  pub tried_as : (trials : Trials T) (state : T) → IsTriedAtNo trials state → IsTriedAtNo (trials_as as_state trials) (as_state state)
  tried_as Done state tried = absurd tried
  tried_as (Try other at_yes at_no) state (inl same) = inl (ap as_state same)
  tried_as (Try other at_yes at_no) state (inr later) = inr (tried_as at_no state later)

  -- what is tried now, and after an answer
  pub done_as : (trials : Trials T) → is_done (trials_as as_state trials) ≡ is_done trials
  done_as Done = refl
  done_as (Try state at_yes at_no) = refl

  pub tried_state_as : (trials : Trials T) → tried_state (trials_as as_state trials) ≡ option_map as_state (tried_state trials)
  tried_state_as Done = refl
  tried_state_as (Try state at_yes at_no) = refl

  pub listed_text_as : (mode : RoundMode T) (all : RoundMode SpellState) → ((state : T) → all.text (as_state state) ≡ mode.text state)
      → ((state : T) → all.is_listed (as_state state) ≡ mode.is_listed state) → (trials : Trials T)
      → listed_text all (trials_as as_state trials) ≡ listed_text mode trials
  listed_text_as mode all text_is listed_is Done = refl
  listed_text_as mode all text_is listed_is (Try state at_yes at_no) = λ i. text_if (listed_is state i) (text_is state i)

  pub after_as : (trials : Trials T) (answer : Bool) → trials_after (trials_as as_state trials) answer ≡ trials_as as_state (trials_after trials answer)
  after_as Done answer = refl
  after_as (Try state at_yes at_no) true = refl
  after_as (Try state at_yes at_no) false = refl

  pub state_after_as : (state : T) (trials : Trials T) (answer : Bool)
      → state_after (as_state state) (trials_as as_state trials) answer ≡ as_state (state_after state trials answer)
  state_after_as state Done answer = refl
  state_after_as state (Try other at_yes at_no) true = refl
  state_after_as state (Try other at_yes at_no) false = refl

  end_if : (listed answer : Bool) (text : List ℕ) (ey en : RoundEnd T)
      → cond listed (after_question text (cond answer (after_yes (state_end as_state ey)) (state_end as_state en))) (state_end as_state en)
      ≡ state_end as_state (cond listed (after_question text (cond answer (after_yes ey) en)) en)
  end_if false answer text ey en = refl
  end_if true true text ey en = refl
  end_if true false text ey en = refl

  -- and comes to the same, where the texts are the same
  pub end_as : (texts : StateTexts T) (all : StateTexts SpellState) → ((state : T) → all.text (as_state state) ≡ texts.text state)
      → ((state : T) → all.is_listed (as_state state) ≡ texts.is_listed state) → (verdict : List ℕ → Bool) (state : T) (trials : Trials T)
      → trials_end all verdict (as_state state) (trials_as as_state trials) ≡ state_end as_state (trials_end texts verdict state trials)
  end_as texts all text_is listed_is verdict state Done = refl
  end_as texts all text_is listed_is verdict state (Try other at_yes at_no) =
      let yes = end_as texts all text_is listed_is verdict other at_yes in
      let no = end_as texts all text_is listed_is verdict state at_no in
      (λ i. cond (listed_is other i) (after_question (text_is other i) (cond (verdict (text_is other i)) (after_yes (yes i)) (no i))) (no i))
      ∙ end_if (texts.is_listed other) (verdict (texts.text other)) (texts.text other) (trials_end texts verdict other at_yes)
      (trials_end texts verdict state at_no)
