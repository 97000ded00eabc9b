-- Questions that are passed over.
use Rattle.std.proofs.Common.{◌≡◌, ℕ, ◌<◌, Bool, true, false, List, Option, Some, None, Bor, IsSome, length, refl, sym, ap, ◌∙◌, subst}
use Rattle.std.specs.Prelude.{is_some, not}
use Rattle.std.specs.Option.{option_copied, option_map_or}
use Rattle.std.proofs.lemmas.Bool.{false≢true}
use Rattle.normal_form.specs.Form.{NormalForm}
use Rattle.list_ddmin.specs.Machine.{State, IsSound, asks, after, kept, left}
use Rattle.list_ddmin.proofs.Lent.{IsSound-after}
use Rattle.reduce_rounds.specs.Trials.{Trials, Try, state_after, tried_state, trials_after}
use Rattle.reduce_rounds.proofs.Lent.{at_end, fewer_left, kept_at_no, kept_at_yes}
use Rattle.syntax_tree.specs.Trees.{PlainTree}
use Rattle.hdd_levels.specs.Levels.{fills_pluses, kept_tree}
use Rattle.reduce_hdd.specs.Allowed.{allowed_trials}
use Rattle.reduce_hdd.proofs.AllowedTrials.{allowed_question, passed_question}
use Rattle.reduce_hdd.specs.inner.Passing.{HasPassed, IsPassing, allowed_from, refuses}

module _ (N : NormalForm) (t : PlainTree) (nodes : List ℕ) where
  pub nothing_passed : (step : State) → IsSound step → IsPassing N t nodes step step
  nothing_passed step sound = record { sound = sound; kept_is = refl; rest = λ go. refl }

  -- what is refused is a question that would empty a plus
  refused_is : (o : Option (List Bool)) → option_map_or (λ question. not (fills_pluses N (kept_tree nodes question t))) o false ≡ true →
      (question : List Bool) × (o ≡ Some question) × (fills_pluses N (kept_tree nodes question t) ≡ false)
  refused_is None is = absurd (false≢true is)
  refused_is (Some question) is = (question, refl, is_false (fills_pluses N (kept_tree nodes question t)) is)
    where
      is_false : (b : Bool) → not b ≡ true → b ≡ false
      is_false true e = absurd (false≢true e)
      is_false false e = refl

  one_passed : (old now : State) (question : List Bool) → IsPassing N t nodes old now → asks now ≡ Some question
      → fills_pluses N (kept_tree nodes question t) ≡ false → IsPassing N t nodes old (after now false)
  one_passed old now question so is refused = record {
    sound = IsSound-after now false so.sound;
    kept_is = kept_at_no now question so.sound is ∙ so.kept_is;
    rest =
        λ go. sym (passed_question (fills_pluses N) (λ keep. kept_tree nodes keep t) (λ keep. go (kept_tree nodes keep t)) now question so.sound is refused)
        ∙ so.rest go;
  }

  pub refused_passed : (old now : State) → IsPassing N t nodes old now → refuses N t nodes now ≡ true → IsPassing N t nodes old (after now false)
  refused_passed old now so is = let it = refused_is (asks now) is in one_passed old now it.0 so it.1 it.2

  pub refused_asks : (now : State) → refuses N t nodes now ≡ true → IsSome (asks now)
  refused_asks now is = let it = refused_is (asks now) is in ap is_some it.1

  pub refused_fewer : (old now : State) → IsPassing N t nodes old now → refuses N t nodes now ≡ true → left (after now false) < left now
  refused_fewer old now so is = let it = refused_is (asks now) is in fewer_left now it.0 false so.sound it.1

  passed_by : (old now : State) → IsPassing N t nodes old now → (o : Option (List Bool)) → asks now ≡ o
      → option_map_or (λ question. not (fills_pluses N (kept_tree nodes question t))) o false ≡ false → HasPassed N t nodes old now (is_some o)
  passed_by old now so None is fine = record { passed = so; asks_more = λ yes. absurd (false≢true yes); is_over = λ over. is }
  passed_by old now so (Some question) is fine = record {
    passed = so;
    asks_more = λ yes. record { question = question; asked = is; may = is_true (fills_pluses N (kept_tree nodes question t)) fine };
    is_over = λ over. absurd (false≢true (sym over));
  }
    where
      is_true : (b : Bool) → not b ≡ false → b ≡ true
      is_true true e = refl
      is_true false e = absurd (false≢true (sym e))

  copied_some : (o : Option (Bor (List Bool))) (p : Option (List Bool)) → option_copied o ≡ p → is_some o ≡ is_some p
  copied_some None p e = ap is_some e
  copied_some (Some x) p e = ap is_some e

  pub all_passed : (old now : State) (lent : Option (Bor (List Bool))) (asking : Bool) → IsPassing N t nodes old now → refuses N t nodes now ≡ false
      → option_copied lent ≡ asks now → asking ≡ is_some lent → HasPassed N t nodes old now asking
  all_passed old now lent asking so fine is answer =
      subst (HasPassed N t nodes old now) (sym (answer ∙ copied_some lent (asks now) is)) (passed_by old now so (asks now) refl fine)

  -- as many flags as before
  pub passing_length : (old now : State) → IsPassing N t nodes old now → length (kept old) ≡ length nodes → length (kept now) ≡ length nodes
  passing_length old now so each = ap length so.kept_is ∙ each

  -- At the end of the list step it goes on from the tree that is left.
  pub goes_on_at_end : (go : PlainTree → Trials PlainTree) (step : State) → asks step ≡ None
      → allowed_from N t nodes go step ≡ allowed_trials (fills_pluses N) (go (kept_tree nodes (kept step) t))
  goes_on_at_end go step none = ap (allowed_trials (fills_pluses N)) (at_end (λ keep. kept_tree nodes keep t) (λ keep. go (kept_tree nodes keep t)) step none)

  -- What is tried, and what each answer leads to.
  module _ (go : PlainTree → Trials PlainTree) (step : State) (question : List Bool) (sound : IsSound step) (is : asks step ≡ Some question)
      (may : fills_pluses N (kept_tree nodes question t) ≡ true) where
    pub asking_trials : allowed_from N t nodes go step ≡ Try (kept_tree nodes question t) (allowed_from N t nodes go (after step true))
        (allowed_from N t nodes go (after step false))
    asking_trials = allowed_question (fills_pluses N) (λ keep. kept_tree nodes keep t) (λ keep. go (kept_tree nodes keep t)) step question sound is may

    pub asking_tried : tried_state (allowed_from N t nodes go step) ≡ Some (kept_tree nodes question t)
    asking_tried = ap tried_state asking_trials

    pub asking_after : (yes : Bool) → trials_after (allowed_from N t nodes go step) yes ≡ allowed_from N t nodes go (after step yes)
    asking_after true = ap (λ trials. trials_after trials true) asking_trials
    asking_after false = ap (λ trials. trials_after trials false) asking_trials

    pub asking_left : (yes : Bool) → state_after (kept_tree nodes (kept step) t) (allowed_from N t nodes go step) yes ≡ kept_tree nodes
        (kept (after step yes)) t
    asking_left true =
        ap (λ trials. state_after (kept_tree nodes (kept step) t) trials true) asking_trials
        ∙ ap (λ keep. kept_tree nodes keep t) (sym (kept_at_yes step question sound is))
    asking_left false =
        ap (λ trials. state_after (kept_tree nodes (kept step) t) trials false) asking_trials
        ∙ ap (λ keep. kept_tree nodes keep t) (sym (kept_at_no step question sound is))

    -- the last yes leaves no plus empty
    pub asking_full : (yes : Bool) → fills_pluses N (kept_tree nodes (kept step) t) ≡ true → fills_pluses N (kept_tree nodes (kept (after step yes)) t) ≡ true
    asking_full true full = ap (λ keep. fills_pluses N (kept_tree nodes keep t)) (kept_at_yes step question sound is) ∙ may
    asking_full false full = ap (λ keep. fills_pluses N (kept_tree nodes keep t)) (kept_at_no step question sound is) ∙ full
