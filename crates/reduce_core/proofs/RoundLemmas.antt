-- What the fields of a round of lines mean.
use Rattle.std.proofs.Common.{◌≡◌, ◌≤◌, Bool, true, false, List, length, Option, Some, None, IsSome, refl, sym, ap, ◌∙◌, subst, arith, is_some, not}
use Rattle.std.proofs.lemmas.Bool.{false≢true}
use Rattle.std.specs.Option.{IfSome}
use Rattle.list_ddmin.specs.Machine as list
use Rattle.list_ddmin.specs.Machine.{State}
use Rattle.list_ddmin.specs.ListStep.{kept_of}
use Rattle.list_ddmin.proofs.Lent.{keeps_all_at_first, keeps_last_yes, keeps_length, starts_with_all}
use Rattle.list_ddmin.proofs.Lent as list_follows
use Rattle.reduce_step.specs.Limits.{text_limit}
use Rattle.reduce_rounds.specs.Trials.{Done, Try, is_done, state_after, tried_state, trials_after}
use Rattle.reduce_rounds.specs.Fields.{listed_text, text_if}
use Rattle.reduce_rounds.proofs.Lent.{at_end, at_question, by_asked}
use Rattle.reduce_core.specs.declared.lines.Line.{Line}
use Rattle.reduce_core.specs.declared.line_round.Question.{Question}
use Rattle.reduce_core.specs.Reduction.{Admits}
use Rattle.reduce_core.specs.LineMode.{LineInput, line_mode, line_trials}
use Rattle.reduce_core.specs.inner.Fields.{Agrees, AreCopies, IsAbout, IsAsked, IsInLimit, IsOf, IsReady, rest_of}
use Rattle.reduce_core.proofs.Limits.{length-text-kept_of}
use Rattle.reduce_core.proofs.LinesLemmas.{length-numbers_of}
use Rattle.reduce_core.proofs.Keeping.{kept_of-all}

question-of : (admits : Admits) (o : Option (List Bool)) (lines : List Line) (question : Question) → IsAbout admits o lines question
    → (keep : List Bool) × (o ≡ Some keep) × IsOf admits lines keep question
question-of admits None lines question is = absurd is
question-of admits (Some keep) lines question is = (keep, refl, is)

module _ (input : LineInput) (lines : List Line) (step : State) where
  step-is : (keep : List Bool) → list.IsSound step → list.asks step ≡ Some keep
      → line_trials lines step ≡ Try (kept_of keep lines) (line_trials lines (list.after step true)) (line_trials lines (list.after step false))
  step-is keep sound is = at_question (λ k. kept_of k lines) (λ k. Done) step keep sound is

  pub over-now : (asked : Option Question) → Agrees input.admits lines step asked → is_done (rest_of lines step asked) ≡ not (is_some asked)
  over-now None agrees = refl
  over-now (Some question) agrees = let q = question-of input.admits (list.asks step) lines question agrees.ready in ap is_done (step-is q.0 agrees.sound q.1)

  pub asks-now : (asked : Option Question) (question : Question) → Agrees input.admits lines step asked → asked ≡ Some question
      → listed_text (line_mode input) (rest_of lines step asked) ≡ text_if question.listed question.candidate.text.items
  asks-now None question agrees is = absurd (cc is)
  asks-now (Some other) question agrees is =
      let same : other ≡ question = cc is in
      let q = question-of input.admits (list.asks step) lines other agrees.ready in
      ap (listed_text (line_mode input)) (step-is q.0 agrees.sound q.1) ∙ (λ i. text_if (sym q.2.listed i) (sym q.2.text i))
      ∙ ap (λ (x : Question). text_if x.listed x.candidate.text.items) same

  pub short-now : (asked : Option Question) (question : Question) → Agrees input.admits lines step asked → asked ≡ Some question
      → length question.candidate.text.items ≤ text_limit
  short-now asked question agrees is =
      let q = question-of input.admits (list.asks step) lines question (subst (IsReady input.admits (list.asks step) lines) is agrees.ready) in
      let shorter = length-text-kept_of q.0 lines in
      let same = ap length q.2.text in
      omega (arith, agrees.limit.short)

  pub units-now : (asked : Option Question) (question : Question) → Agrees input.admits lines step asked → asked ≡ Some question
      → IfSome (tried_state (rest_of lines step asked)) (λ (state : List Line). length question.candidate.numbers.items ≡ length state)
  units-now None question agrees is = absurd (cc is)
  units-now (Some other) question agrees is =
      let same : other ≡ question = cc is in
      let q = question-of input.admits (list.asks step) lines other agrees.ready in
      subst (λ t. IfSome (tried_state t) (λ (state : List Line). length question.candidate.numbers.items ≡ length state)) (sym (step-is q.0 agrees.sound q.1))
      (ap (λ (x : Question). length x.candidate.numbers.items) (sym same) ∙ ap length q.2.numbers ∙ length-numbers_of (kept_of q.0 lines))

  -- after an answer, before the next question is made
  pub agrees-after : (asked : Option Question) (answer : Bool) → Agrees input.admits lines step asked → Agrees input.admits lines (list.after step answer) None
  agrees-after asked answer agrees = record {
    sound = list_follows.IsSound-after step answer agrees.sound;
    same = keeps_length step answer ∙ agrees.same;
    limit = agrees.limit;
    ready = tt;
  }

  pub rest-asked : (asked : Option Question) → IsAsked input.admits (list.asks step) lines asked → rest_of lines step asked ≡ line_trials lines step
  rest-asked None is =
      by_asked (list.asks step) (λ o. rest_of lines step None ≡ line_trials lines step)
      (λ none. sym (at_end (λ k. kept_of k lines) (λ k. Done) step none))
      (λ keep some. absurd (subst (λ o. IsAsked input.admits o lines None) some is))
  rest-asked (Some question) is = refl

  ready-asked : (o : Option (List Bool)) (asked : Option Question) → IsAsked input.admits o lines asked → IsReady input.admits o lines asked
  ready-asked o None is = tt
  ready-asked None (Some question) is = is
  ready-asked (Some keep) (Some question) is = is

  pub agrees-asked : (asked : Option Question) → Agrees input.admits lines step None → IsAsked input.admits (list.asks step) lines asked
      → Agrees input.admits lines step asked
  agrees-asked asked agrees is = record { sound = agrees.sound; same = agrees.same; limit = agrees.limit; ready = ready-asked (list.asks step) asked is }

  pub trials-now : (asked : Option Question) (answer : Bool) → Agrees input.admits lines step asked → IsSome (tried_state (rest_of lines step asked))
      → line_trials lines (list.after step answer) ≡ trials_after (rest_of lines step asked) answer
  trials-now None answer agrees some = absurd (false≢true some)
  trials-now (Some question) true agrees some = let q =
      question-of input.admits (list.asks step) lines question agrees.ready in ap (λ t. trials_after t true) (sym (step-is q.0 agrees.sound q.1))
  trials-now (Some question) false agrees some = let q =
      question-of input.admits (list.asks step) lines question agrees.ready in ap (λ t. trials_after t false) (sym (step-is q.0 agrees.sound q.1))

  pub kept-now : (asked : Option Question) (answer : Bool) → Agrees input.admits lines step asked → IsSome (tried_state (rest_of lines step asked))
      → kept_of (list.kept (list.after step answer)) lines ≡ state_after (kept_of (list.kept step) lines) (rest_of lines step asked) answer
  kept-now None answer agrees some = absurd (false≢true some)
  kept-now (Some question) true agrees some =
      let q = question-of input.admits (list.asks step) lines question agrees.ready in
      ap (λ k. kept_of k lines) (keeps_last_yes step q.0 q.1).0
      ∙ ap (λ t. state_after (kept_of (list.kept step) lines) t true) (sym (step-is q.0 agrees.sound q.1))
  kept-now (Some question) false agrees some =
      let q = question-of input.admits (list.asks step) lines question agrees.ready in
      ap (λ k. kept_of k lines) (keeps_last_yes step q.0 q.1).1
      ∙ ap (λ t. state_after (kept_of (list.kept step) lines) t false) (sym (step-is q.0 agrees.sound q.1))

  copied-about : (o : Option (List Bool)) (question copy : Question) → IsAbout input.admits o lines question → AreCopies (Some question) (Some copy)
      → IsAbout input.admits o lines copy
  copied-about None question copy is same = is
  copied-about (Some keep) question copy is same = record { text = same.text ∙ is.text; numbers = same.numbers ∙ is.numbers; listed = same.listed ∙ is.listed }

  -- a copy of the question
  pub agrees-copied : (asked copy : Option Question) → Agrees input.admits lines step asked → AreCopies asked copy → Agrees input.admits lines step copy
  agrees-copied None None agrees same = agrees
  agrees-copied None (Some copy) agrees same = absurd same
  agrees-copied (Some question) None agrees same = absurd same
  agrees-copied (Some question) (Some copy) agrees same =
      record { sound = agrees.sound; same = agrees.same; limit = agrees.limit; ready = copied-about (list.asks step) question copy agrees.ready same }

  pub rest-copied : (asked copy : Option Question) → AreCopies asked copy → rest_of lines step copy ≡ rest_of lines step asked
  rest-copied None None same = refl
  rest-copied None (Some copy) same = absurd same
  rest-copied (Some question) None same = absurd same
  rest-copied (Some question) (Some copy) same = refl

-- where a round begins
pub agrees-begun : (input : LineInput) (lines : List Line) → IsInLimit lines → Agrees input.admits lines (list.start (length lines) true) None
agrees-begun input lines limit =
    record { sound = list_follows.IsSound-start (length lines) true; same = starts_with_all (length lines) true; limit = limit; ready = tt }

pub all-begun : (lines : List Line) → kept_of (list.kept (list.start (length lines) true)) lines ≡ lines
all-begun lines = ap (λ keep. kept_of keep lines) (keeps_all_at_first (length lines) true) ∙ kept_of-all lines
