-- What is ahead of a plan: it goes by the plan's steps, and may be asked.
use Rattle.std.proofs.Common.{◌≡◌, ◌≤◌, ℕ, List, [], ◌∷◌, ◌++◌, length, take, Some, None, inl, inr, refl, sym, ap, ◌∙◌}
use Rattle.std.specs.Prelude.{All}
use Rattle.std.proofs.Math.Seq.{take-append_seam}
use Rattle.std.proofs.lemmas.List.{append-nil, append_assoc, take_all}
use Rattle.std.proofs.lemmas.List.Elements.{All-cons, All-nil, All-take, All-weaker}
use Rattle.script_gate_trait.specs.declared.gate.Verdict.{Verdict}
use Rattle.script_gate_trait.specs.declared.gate.Verdict.TheVariants.{Yes, No}
use Rattle.reduce_step.specs.Plan.{Plan, End, Ask, MayAsk, after, asked}
use Rattle.reduce_step.specs.Ahead.{AheadMayBeAsked, after_all, ahead, asked_at_no}

-- what is asked now is the first of what is asked at no, and the others are what is asked after a no
pub asked_at_no-step : (p : Plan) (text : List ℕ) → asked p ≡ Some text → asked_at_no p ≡ text ∷ asked_at_no (after p No)
asked_at_no-step (End x) text asks = absurd (cc asks)
asked_at_no-step (Ask x a b) text asks = let same : x ≡ text = cc asks in λ i. same i ∷ asked_at_no b

-- where it has ended nothing is asked
pub asked_at_no-ended : (p : Plan) → asked p ≡ None → asked_at_no p ≡ []
asked_at_no-ended (End x) ended = refl
asked_at_no-ended (Ask x a b) ended = absurd (cc ended)

-- what may be asked after answers might have been asked before them
pub after_all-may : (answers : List Verdict) (p : Plan) (text : List ℕ) → MayAsk (after_all answers p) text → MayAsk p text
after_all-may [] p text may = may
after_all-may (v ∷ vs) (End x) text may = after_all-may vs (End x) text may
after_all-may (Yes ∷ vs) (Ask x a b) text may = inr (inl (after_all-may vs a text may))
after_all-may (No ∷ vs) (Ask x a b) text may = inr (inr (after_all-may vs b text may))

at_no-may : (p : Plan) → All (λ text. MayAsk p text) (asked_at_no p)
at_no-may (End x) = All-nil (λ text. MayAsk (End x) text)
at_no-may (Ask x a b) =
    All-cons (λ text. MayAsk (Ask x a b) text) x (asked_at_no b) (inl refl)
    (All-weaker (λ text. MayAsk b text) (λ text. MayAsk (Ask x a b) text) (λ text may. inr (inr may)) (asked_at_no b) (at_no-may b))

-- whatever was answered, all that is ahead then may be asked
pub ahead_may : (p : Plan) → AheadMayBeAsked p
ahead_may p answers most =
    let now : Plan = after_all answers p in
    All-take (λ text. MayAsk p text) most (asked_at_no now)
    (All-weaker (λ text. MayAsk now text) (λ text. MayAsk p text) (λ text may. after_all-may answers p text may) (asked_at_no now) (at_no-may now))

-- these texts were asked on the way from `from` to `now`, each answered no
module _ (from now : Plan) (texts : List (List ℕ)) (so_far : texts ++ asked_at_no now ≡ asked_at_no from) where
  -- one more text, answered no
  pub ahead-more : (text : List ℕ) → asked now ≡ Some text → (texts ++ text ∷ []) ++ asked_at_no (after now No) ≡ asked_at_no from
  ahead-more text asks =
      append_assoc texts (text ∷ []) (asked_at_no (after now No)) ∙ ap (λ later. texts ++ later) (sym (asked_at_no-step now text asks)) ∙ so_far

  -- where there are so many texts, they are what is ahead
  pub ahead-full : (most : ℕ) → length texts ≡ most → texts ≡ ahead most from
  ahead-full most many =
      sym (ap (λ n. take n (asked_at_no from)) (sym many) ∙ ap (λ all. take (length texts) all) (sym so_far) ∙ take-append_seam texts (asked_at_no now))

  -- where it has ended, they are what is ahead too
  pub ahead-ended : (most : ℕ) → asked now ≡ None → length texts ≤ most → texts ≡ ahead most from
  ahead-ended most ended few =
      let whole : texts ≡ asked_at_no from = sym (append-nil texts) ∙ ap (λ later. texts ++ later) (sym (asked_at_no-ended now ended)) ∙ so_far in
      sym (ap (λ all. take most all) (sym whole) ∙ take_all most texts few)
