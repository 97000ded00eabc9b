-- What is ahead of a reduction: it is what it may ask, and before the start is answered the start alone.
use Rattle.std.proofs.Common.{◌≡◌, ◌<◌, ◌≤◌, ℕ, List, [], ◌∷◌, ◌++◌, length, Some, None, refl, arith, length-append}
use Rattle.std.specs.Prelude.{All}
use Rattle.std.proofs.lemmas.List.{take_all}
use Rattle.std.proofs.lemmas.List.Elements.{All-nil, All-push, All-weaker}
use Rattle.script_gate_trait.specs.declared.gate.Verdict.TheVariants.{No}
use Rattle.reduce_step.specs.Limits.{text_limit}
use Rattle.reduce_step.specs.Plan.{Plan, after, asked}
use Rattle.reduce_step.specs.Ahead.{after_all, ahead, asked_at_no}
use Rattle.reduce_step.proofs.Lent.{ahead-ended, ahead-full, ahead-more, ahead_may}
use Rattle.reduce_rounds.specs.Mode.{RoundMode}
use Rattle.reduce_rounds.specs.RoundsPlan.{plan_first}
use Rattle.reduce_rounds.specs.Laws.{AheadAreCandidates, AheadIsStartAlone, IsTextOf}
use Rattle.reduce_rounds.proofs.Candidates.{asks_candidates}

pub ahead_are_candidates : {T : Type 0} (mode : RoundMode T) (Kept : T → Type 0) → AheadAreCandidates mode Kept
ahead_are_candidates mode Kept keeps listed answers most =
    All-weaker _ (λ text. IsTextOf mode Kept text) (λ text may. asks_candidates mode Kept keeps listed text may)
    (ahead most (after_all answers (plan_first mode))) (ahead_may (plan_first mode) answers most)

pub ahead_is_start_alone : {T : Type 0} (mode : RoundMode T) → AheadIsStartAlone mode
ahead_is_start_alone mode most some = take_all most (mode.text mode.start ∷ []) some

-- these short texts, at most so many, were asked on the way from `from` to `now`, each answered no
pub record WereAskedAtNo (most : ℕ) (from now : Plan) (texts : List (List ℕ)) : Type 0 where
  pub so_far : texts ++ asked_at_no now ≡ asked_at_no from
  pub few : length texts ≤ most
  pub short : All (λ text. length text ≤ text_limit) texts

pub none_yet : (most : ℕ) (from : Plan) → WereAskedAtNo most from from []
none_yet most from = record { so_far = refl; few = omega arith; short = All-nil (λ text. length text ≤ text_limit) }

pub one_more : (most : ℕ) (from now : Plan) (texts : List (List ℕ)) (text : List ℕ) → WereAskedAtNo most from now texts
    → length texts < most → asked now ≡ Some text → length text ≤ text_limit → WereAskedAtNo most from (after now No) (texts ++ text ∷ [])
one_more most from now texts text were few asks short = record {
  so_far = ahead-more from now texts were.so_far text asks;
  few = simp length-append (omega arith);
  short = All-push (λ text. length text ≤ text_limit) texts text were.short short;
}

pub all_asked : (most : ℕ) (from now : Plan) (texts : List (List ℕ)) → WereAskedAtNo most from now texts → most ≤ length texts → texts ≡ ahead most from
all_asked most from now texts were many = ahead-full from now texts were.so_far most (omega (arith, were.few, many))

pub all_to_the_end : (most : ℕ) (from now : Plan) (texts : List (List ℕ)) → WereAskedAtNo most from now texts → asked now ≡ None → texts ≡ ahead most from
all_to_the_end most from now texts were ended = ahead-ended from now texts were.so_far most ended were.few
