-- Following a reducer over records, answer by answer.
use Rattle.std.proofs.Common.{◌≡◌, ◌<◌, ℕ, List, Bool, true, false, Option, Some, None, IsSome, is_some, not, arith, refl, sym, ap, ◌∙◌, subst, true≢false}
use Rattle.std.specs.Prelude.{◌↔◌, IsTrue}
use Rattle.std.specs.Borrow.{Bor}
use Rattle.std.specs.Option.{option_copied}
use Rattle.std.proofs.lemmas.Option.{none-some}
use Rattle.script_gate_trait.specs.declared.gate.Verdict.{Verdict}
use Rattle.script_gate_trait.specs.declared.gate.Verdict.TheVariants as verdict
use Rattle.reduce_step.specs.Plan.{Ask, End, HasEnded, Plan, after, asked, follow, height}
use Rattle.reduce_step.proofs.Lent.{follow_after, follow_ended, stays}

-- what is none of its values is nothing
pub nothing : {A : Type 0} (o : Option A) → ((x : A) → o ≡ Some x → ⊥) → o ≡ None
nothing None not = refl
nothing (Some x) not = absurd (not x refl)

-- an answer lowers the height
pub lower : (p : Plan) (text : List ℕ) (v : Verdict) → asked p ≡ Some text → height (after p v) < height p
lower (End result) text v asks = absurd (cc asks)
lower (Ask t at_yes at_no) text verdict.Yes asks = omega arith
lower (Ask t at_yes at_no) text verdict.No asks = omega arith

pub some_asked : (p : Plan) (text : List ℕ) → asked p ≡ Some text → IsSome (asked p)
some_asked p text asks = subst (λ (o : Option (List ℕ)). IsSome o) (sym asks) refl

-- what is asked now has a verdict: following goes on after it
pub one_more : (V : List ℕ → Option Verdict) (first p : Plan) (text : List ℕ) (v : Verdict) → follow V p ≡ follow V first → asked p ≡ Some text
    → V text ≡ Some v → (q : Plan) → q ≡ after p v → follow V q ≡ follow V first
one_more V first p text v so_far asks known q is = ap (follow V) is ∙ sym (follow_after V p v text asks known) ∙ so_far

-- what is asked now, if anything is, has none: it has been followed
pub done : (V : List ℕ → Option Verdict) (first p : Plan) → follow V p ≡ follow V first → ((text : List ℕ) → asked p ≡ Some text → V text ≡ None)
    → p ≡ follow V first
done V first p so_far unknown = sym (by (asked p) refl) ∙ so_far
  where
    by : (o : Option (List ℕ)) → asked p ≡ o → follow V p ≡ p
    by None ended = follow_ended V p ended
    by (Some text) asks = stays V p text asks (unknown text asks)

-- whether a plan has ended, by what it asks
not_false : (b : Bool) → false ≡ not b → b ≡ true
not_false true e = refl
not_false false e = absurd (true≢false (sym e))

pub none_copied : (o : Option (Bor (List ℕ))) (b : Bool) (p : Plan) → option_copied o ≡ asked p → is_some o ≡ not b → IsTrue b ↔ HasEnded p
none_copied None b p same is = (λ t. sym same, λ ended. not_false b is)
none_copied (Some text) b p same is = (λ t. absurd (true≢false (is ∙ ap not t)), λ ended. absurd (none-some text.now (sym (same ∙ ended))))
