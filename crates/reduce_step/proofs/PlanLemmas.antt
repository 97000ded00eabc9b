-- Plans: what is asked, and what is followed.
use Rattle.std.proofs.Common.{◌≡◌, List, ℕ, Option, Some, None, inl, inr, refl}
use Rattle.script_gate_trait.specs.declared.gate.Verdict.{Verdict}
use Rattle.script_gate_trait.specs.declared.gate.Verdict.TheVariants.{Yes, No}
use Rattle.reduce_step.specs.Plan.{Plan, End, Ask, MayAsk, after, asked, by_answer, follow}

-- what is asked may be asked
pub asked_may : (p : Plan) (text : List ℕ) → asked p ≡ Some text → MayAsk p text
asked_may (End x) text asks = absurd (cc asks)
asked_may (Ask x a b) text asks = inl (cc asks)

-- what may be asked after an answer might have been asked before it
pub after_may : (p : Plan) (v : Verdict) (text t : List ℕ) → asked p ≡ Some text → MayAsk (after p v) t → MayAsk p t
after_may (End x) v text t asks may = absurd (cc asks)
after_may (Ask x a b) Yes text t asks may = inr (inl may)
after_may (Ask x a b) No text t asks may = inr (inr may)

by_same : (v : Verdict) (p a b : Plan) (o : Option Verdict) (V : List ℕ → Option Verdict) (x : List ℕ) → o ≡ Some v
    → by_answer o p (follow V a) (follow V b) ≡ follow V (after (Ask x a b) v)
by_same Yes p a b o V x known = rw known refl
by_same No p a b o V x known = rw known refl

-- where the text that is asked has a verdict, following goes on after it
pub follow_after : (V : List ℕ → Option Verdict) (p : Plan) (v : Verdict) (text : List ℕ) → asked p ≡ Some text → V text ≡ Some v
    → follow V p ≡ follow V (after p v)
follow_after V (End x) v text asks known = absurd (cc asks)
follow_after V (Ask x a b) v text asks known =
    let same : x ≡ text = cc asks in
    by_same v (Ask x a b) a b (V x) V x (rw same known)

-- a plan that has ended is followed to itself
pub follow_ended : (V : List ℕ → Option Verdict) (p : Plan) → asked p ≡ None → follow V p ≡ p
follow_ended V (End x) ended = refl
follow_ended V (Ask x a b) ended = absurd (cc ended)

-- a plan whose text has no verdict stays as it is
pub stays : (V : List ℕ → Option Verdict) (p : Plan) (text : List ℕ) → asked p ≡ Some text → V text ≡ None → follow V p ≡ p
stays V (End x) text asks none = absurd (cc asks)
stays V (Ask x a b) text asks none =
    let same : x ≡ text = cc asks in
    let unknown : V x ≡ None = rw same none in
    rw unknown refl
