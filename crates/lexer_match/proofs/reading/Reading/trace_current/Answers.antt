use Rattle.std.proofs.Common.{◌≡◌, inl, inr, ◌↔◌, ℕ, List, sym, ◌∙◌, subst}
use Rattle.std.specs.List.{Contains}
use Rattle.lexer_match.specs.declared.alternative.Seen.{Seen}
use Rattle.lexer_match.specs.declared.dead.DeadSet.{DeadSet}
use Rattle.std.proofs.lemmas.List.Elements.{Contains-push_cases}
use Rattle.lexer_match.specs.declared.dead.SetAt.{SetAt}
use Rattle.lexer_match.specs.Dead.{HasDead}
use Rattle.lexer_match.specs.inner.Dead.{IsSetAt}
use Rattle.lexer_match.proofs.Found.{in_some}
use Rattle.lexer_match.proofs.reading.Reading.trace_current.Goals as goal

pub returns-in-Some-clause-known : goal.returns-in-Some-clause-known
returns-in-Some-clause-known c =
    let states = c.args.self.now.current.states.items in
    let (d, has, at, same, e) =
    in_some c.seen.result c.in-Some.seen (λ (seen : Seen). (d : DeadSet) × HasDead c.args.self.now.dead d × (d.set.remaining ≡ c.args.remaining)
    × (d.set.states.items ≡ c.deref.result.now) × (d.seen ≡ seen)) c.in-Some.is c.seen.ensures in
    let Q : ℕ → List ℕ → Type 0 = λ n l. Contains l n ↔ Contains states n in
    (d, has, (at, λ n. subst (Q n) (sym (same ∙ c.deref.ensures.value)) (c.in_ok-set.ensures.1 n)), e)

pub returns-in_ok-push-in-None-clause-traced : goal.returns-in_ok-push-in-None-clause-traced
returns-in_ok-push-in-None-clause-traced c p k =
    let old = c.args.self.now.trace.items in
    let Q : List SetAt → Type 0 = λ l. Contains l p in
    let R : SetAt → Type 0 = λ x. IsSetAt c.args.remaining c.args.self.now.current.states.items x in
    elim (Contains-push_cases old c.in_ok-set.set p (subst Q c.in_ok-push-in-None.ensures.items k))
    [ inl h ↦ inl h | inr same ↦ inr (subst R same c.in_ok-set.ensures) ]
