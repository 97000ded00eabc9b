use Rattle.std.proofs.Common.{inl, inr, ◌∷◌, [], List, sym, ap, subst}
use Rattle.std.specs.List.{Contains}
use Rattle.std.proofs.lemmas.List.Elements.{Contains-append_left, Contains-push}
use Rattle.lexer_match.specs.declared.dead.DeadSet.{DeadSet}
use Rattle.lexer_match.specs.declared.dead.SetAt.{SetAt}
use Rattle.lexer_match.proofs.reading.Reading.keep_dead.Goals as goal

pub loop-set-preserved : goal.loop-set-preserved
loop-set-preserved c =
    let inv = c.loop-set.invariant in
    let rest = c.pop.new.self.items in
    let set = c.in-Some.set in
    let seen = c.args.seen in
    let old = c.args.self.now.trace.items in
    let P : SetAt → Type 0 = λ p. Contains old p in
    let Q : SetAt → List SetAt → Type 0 = λ p l. Contains l p in
    let here : Contains old set = inv.among set (subst (Q set) (sym c.in-Some.ensures.items) (Contains-push rest set)) in
    record {
      current = inv.current;
      next = inv.next;
      among = λ p k. inv.among p (subst (Q p) (sym c.in-Some.ensures.items) (Contains-append_left rest (set ∷ []) p k));
      added = λ d h. elim (c.in_ok-add.ensures.added d h) [
        | inl before ↦ inv.added d before
        | inr e ↦ inr (subst P (sym (ap (λ (x : DeadSet). x.set) e)) here, ap (λ (x : DeadSet). x.seen) e)
      ];
    }
