use Rattle.std.proofs.Common.{◌≡◌, ℕ, false, ap, ◌∙◌, length, slice_index_or, subst, arith}
use Rattle.lexer_match.proofs.StateSets.{index_default}
use Rattle.lexer_match.proofs.state_set.StateSet.has_flagged.Goals as goal

pub returns-clause-none : goal.returns-clause-none
returns-clause-none c _ n (k, inside, e) =
    let states = c.args.self.now.states.items in
    let Q : ℕ → Type 0 = λ x. slice_index_or c.args.flags.now x false ≡ false in
    subst Q (index_default states k 0 n inside ∙ e)
    (c.loop-state.invariant.none k (omega (arith, inside, c.loop-state-test.false, ap length c.deref-state-items.ensures.value)))
