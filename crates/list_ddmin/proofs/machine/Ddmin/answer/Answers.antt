use Rattle.std.proofs.Common.{◌≡◌, take, drop, ◌++◌, length, arith, subst, sym, IsSome}
use Rattle.std.proofs.lemmas.Grind.{common_steps}
use Rattle.list_ddmin.specs.Machine.{State, asks}
use Rattle.list_ddmin.specs.inner.Fields.{Marks, state_of}
use Rattle.list_ddmin.proofs.FieldLemmas.{answered}
use Rattle.list_ddmin.proofs.machine.Ddmin.answer.Goals as goal

pub invariant_of-self : goal.invariant_of-self
invariant_of-self c =
    let marked : take c.keep_asked.new.asked.len (c.mark_candidate.new.asked ++ drop (length c.mark_candidate.new.asked) c.keep_asked.new.asked.items)
    ≡ c.mark_candidate.new.asked = grind (arith, common_steps) in
    let asking : IsSome (asks (state_of c.self.inside.phase c.self.inside.keep.items)) =
    subst (λ (s : State). IsSome (asks s)) (sym c.self.view_is) c.requires in
    let marks : Marks c.phase_after-self-inside.result c.keep_asked.new.keep.items c.mark_candidate.new.asked =
    rw c.deref-2.ensures.value at c.mark_candidate.ensures in
    rw marked (answered c.self.inside.phase c.phase_after-self-inside.result c.self.inside.keep.items c.self.inside.asked.items c.keep_asked.new.keep.items
    c.mark_candidate.new.asked c.args.yes c.count_kept-size.result
    c.self.invariant asking c.keep_asked.ensures.kept (rw c.deref.ensures.value at c.count_kept-size.ensures) c.phase_after-self-inside.ensures marks).0
