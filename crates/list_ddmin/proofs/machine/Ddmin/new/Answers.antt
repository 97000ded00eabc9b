use Rattle.std.proofs.Common.{◌≡◌, take, drop, ◌++◌, length, arith, rules, refl, replicate, true}
use Rattle.std.proofs.lemmas.Grind.{common_steps}
use Rattle.list_ddmin.specs.inner.Fields.{Marks}
use Rattle.list_ddmin.proofs.Minimal.{kept_count-all}
use Rattle.list_ddmin.proofs.FieldLemmas.{started}
use Rattle.list_ddmin.proofs.machine.Ddmin.new.Goals as goal

pub mark_candidate-requires-clause-counted : goal.mark_candidate-requires-clause-counted
mark_candidate-requires-clause-counted c =
    let all : c.deref.result.now ≡ replicate c.args.len true = search rules in
    rw (all, kept_count-all c.args.len) refl

pub invariant_of-result : goal.invariant_of-result
invariant_of-result c =
    let marked : take c.in_ok-asked.asked.len (c.mark_candidate.new.asked ++ drop (length c.mark_candidate.new.asked) c.in_ok-asked.asked.items)
    ≡ c.mark_candidate.new.asked = grind (arith, common_steps) in
    let all : c.in_ok-keep.keep.items ≡ replicate c.args.len true = search rules in
    let marks : Marks c.first_phase-phase.result c.in_ok-keep.keep.items c.mark_candidate.new.asked = rw c.deref.ensures.value at c.mark_candidate.ensures in
    rw marked (started c.args.len c.args.may_be_empty c.first_phase-phase.result c.in_ok-keep.keep.items c.mark_candidate.new.asked
    (omega arith) all c.first_phase-phase.ensures marks).0

pub returns : goal.returns
returns c =
    let all : c.in_ok-keep.keep.items ≡ replicate c.args.len true = search rules in
    let marks : Marks c.first_phase-phase.result c.in_ok-keep.keep.items c.mark_candidate.new.asked = rw c.deref.ensures.value at c.mark_candidate.ensures in
    (started c.args.len c.args.may_be_empty c.first_phase-phase.result c.in_ok-keep.keep.items c.mark_candidate.new.asked
    (omega arith) all c.first_phase-phase.ensures marks).1
