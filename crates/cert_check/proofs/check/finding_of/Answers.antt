use Rattle.std.proofs.Common.{ℕ, List, refl, subst, sym, ◌∙◌}
use Rattle.reduce_step.specs.Plan.{MayAsk, Plan}
use Rattle.cert_check.specs.declared.finding.Finding.TheVariants.{No}
use Rattle.cert_check.specs.declared.finding.Why.TheVariants.{NotLegal, NotCandidate}
use Rattle.cert_check.specs.inner.Steps.{IsFindingOfPlan}
use Rattle.cert_check.proofs.Found.{all_candidates, all_taken, found, found_other, marked_ask, none_other}
use Rattle.cert_check.proofs.check.finding_of.Goals as goal

pub first_other-requires : goal.first_other-requires
first_other-requires g c =
    let first = g.S.Step.first c.new-replayed.result.reducer in
    let Is : List ℕ → Type 0 = λ t. g.C.Candidates.IsCandidate c.args.candidates.now t in
    let events = c.args.files.journal.now.events.items in
    let done = c.take_all.new.self in
    let it =
    all_taken first events (g.S.Step.plan done.reducer) done.table done.marks.items c.in_ok-illegal.illegal c.in_default.not-Some
    (rw c.deref.ensures.value at c.in_ok-illegal.ensures.taken) in
    let asks = subst (λ (p : Plan). (asked : List ℕ) → MayAsk p asked → Is asked) (sym c.new-replayed.ensures.first) c.requires.asks in
    let marked = c.in_ok-follow_records.ensures.marked first it.marked in
    marked_ask first Is c.args.files.output.now events asks (g.S.Step.plan c.follow_records.new.reducer) done.table c.follow_records.new.marks.items marked
    c.deref-2.result.now c.deref-2.ensures.value c.as_slice.result.now (c.as_slice.ensures ∙ c.into_records-records.ensures.records)

pub returns-in-Some : goal.returns-in-Some
returns-in-Some g c =
    let Is : List ℕ → Type 0 = λ t. g.C.Candidates.IsCandidate c.args.candidates.now t in
    let illegal = rw (c.in-Some.is, c.deref.ensures.value) at c.in_ok-illegal.ensures.taken in
    subst (λ (p : Plan). IsFindingOfPlan p Is c.args.files.output.now c.args.files.journal.now.events.items 0 (No (NotLegal c.in-Some.event)))
    c.new-replayed.ensures.first (refl, tt, illegal)

pub returns-in-Some-other : goal.returns-in-Some-other
returns-in-Some-other g c =
    let first = g.S.Step.first c.new-replayed.result.reducer in
    let Is : List ℕ → Type 0 = λ t. g.C.Candidates.IsCandidate c.args.candidates.now t in
    let events = c.args.files.journal.now.events.items in
    let done = c.take_all.new.self in
    let it =
    all_taken first events (g.S.Step.plan done.reducer) done.table done.marks.items c.in_ok-illegal.illegal c.in_default.not-Some
    (rw c.deref.ensures.value at c.in_ok-illegal.ensures.taken) in
    let other = rw c.in-Some-other.is at c.in_ok-other.ensures in
    subst (λ (p : Plan). IsFindingOfPlan p Is c.args.files.output.now events 0 (No (NotCandidate c.in-Some-other.number))) c.new-replayed.ensures.first
    (found_other first Is c.args.files.output.now events (g.S.Step.plan done.reducer) done.table done.marks.items it c.as_slice.result.now
    (c.as_slice.ensures ∙ c.into_records-records.ensures.records) c.in-Some-other.number other)

pub returns : goal.returns
returns g c =
    let first = g.S.Step.first c.new-replayed.result.reducer in
    let Is : List ℕ → Type 0 = λ t. g.C.Candidates.IsCandidate c.args.candidates.now t in
    let events = c.args.files.journal.now.events.items in
    let done = c.take_all.new.self in
    let it =
    all_taken first events (g.S.Step.plan done.reducer) done.table done.marks.items c.in_ok-illegal.illegal c.in_default.not-Some
    (rw c.deref.ensures.value at c.in_ok-illegal.ensures.taken) in
    let all = none_other Is c.as_slice.result.now c.in_ok-other.other c.in_default-other.not-Some c.in_ok-other.ensures in
    let candidates =
    all_candidates Is done.table c.as_slice.result.now (c.as_slice.ensures ∙ c.into_records-records.ensures.records) all in
    subst (λ (p : Plan). IsFindingOfPlan p Is c.args.files.output.now events 0 c.end_of-end.result) c.new-replayed.ensures.first
    (found first Is c.args.files.output.now events c.legal_histories_follow.ensures (g.S.Step.plan done.reducer) (g.S.Step.plan c.follow_records.new.reducer)
    done.table done.marks.items c.end_of-end.result it c.in_ok-follow_records.ensures.followed candidates c.end_of-end.ensures)
