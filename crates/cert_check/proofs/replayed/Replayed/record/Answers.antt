use Rattle.std.proofs.Common.{◌≡◌, ℕ, List, None, ap, false, ◌∙◌, subst, sym, true≢false}
use Rattle.std.specs.List.{list_any}
use Rattle.std.specs.Str.{bytes_eq}
use Rattle.verdict_table.specs.TableState.{found_in, texts_of, verdict_in}
use Rattle.verdict_table.proofs.Lent.{filled_so, not_among}
use Rattle.cert_check.specs.inner.Replayed.{is_absent}
use Rattle.cert_check.proofs.Numbered.{absent_is}
use Rattle.cert_check.proofs.Refusing.{recorded_again}
use Rattle.cert_check.proofs.Replaying.{recorded}
use Rattle.cert_check.proofs.replayed.Replayed.record.Goals as goal

pub claim-requires : goal.claim-requires
claim-requires g c = record {
  absent =
      ap (found_in c.args.self.now.table) (c.in_ok-copy.ensures ∙ sym c.as_slice.ensures)
      ∙ absent_is (found_in c.args.self.now.table c.as_slice.result.now) (sym c.is_new.ensures.absent ∙ c.if-not-is_new.false);
}

pub returns-then-not-is_new-clause-taken : goal.returns-then-not-is_new-clause-taken
returns-then-not-is_new-clause-taken g c = λ kept first history it.
    recorded_again first history (g.S.Step.plan c.args.self.now.reducer) c.args.self.now.table c.args.self.now.marks.items it c.args.text.now c.args.verdict
    kept
    (λ absent. true≢false (sym (ap is_absent (ap (found_in c.args.self.now.table) c.as_slice.ensures ∙ absent)) ∙ sym c.is_new.ensures.absent
    ∙ c.if-not-is_new.true))

pub returns-clause-taken : goal.returns-clause-taken
returns-clause-taken g c = λ kept first history it.
    let absent : list_any (bytes_eq c.args.text.now) (texts_of c.args.self.now.table.records) ≡ false =
    not_among c.args.self.now.table.records c.args.text.now
    (subst (λ (t : List ℕ). verdict_in c.args.self.now.table.records t ≡ None) c.as_slice.ensures (c.is_new.ensures.none c.if-not-is_new.false)) in
    let filled =
    filled_so c.args.self.now.table c.claim.new.self c.fill.new.self c.in_ok-claim.claim c.in_ok-copy.copy c.args.verdict c.in_ok-claim.ensures.claimed
    c.in_ok-claim.ensures.opened c.fill.ensures.recorded c.fill.ensures.closed it.closed in
    recorded first history (g.S.Step.plan c.args.self.now.reducer) c.args.self.now.table c.args.self.now.marks.items it c.args.text.now c.args.verdict kept
    c.fill.new.self c.push.new.self.items (rw c.in_ok-copy.ensures at filled.0) filled.1 c.in_ok-push.ensures.items absent
