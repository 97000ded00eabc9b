use Rattle.std.proofs.Common.{◌≡◌, ◌++◌, ◌∷◌, [], List, None, sym, ap, ◌∙◌}
use Rattle.verdict_table.specs.TableState.{TableState, verdict_in}
use Rattle.verdict_table.specs.declared.record.Record.{Record}
use Rattle.verdict_table.proofs.RecordLemmas.{not_among}
use Rattle.verdict_table.proofs.KeptLemmas.{absent_where, filled_so, with_new}
use Rattle.verdict_table.proofs.kept.Kept.add.Goals as goal

pub claim-requires : goal.claim-requires
claim-requires c =
    let table : TableState = c.self.inside.table in
    let unknown : verdict_in table.records c.args.text ≡ None =
    ap (λ (rs : List Record). verdict_in rs c.args.text) c.self.view_is ∙ (ap (verdict_in c.args.self.now) (sym c.as_slice.ensures) ∙ sym c.in-None.ensures) in
    record { absent = absent_where table c.args.text c.self.invariant.no_claims (not_among table.records c.args.text unknown) }

pub invariant_of-self-in-None : goal.invariant_of-self-in-None
invariant_of-self-in-None c = record {
  no_claims =
      (filled_so c.self.inside.table c.claim.new.self c.fill.new.self c.in_ok-claim-in-None.claim c.args.text c.args.verdict
      c.in_ok-claim-in-None.ensures.claimed c.in_ok-claim-in-None.ensures.opened c.fill.ensures.recorded c.fill.ensures.closed c.self.invariant.no_claims).1;
}

pub returns-in_ok-claim-in-None-clause-ok : goal.returns-in_ok-claim-in-None-clause-ok
returns-in_ok-claim-in-None-clause-ok c =
    let added : Record = record { text = c.args.text; verdict = c.args.verdict } in
    let unknown : verdict_in c.args.self.now c.args.text ≡ None = ap (verdict_in c.args.self.now) (sym c.as_slice.ensures) ∙ sym c.in-None.ensures in
    (filled_so c.self.inside.table c.claim.new.self c.fill.new.self c.in_ok-claim-in-None.claim c.args.text c.args.verdict c.in_ok-claim-in-None.ensures.claimed
    c.in_ok-claim-in-None.ensures.opened c.fill.ensures.recorded c.fill.ensures.closed c.self.invariant.no_claims).0
    ∙ ap (λ (rs : List Record). rs ++ added ∷ []) c.self.view_is ∙ sym (with_new c.args.self.now added unknown)
