use Rattle.std.proofs.Common.{◌≡◌}
use Rattle.std.specs.Str.{bytes_eq}
use Rattle.verdict_table.specs.TableState.{TableState, claimed_texts, found_in, texts_of}
use Rattle.verdict_table.proofs.TableLemmas.{distinct_front, there_in, verdict_found_in}
use Rattle.verdict_table.proofs.table.Table.find.Goals as goal

pub returns-in-Some-clause-verdict : goal.returns-in-Some-clause-verdict
returns-in-Some-clause-verdict c =
    let table : TableState = record { claims = c.self.inside.claims.items; records = c.self.inside.records.items; filled = c.self.inside.filled.items } in
    let is : c.in-Some.found ≡ found_in table c.args.text.now = rw (← c.deref.ensures.value, ← c.deref-2.ensures.value, ← c.in-Some.ensures) in
    rw (← c.self.view_is, is) (verdict_found_in table c.args.text.now c.self.invariant.sound)

pub returns-in-None-clause-verdict : goal.returns-in-None-clause-verdict
returns-in-None-clause-verdict c =
    let table : TableState = record { claims = c.self.inside.claims.items; records = c.self.inside.records.items; filled = c.self.inside.filled.items } in
    let is : c.unwrap_or.result ≡ found_in table c.args.text.now =
    rw (← c.deref.ensures.value, ← c.deref-2.ensures.value, ← c.in-None.ensures, c.unwrap_or.ensures, c.claim_of.ensures, c.deref-in-None.ensures.value) in
    rw (← c.self.view_is, is) (verdict_found_in table c.args.text.now c.self.invariant.sound)

pub returns-in-Some-clause-there : goal.returns-in-Some-clause-there
returns-in-Some-clause-there c =
    let table : TableState = record { claims = c.self.inside.claims.items; records = c.self.inside.records.items; filled = c.self.inside.filled.items } in
    let is : c.in-Some.found ≡ found_in table c.args.text.now = rw (← c.deref.ensures.value, ← c.deref-2.ensures.value, ← c.in-Some.ensures) in
    rw (← c.self.view_is, is) (there_in table c.args.text.now c.self.invariant.sound)

pub returns-in-None-clause-there : goal.returns-in-None-clause-there
returns-in-None-clause-there c =
    let table : TableState = record { claims = c.self.inside.claims.items; records = c.self.inside.records.items; filled = c.self.inside.filled.items } in
    let is : c.unwrap_or.result ≡ found_in table c.args.text.now =
    rw (← c.deref.ensures.value, ← c.deref-2.ensures.value, ← c.in-None.ensures, c.unwrap_or.ensures, c.claim_of.ensures, c.deref-in-None.ensures.value) in
    rw (← c.self.view_is, is) (there_in table c.args.text.now c.self.invariant.sound)

pub record_of-requires-clause-once : goal.record_of-requires-clause-once
record_of-requires-clause-once c = rw c.deref.ensures.value
    (distinct_front bytes_eq (texts_of c.self.inside.records.items) (claimed_texts c.self.inside.claims.items) c.self.invariant.sound.once)

pub record_of-requires-clause-indexed : goal.record_of-requires-clause-indexed
record_of-requires-clause-indexed c = rw c.deref.ensures.value c.self.invariant.indexed
