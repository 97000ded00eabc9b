use Rattle.std.proofs.Common.{◌≡◌, ◌+◌, ◌<◌, ◌∙◌, Some, ap, arith, eqb-true, false, get_or, length, sym, true}
use Rattle.std.specs.Str.{bytes_eq}
use Rattle.verdict_table.specs.TableState.{texts_of}
use Rattle.verdict_table.specs.declared.found.Found.TheVariants.{Filled}
use Rattle.verdict_table.specs.declared.record.Record.{Record}
use Rattle.verdict_table.specs.inner.TextIndex.{text_at}
use Rattle.verdict_table.proofs.TextIndexLemmas.{left_before, left_first, left_next, left_within, no_records, none_left}
use Rattle.verdict_table.proofs.TextIndexLemmas.{record_text, recorded_at, smaller_count}
use Rattle.verdict_table.proofs.table.record_of.Goals as goal

pub returns-then-is_empty : goal.returns-then-is_empty
returns-then-is_empty c =
    sym (no_records c.args.text.now c.args.records.now c.args.filled.now (eqb-true _ 0 (sym c.is_empty.ensures ∙ c.if-is_empty.true)))

pub loop-next-init : goal.loop-next-init
loop-next-init c = left_first c.args.text.now (texts_of c.args.records.now) c.newest-next.result
    (c.newest-next.ensures (texts_of c.args.records.now) c.requires.indexed)

pub returns-then-eq : goal.returns-then-eq
returns-then-eq c =
    let record-at : Record = c.index-records-at.result in
    let within : c.in-Some.at < length c.args.records.now = left_within _ _ _ _ c.in-Some.is c.loop-next.invariant in
    let is : get_or c.args.records.now c.in-Some.at record-at ≡ record-at = sym c.index-records-at.is in
    let equal : bytes_eq c.args.text.now record-at.text ≡ true = rw (← c.as_slice.ensures) (sym c.if-eq.ensures) in
    let found = recorded_at 1 c.in-Some.at (c.in-Some.at + 1) c.args.text.now c.args.records.now c.args.filled.now record-at (omega arith)
    c.requires.filled within c.requires.once (rw is equal) in
    sym (found ∙ ap (λ (r : Record). Some (Filled (get_or c.args.filled.now c.in-Some.at 0) (c.in-Some.at + 1) r.verdict)) is)

pub older-next-requires : goal.older-next-requires
older-next-requires c = rw c.requires.indexed.same_length (left_before _ _ _ _ c.in-Some.is c.loop-next.invariant)

pub loop-next-smaller : goal.loop-next-smaller
loop-next-smaller c = smaller_count _ (texts_of c.args.records.now) c.in-Some.at c.older-next.result c.loop-next.next c.in-Some.is
    (c.older-next.ensures (texts_of c.args.records.now) c.requires.indexed)

pub loop-next-preserved : goal.loop-next-preserved
loop-next-preserved c =
    let record-at : Record = c.index-records-at.result in
    let within : c.in-Some.at < length c.args.records.now = left_within _ _ _ _ c.in-Some.is c.loop-next.invariant in
    let text : text_at (texts_of c.args.records.now) c.in-Some.at ≡ record-at.text =
    record_text c.args.records.now c.in-Some.at record-at within c.index-records-at.is in
    let other : bytes_eq c.args.text.now record-at.text ≡ false = rw (← c.as_slice.ensures) (sym c.if-eq.ensures) in
    left_next c.args.text.now (texts_of c.args.records.now) c.in-Some.at (rw c.in-Some.is at c.loop-next.invariant) (rw text other)
    c.older-next.result (c.older-next.ensures (texts_of c.args.records.now) c.requires.indexed)

pub returns : goal.returns
returns c = sym (none_left c.args.text.now c.args.records.now c.args.filled.now (rw c.in_default.is at c.loop-next.invariant))
