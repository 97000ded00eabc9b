use Rattle.std.proofs.Common.{◌∙◌, not, ap, sym}
use Rattle.std.proofs.lemmas.Bool.{both_ways}
use Rattle.reduce_journal.specs.Journal.{IsHeadBegun}
use Rattle.command_resume.proofs.HeldLemmas.{neither, not_started, started}
use Rattle.command_resume.proofs.files.begun_journal.Goals as goal

pub returns-in-Ok : goal.returns-in-Ok
returns-in-Ok c = not_started c.args.bytes.now c.in-Ok.journal c.in-Ok.ensures.journal (c.is_none.ensures ∙ ap not c.if-is_none.true)

pub returns-in-Ok-2 : goal.returns-in-Ok-2
returns-in-Ok-2 c =
    let part : (¬ IsHeadBegun c.as_slice.result.now) =
    λ begun. both_ways c.is_head_begun.result c.if-is_head_begun.false (c.is_head_begun.ensures.1 begun) in
    let whole : (¬ IsHeadBegun c.args.bytes.now) = rw (sym c.as_slice.ensures) part in (
      started c.args.bytes.now c.in-Ok.journal whole (λ first events torn journal. c.in-Ok.ensures.each_journal first events torn journal)
          (c.is_none.ensures ∙ ap not c.if-is_none.false),
      c.in-Ok.ensures.journal,
    )

pub returns-in-Err-BadHead : goal.returns-in-Err-BadHead
returns-in-Err-BadHead c =
    let part : (¬ IsHeadBegun c.as_slice.result.now) =
    λ begun. both_ways c.is_head_begun.result c.if-is_head_begun.false (c.is_head_begun.ensures.1 begun) in
    neither c.args.bytes.now c.read_journal.result c.in-Err-BadHead.field-0 (rw (sym c.as_slice.ensures) part)
    (λ first events torn journal. c.read_journal.ensures.each_journal first events torn journal) c.in-Err-BadHead.is (rw c.in-Err-BadHead.field-0-is tt)

pub returns-in-Err-BadRecord : goal.returns-in-Err-BadRecord
returns-in-Err-BadRecord c =
    let part : (¬ IsHeadBegun c.as_slice.result.now) =
    λ begun. both_ways c.is_head_begun.result c.if-is_head_begun.false (c.is_head_begun.ensures.1 begun) in
    neither c.args.bytes.now c.read_journal.result c.in-Err-BadRecord.field-0 (rw (sym c.as_slice.ensures) part)
    (λ first events torn journal. c.read_journal.ensures.each_journal first events torn journal) c.in-Err-BadRecord.is (rw c.in-Err-BadRecord.field-0-is tt)
