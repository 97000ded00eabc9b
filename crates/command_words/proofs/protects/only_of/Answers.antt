use Rattle.std.proofs.Common.{codes, refl}
use Rattle.command_words.specs.Lines.{span_read}
use Rattle.command_words.specs.Tables.{any_lines, optional, reduce_table}
use Rattle.command_words.proofs.Firsts.{first_none, first_some}
use Rattle.command_words.proofs.FoundValues.{named_by, no_only, no_span, this_span}
use Rattle.command_words.proofs.protects.only_of.Goals as goal

pub returns-in-None : goal.returns-in-None
returns-in-None c = λ uses has.
    no_only uses (first_none reduce_table uses c.args.matches.now (codes "only") has (named_by reduce_table (codes "only") refl) c.in-None.ensures)

pub returns-in_err-read_span-in-Some : goal.returns-in_err-read_span-in-Some
returns-in_err-read_span-in-Some c = λ uses has.
    let text = c.in-Some.text.now in
    let some = first_some reduce_table uses c.args.matches.now (codes "only") text has (named_by reduce_table (codes "only") refl) c.in-Some.ensures in
    rw c.from_residual.ensures (no_span uses text (has.once (optional (codes "only") any_lines) refl refl) some c.in_err-read_span-in-Some.ensures)

pub returns-in_ok-read_span-in-Some : goal.returns-in_ok-read_span-in-Some
returns-in_ok-read_span-in-Some c = λ uses has.
    let text = c.in-Some.text.now in
    let some = first_some reduce_table uses c.args.matches.now (codes "only") text has (named_by reduce_table (codes "only") refl) c.in-Some.ensures in
    let span = c.in_ok-read_span-in-Some.ensures in
    this_span uses text (span_read c.in_ok-read_span-in-Some.field-0) (has.once (optional (codes "only") any_lines) refl refl) some span.0 span.1
