use Rattle.std.proofs.Common.{codes, refl}
use Rattle.command_words.specs.Tables.{reduce_table}
use Rattle.command_words.proofs.Firsts.{first_none, first_some, no_input, no_output, no_third, these_files}
use Rattle.command_words.proofs.FoundValues.{named_by}
use Rattle.command_words.proofs.reduce.files_of.Goals as goal

pub returns-in_err-input : goal.returns-in_err-input
returns-in_err-input c = λ uses has.
    rw c.from_residual.ensures
    (no_input (codes "script") uses (first_none reduce_table uses c.args.matches.now (codes "input") has
    (named_by reduce_table (codes "input") refl) c.in_err-input.ensures))

pub returns-in_err-output : goal.returns-in_err-output
returns-in_err-output c = λ uses has.
    rw c.from_residual-in_err-output.ensures
    (no_output (codes "script") uses (first_none reduce_table uses c.args.matches.now (codes "output") has
    (named_by reduce_table (codes "output") refl) c.in_err-output.ensures))

pub returns-in_err-script : goal.returns-in_err-script
returns-in_err-script c = λ uses has.
    rw c.from_residual-in_err-script.ensures
    (no_third (codes "script") uses (first_none reduce_table uses c.args.matches.now (codes "script") has
    (named_by reduce_table (codes "script") refl) c.in_err-script.ensures))

pub returns : goal.returns
returns c = λ uses has.
    let m = c.args.matches.now in
    these_files (codes "script") uses c.in_ok-input.input.now c.in_ok-output.output.now c.in_ok-script.script.now
    (first_some reduce_table uses m (codes "input") c.in_ok-input.input.now has (named_by reduce_table (codes "input") refl) c.in_ok-input.ensures)
    (first_some reduce_table uses m (codes "output") c.in_ok-output.output.now has (named_by reduce_table (codes "output") refl) c.in_ok-output.ensures)
    (first_some reduce_table uses m (codes "script") c.in_ok-script.script.now has (named_by reduce_table (codes "script") refl) c.in_ok-script.ensures)
