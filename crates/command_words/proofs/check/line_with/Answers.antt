use Rattle.std.proofs.Common.{codes, map, refl}
use Rattle.command_words.specs.Lines.{mode_of}
use Rattle.command_words.specs.Tables.{check_table}
use Rattle.command_words.proofs.Assembled.{check_chooses, check_without_files, check_without_mode, this_check}
use Rattle.command_words.proofs.Firsts.{first_none, first_some, no_input, no_output, no_third, these_files}
use Rattle.command_words.proofs.FoundValues.{named_by}
use Rattle.command_words.proofs.check.line_with.Goals as goal

pub returns-in_err-input : goal.returns-in_err-input
returns-in_err-input c = λ uses has.
    rw c.from_residual.ensures
    (check_without_files uses _ (no_input (codes "journal") uses
    (first_none check_table uses c.args.matches.now (codes "input") has (named_by check_table (codes "input") refl) c.in_err-input.ensures)))

pub returns-in_err-output : goal.returns-in_err-output
returns-in_err-output c = λ uses has.
    rw c.from_residual-in_err-output.ensures
    (check_without_files uses _ (no_output (codes "journal") uses
    (first_none check_table uses c.args.matches.now (codes "output") has (named_by check_table (codes "output") refl) c.in_err-output.ensures)))

pub returns-in_err-journal : goal.returns-in_err-journal
returns-in_err-journal c = λ uses has.
    rw c.from_residual-in_err-journal.ensures
    (check_without_files uses _ (no_third (codes "journal") uses
    (first_none check_table uses c.args.matches.now (codes "journal") has (named_by check_table (codes "journal") refl) c.in_err-journal.ensures)))

pub returns-in_err-mode : goal.returns-in_err-mode
returns-in_err-mode c = λ uses has.
    rw c.from_residual-in_err-mode.ensures (check_without_mode uses _ (c.in_err-mode.ensures check_table uses check_chooses has))

pub returns : goal.returns
returns c = λ uses has.
    let m = c.args.matches.now in
    this_check uses (mode_of c.in_ok-mode.mode) (map (λ keep. keep.now) c.args.keeps.items) _ _ _
    (these_files (codes "journal") uses c.in_ok-input.input.now c.in_ok-output.output.now c.in_ok-journal.journal.now
    (first_some check_table uses m (codes "input") c.in_ok-input.input.now has (named_by check_table (codes "input") refl) c.in_ok-input.ensures)
    (first_some check_table uses m (codes "output") c.in_ok-output.output.now has (named_by check_table (codes "output") refl) c.in_ok-output.ensures)
    (first_some check_table uses m (codes "journal") c.in_ok-journal.journal.now has (named_by check_table (codes "journal") refl) c.in_ok-journal.ensures))
    (c.in_ok-mode.ensures check_table uses check_chooses has)
