use Rattle.std.proofs.Common.{Some, None, codes, refl}
use Rattle.command_words.specs.Options.{Values}
use Rattle.command_words.specs.Tables.{optional, required, selftest_table, tree_modes}
use Rattle.command_words.proofs.Assembled.{selftest_without_mode, selftest_without_number, selftest_without_size, this_mode, this_selftest}
use Rattle.command_words.proofs.Firsts.{first_or}
use Rattle.command_words.proofs.FoundValues.{named_by}
use Rattle.command_words.proofs.selftest.line_of.Goals as goal

pub returns-in_err-number-clause-line : goal.returns-in_err-number-clause-line
returns-in_err-number-clause-line c = λ uses has.
    rw c.from_residual.ensures
    (selftest_without_number uses has.once (c.in_err-number.ensures.value uses has (named_by selftest_table (codes "number") refl)
    (has.once (required (codes "number") (Values.number 0 4294967295)) refl refl)))

pub returns-in_err-size-clause-line : goal.returns-in_err-size-clause-line
returns-in_err-size-clause-line c = λ uses has.
    rw c.from_residual-in_err-size.ensures
    (selftest_without_size uses has.once (c.in_err-size.ensures.value uses has (named_by selftest_table (codes "size") refl)
    (has.once (required (codes "size") (Values.number 1 1500)) refl refl)))

pub returns-in_err-mode-clause-line : goal.returns-in_err-mode-clause-line
returns-in_err-mode-clause-line c = λ uses has.
    let text =
    first_or selftest_table uses c.args.matches.now (codes "mode") has
    (named_by selftest_table (codes "mode") refl) _ _ _ c.get_str.ensures c.unwrap_or.ensures in
    rw c.from_residual-in_err-mode.ensures
    (selftest_without_mode uses has.once (this_mode uses c.unwrap_or.result.now None
    (has.once (optional (codes "mode") (Values.one_of tree_modes)) refl refl) text c.in_err-mode.ensures))

pub returns-clause-line : goal.returns-clause-line
returns-clause-line c = λ uses has.
    let text = first_or selftest_table uses c.args.matches.now (codes "mode") has
    (named_by selftest_table (codes "mode") refl) _ _ _ c.get_str.ensures c.unwrap_or.ensures in
    this_selftest uses c.in_ok-number.number c.in_ok-size.size c.in_ok-mode.mode has.once
    (c.in_ok-number.ensures.value uses has (named_by selftest_table (codes "number") refl)
    (has.once (required (codes "number") (Values.number 0 4294967295)) refl refl))
    (c.in_ok-size.ensures.value uses has (named_by selftest_table (codes "size") refl) (has.once (required (codes "size") (Values.number 1 1500)) refl refl))
    (this_mode uses c.unwrap_or.result.now (Some c.in_ok-mode.mode)
    (has.once (optional (codes "mode") (Values.one_of tree_modes)) refl refl) text c.in_ok-mode.ensures)
