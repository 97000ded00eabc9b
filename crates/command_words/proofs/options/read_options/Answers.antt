use Rattle.std.proofs.Common.{◌∙◌, map, string_bytes, sym}
use Rattle.command_words.proofs.Made.{all_formed, answer_of_error, answer_of_matches, answer_of_others, bare, command_app}
use Rattle.command_words.proofs.options.read_options.Goals as goal

pub returns-then-not-are_well_formed : goal.returns-then-not-are_well_formed
returns-then-not-are_well_formed c = λ table same is_table.
    answer_of_others table (map string_bytes c.args.words.now) is_table (sym (all_formed c.args.words.now) ∙ sym c.if-not-are_well_formed.ensures)

pub returns-in-Ok : goal.returns-in-Ok
returns-in-Ok c = λ table same is_table.
    let name = c.args.command.now in
    answer_of_matches name table (map string_bytes c.args.words.now) (sym (all_formed c.args.words.now) ∙ sym c.if-not-are_well_formed.ensures) is_table _
    (command_app name table c.args.rows.now _ _
    (bare name _ _ _ c.new.ensures.app c.no_binary_name.ensures c.disable_help_flag-command.ensures) c.in_ok-command.ensures same)
    c.in-Ok.matches c.in-Ok.ensures.matches c.in-Ok.ensures.kinds

pub returns : goal.returns
returns c = λ table same is_table.
    let name = c.args.command.now in
    answer_of_error name table (map string_bytes c.args.words.now) (sym (all_formed c.args.words.now) ∙ sym c.if-not-are_well_formed.ensures) _
    (command_app name table c.args.rows.now _ _ (bare name _ _ _ c.new.ensures.app c.no_binary_name.ensures c.disable_help_flag-command.ensures)
    c.in_ok-command.ensures same)
    c.in-Err.error c.in-Err.ensures.kinds (λ memory. c.in_default.not-OutOfMemory (c.kind.ensures ∙ memory))
