use Rattle.std.proofs.Common.{◌∙◌, ap, codes, refl}
use Rattle.command_words.specs.Tables.{check_table}
use Rattle.command_words.specs.inner.Found.{check_with}
use Rattle.command_words.proofs.Assembled.{check_found, check_without_keeps}
use Rattle.command_words.proofs.FoundValues.{named_by}
use Rattle.command_words.proofs.check.line_of.Goals as goal

pub returns-in-None : goal.returns-in-None
returns-in-None c = λ uses has.
    check_without_keeps uses
    ∙ ap (check_with uses) (rw c.in-None.is at (c.in_ok-texts_of.ensures check_table uses has (named_by check_table (codes "keep") refl)))
    ∙ check_found uses has.once

pub returns-in-Some : goal.returns-in-Some
returns-in-Some c = λ uses has.
    c.line_with.ensures uses has
    ∙ ap (check_with uses) (rw c.in-Some.is at (c.in_ok-texts_of.ensures check_table uses has (named_by check_table (codes "keep") refl)))
    ∙ check_found uses has.once
