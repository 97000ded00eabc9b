use Rattle.std.proofs.Common.{◌∙◌, ap, ap₂, codes, refl}
use Rattle.command_words.specs.Tables.{reduce_table}
use Rattle.command_words.specs.inner.Found.{fitting_keeps, fitting_protects, line_with}
use Rattle.command_words.proofs.Assembled.{no_line, nothing_stays, reduce_found}
use Rattle.command_words.proofs.FoundValues.{named_by}
use Rattle.command_words.proofs.reduce.line_of.Goals as goal

pub returns-in_default-clause-line : goal.returns-in_default-clause-line
returns-in_default-clause-line c = λ uses has.
    no_line uses (fitting_protects uses)
    ∙ ap (λ keeps. line_with uses keeps (fitting_protects uses))
    (rw c.in_default.is at (c.in_ok-keeps.ensures reduce_table uses has (named_by reduce_table (codes "keep") refl)))
    ∙ reduce_found uses has.once

pub returns-in-None-clause-line : goal.returns-in-None-clause-line
returns-in-None-clause-line c = λ uses has.
    nothing_stays uses (fitting_keeps uses)
    ∙ ap (line_with uses (fitting_keeps uses)) (rw c.in-None.is at (c.in_ok-protects_of.ensures uses has))
    ∙ reduce_found uses has.once

pub returns-clause-line : goal.returns-clause-line
returns-clause-line c = λ uses has.
    c.line_with.ensures.line uses has
    ∙ ap₂ (line_with uses) (rw c.in-Some.is at (c.in_ok-keeps.ensures reduce_table uses has (named_by reduce_table (codes "keep") refl)))
    (rw c.in-Some-2.is at (c.in_ok-protects_of.ensures uses has))
    ∙ reduce_found uses has.once
