use Rattle.std.proofs.Common.{◌≡◌, ◌≢◌, Option, Some}
use Rattle.std.proofs.lemmas.Result.{err_from_is_err_and}
use Rattle.reduce_journal.specs.declared.digest.Digest.{Digest}
use Rattle.command_ends.specs.Status.{IsOtherStartRefusal}
use Rattle.command_ends.specs.declared.status.Refusal.{Refusal}
use Rattle.command_ends.specs.declared.status.Refusal.TheVariants.{Memory, OtherStart}
use Rattle.command_reduce.specs.inner.Resume.{KeptFails}
use Rattle.command_reduce.proofs.resume.kept_of.Goals as goal

-- the line is that of the other start
other_fails : (start other : Digest) (found : Option Digest) (refusal : Refusal) → found ≡ Some other → other ≢ start → IsOtherStartRefusal other start refusal
    → KeptFails start found refusal
other_fails start other found (Memory _) is differs line = tt
other_fails start other found (OtherStart text) is differs line = (other, is, differs, line)
other_fails start other found _ is differs line = absurd line

pub returns-in-Some-clause-refused : goal.returns-in-Some-clause-refused
returns-in-Some-clause-refused c =
    let is = rw c.in-Some.is at c.other_start.ensures in
    other_fails c.args.start.now c.in-Some.other c.args.journal.now.start c.of_other_start.result is.0 is.1 c.of_other_start.ensures

pub returns-in_ok-kept-in-None-clause-kept : goal.returns-in_ok-kept-in-None-clause-kept
returns-in_ok-kept-in-None-clause-kept c = (rw c.in-None.is at c.other_start.ensures, c.in_ok-kept-in-None.ensures)

pub returns-in_err-kept-in-None-clause-refused : goal.returns-in_err-kept-in-None-clause-refused
returns-in_err-kept-in-None-clause-refused c =
    let p = err_from_is_err_and c.from_residual.result c.from_residual.ensures.1 in
    rw (p.1, p.2) tt
