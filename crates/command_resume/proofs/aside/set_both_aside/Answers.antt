use Rattle.std.proofs.Common.{sym, subst}
use Rattle.reduce_journal.specs.History.{IsHistory}
use Rattle.command_resume.proofs.aside.set_both_aside.Goals as goal

pub name_joined-named-requires : goal.name_joined-named-requires
name_joined-named-requires g c =
    subst IsHistory (sym c.as_slice.ensures.value) (c.in_ok-events.ensures.readable c.requires.own c.requires.before)
