use Rattle.std.proofs.Common.{◌++◌, [], ◌∷◌, Option, is_some, sym, ap, ◌∙◌, append-nil}
use Rattle.std.specs.Prelude.{if◌then◌else◌}
use Rattle.script_gate_trait.specs.declared.gate.Verdict.{Verdict}
use Rattle.verdict_table.specs.TableState.{verdict_in}
use Rattle.reduce_journal.specs.declared.event.Event.{Event}
use Rattle.reduce_journal.specs.declared.event.Event.TheVariants.{Recorded}
use Rattle.reduce_journal.specs.History.{History}
use Rattle.command_resume.proofs.joining.add_missing.Goals as goal

-- the text has a verdict already
pub returns-in-Some : goal.returns-in-Some
returns-in-Some c =
    let events : History = c.args.events.now.items in
    let e : Event = Recorded c.in-Recorded.text c.in-Recorded.verdict c.in-Recorded.kept in
    rw c.in-Recorded.is
    (sym (append-nil events)
    ∙ ap (λ (o : Option Verdict). events ++ (if is_some o then [] else (e ∷ [])))
    (sym c.in-Some.is ∙ c.find.ensures ∙ ap (verdict_in c.args.known.now) c.as_slice.ensures))
