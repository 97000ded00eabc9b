use Rattle.std.specs.Prelude.{option_map}
use Rattle.command_resume.proofs.HeldLemmas.{of_answer}
use Rattle.command_resume.proofs.files.journal_in.Goals as goal

pub returns-clause-journal : goal.returns-clause-journal
returns-clause-journal g c = of_answer (option_map (λ bytes. bytes.items) c.in_ok-held.held) c.held_journal.result c.held_journal.ensures
