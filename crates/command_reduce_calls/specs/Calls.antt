-- Why a gate and the journal weren't opened, and what became of the output file.
use Rattle.std.specs.Prelude.{◌≡◌, ℕ, List, [], Result, Ok, Err}
use Rattle.std.specs.Global.{Vec}
use Rattle.faults.specs.Count.{Rose}
use Rattle.edge_io.specs.Files.{Holds, SameOthers}
use Rattle.edge_io.specs.FileCalls.{FileCall}
use Rattle.reduce_journal.specs.Report.{report_text}
use Rattle.run_gated.specs.declared.fault.RunFault.{RunFault}
use Rattle.run_gated.specs.declared.fault.RunFault.TheVariants as run
use Rattle.run_gated.specs.declared.ran.Reduced.{Reduced}
use Rattle.command_ends.specs.declared.status.Refusal.{Refusal}
use Rattle.command_ends.specs.declared.status.Refusal.TheVariants.{Memory, CannotWrite}
use Rattle.command_ends.specs.Status.{ending_of, ending_of_run, write_makes}
use Rattle.command_ends.specs.World.{CallFailed, FilesKept, IsQuiet, SeenFiles}

-- why the journal wasn't opened, by its counts before and after
abbrev pub OpeningFails : ℕ → ℕ → RunFault → Type 0
OpeningFails count count' run.Journal = Rose count count'
OpeningFails count count' (run.Memory _) = count' ≡ count
OpeningFails count count' _ = ⊥

-- the report is that of the reduction, whose text was written, and nothing else; or why there is none
abbrev pub WriteEnds : List ℕ → SeenFiles → SeenFiles → Result Reduced RunFault → Result (Vec ℕ) Refusal → Type 0
WriteEnds name old new (Err fault) outcome = ((refusal : Refusal) × (outcome ≡ Err refusal) × (ending_of refusal ≡ ending_of_run fault)) × (new ≡ old)
WriteEnds name old new (Ok reduced) (Ok report) =
    (report.items ≡ report_text reduced.counts) × Holds reduced.text.items (new.shown name) × SameOthers old.shown new.shown name × IsQuiet old new
WriteEnds name old new (Ok reduced) (Err (Memory _)) = FilesKept old new
WriteEnds name old new (Ok reduced) (Err CannotWrite) = CallFailed old new × SameOthers old.shown new.shown name
WriteEnds name old new (Ok reduced) (Err _) = ⊥

-- the calls of the files that this makes: one, of the output file, where there is a reduction; but where memory ran out there is none
abbrev pub result_makes : {A : Type 0} → List ℕ → Result Reduced RunFault → Result A Refusal → List FileCall
result_makes name (Err fault) outcome = []
result_makes name (Ok reduced) outcome = write_makes name outcome
