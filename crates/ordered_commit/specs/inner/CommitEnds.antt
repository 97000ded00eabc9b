-- Beside `../CommitEnds.antt`: what private functions and proofs need.
use Rattle.std.specs.Prelude.{◌≡◌, ◌∷◌, ◌++◌, [], ℕ, Option, Result, Ok, Err}
use Rattle.edge_io.specs.Sink.{Put}
use Rattle.script_gate_trait.specs.declared.gate.Verdict.{Verdict}
use Rattle.reduce_step.specs.Plan.{Plan, after}
use Rattle.reduce_journal.specs.History.{History}
use Rattle.reduce_journal.specs.declared.event.Event.TheVariants.{Committed}
use Rattle.ordered_commit.specs.declared.fault.BoardFault.{BoardFault}
use Rattle.ordered_commit.specs.declared.fault.BoardFault.TheVariants.{Journal, Memory}
use Rattle.ordered_commit.specs.Writes.{IsPartlyWritten, IsWritten}

-- how it ends to write a commit, to add it to the history and to answer the front, in this order
abbrev pub WritesCommit : {A S J : Type 0} → (S → Plan) → (J → Option Put) → ℕ → Verdict → Result A BoardFault → S → S → History → History → J → J → Type 0
WritesCommit plan put_so_far number verdict (Ok done) front front_after history history_after old new =
    (plan front_after ≡ after (plan front) verdict) × (history_after ≡ history ++ Committed number ∷ []) × IsWritten put_so_far (Committed number) old new
WritesCommit plan put_so_far number verdict (Err Journal) front front_after history history_after old new =
    (front_after ≡ front) × (history_after ≡ history) × IsPartlyWritten put_so_far (Committed number) old new
WritesCommit plan put_so_far number verdict (Err (Memory _)) front front_after history history_after old new =
    (history_after ≡ history ++ Committed number ∷ []) × IsWritten put_so_far (Committed number) old new
