-- Which questions of a reduction a history answers, and what one thread does that asks them.
use Rattle.std.specs.Prelude.{◌≡◌, ℕ, List, [], ◌∷◌, ◌++◌, Option, Some, None}
use Rattle.script_gate_trait.specs.declared.gate.Verdict.{Verdict}
use Rattle.verdict_table.specs.declared.record.Record.{Record}
use Rattle.verdict_table.specs.TableState.{verdict_in}
use Rattle.reduce_journal.specs.History.{History, records_of}
use Rattle.reduce_journal.specs.declared.event.Event.TheVariants.{Recorded, Committed}
use Rattle.ordered_commit.specs.Moves.{KeptVerdicts}
use Rattle.ordered_commit.specs.Replay.{record_at}
use Rattle.worker_pool.specs.Sequential.{answer_events, records_after}
use Rattle.reduce_core.specs.Reduction.{Admits}
use Rattle.run_problem.specs.Problem.{Problem, questions_of}

-- the list begins with these elements, in their order
abbrev pub IsPrefix : {X : Type 0} → List X → List X → Type 0
IsPrefix {X} first list = (later : List X) × (list ≡ first ++ later)

-- the text of a record, if there is one
abbrev pub named_text : Option Record → List (List ℕ)
named_text None = []
named_text (Some r) = r.text ∷ []

-- the texts of the records that the commits name, in the order of the commits, where there are these records already
abbrev pub committed_from : List Record → History → List (List ℕ)
committed_from earlier [] = []
committed_from earlier (Recorded text verdict kept ∷ history) = committed_from (earlier ++ record { text = text; verdict = verdict } ∷ []) history
committed_from earlier (Committed number ∷ history) = named_text (record_at number earlier) ++ committed_from earlier history

-- the texts that a history answers, in order and repeated texts each time
abbrev pub committed_texts : History → List (List ℕ)
committed_texts history = committed_from [] history

-- by the verdict, if there is one
abbrev pub with_verdict : Option Verdict → (Verdict → History) → History
with_verdict None later = []
with_verdict (Some verdict) later = later verdict

-- what is done for these questions in order, until one has no verdict: its commit, and before that its record, where it has none yet
abbrev pub thread_from : (List ℕ → Option Verdict) → KeptVerdicts → List Record → List (List ℕ) → History
thread_from V kept records [] = []
thread_from V kept records (text ∷ questions) =
    with_verdict (V text) (λ verdict. answer_events kept records text verdict ++ thread_from V kept (records_after kept records text verdict) questions)

-- what one thread does that asks these questions and gets these verdicts, where some are kept from an earlier run
abbrev pub thread_history : (List ℕ → Option Verdict) → KeptVerdicts → List (List ℕ) → History
thread_history V kept questions = thread_from V kept [] questions

-- ---- of a problem

-- what its reduction asks over the verdicts of a history
abbrev pub questions_over : Admits → Problem → History → List (List ℕ)
questions_over guard problem history = questions_of guard problem (verdict_in (records_of history))

-- what one thread does over these verdicts
abbrev pub thread_over : Admits → Problem → KeptVerdicts → History → History
thread_over guard problem kept history = thread_history (verdict_in (records_of history)) kept (questions_over guard problem history)
