-- What the records of a run are.
use Rattle.std.specs.Prelude.{◌≡◌, ℕ, List, [], ◌∷◌, All, Option, length, map, option_map, sum}
use Rattle.std.specs.List.{IsDistinct}
use Rattle.std.specs.Str.{bytes_eq}
use Rattle.script_gate_trait.specs.declared.gate.Verdict.{Verdict}
use Rattle.script_gate_trait.specs.declared.gate.Verdict.TheVariants.{No}
use Rattle.script_gate_trait.specs.declared.log.Log.{Log}
use Rattle.verdict_table.specs.declared.record.Record.{Record}
use Rattle.verdict_table.specs.TableState.{texts_of, verdict_in}
use Rattle.reduce_rounds.specs.Mode.{RoundMode}
use Rattle.reduce_rounds.specs.Laws.{IsTextOf}
use Rattle.worker_pool.specs.RunHistory.{IsBeginning, own_history, with_all_asked}
use Rattle.reduce_journal.specs.History.{History, IsHistory, asked_records_of, records_of}
use Rattle.ordered_commit.specs.Moves.{KeptVerdicts}
use Rattle.ordered_commit.specs.Replay.{AllGoWith, IsLegal}
use Rattle.reduce_rounds.specs.RoundsPlan.{plan_first}
use Rattle.run_gated.specs.Seen.{logs_of}
use Rattle.run_gated.specs.Run.{Run}

-- the first record is of this text, with this verdict
abbrev pub FirstIs : List ℕ → Verdict → List Record → Type 0
FirstIs text verdict [] = ⊥
FirstIs text verdict (r ∷ records) = (r.text ≡ text) × (r.verdict ≡ verdict)

-- the only record's verdict is no
abbrev pub OnlyNo : List Record → Type 0
OnlyNo [] = ⊥
OnlyNo (r ∷ records) = (r.verdict ≡ No) × (records ≡ [])

-- the first record's verdict is no
abbrev pub FirstIsNo : List Record → Type 0
FirstIsNo [] = ⊥
FirstIsNo (r ∷ records) = r.verdict ≡ No

-- where there is a record, the first is of this text
abbrev pub BeginsAt : List ℕ → List Record → Type 0
BeginsAt text [] = Unit {0}
BeginsAt text (r ∷ records) = r.text ≡ text

-- the logs of gates after these asks more, a list of texts for each
abbrev pub all_asked : List (List (List ℕ)) → List (Option Log) → List (Option Log)
all_asked [] logs = logs
all_asked (texts ∷ shares) [] = []
all_asked (texts ∷ shares) (log ∷ logs) = option_map (with_all_asked texts) log ∷ all_asked shares logs

-- The gates of the workers, in the order of their numbers, were asked as often as there are
-- texts. The gate of a worker alone was asked for these texts, in this order.
pub record AreAsked (texts : List (List ℕ)) (old new : List (Option Log)) : Type 0 where
  pub shares : List (List (List ℕ))
  pub one_each : length shares ≡ length old
  pub total : sum (map (λ share. length share) shares) ≡ length texts
  pub alone : length old ≡ 1 → shares ≡ texts ∷ []
  pub asked : new ≡ all_asked shares old

-- Whatever was reduced: no text is there twice; a record is kept exactly where its text has a kept verdict, and then it has that one; each other verdict is a
-- gate's; and the gates were asked as often as there are records that aren't kept.
pub record AreAnswers (may_say : List ℕ → Verdict → Type 0) (run : Run) : Type 0 where
  pub distinct : IsDistinct bytes_eq (texts_of (records_of run.history))
  pub resumed : AllGoWith (verdict_in run.kept) run.history
  pub said : All (λ r. may_say r.text r.verdict) (asked_records_of run.history)
  pub asked : AreAsked (texts_of (asked_records_of run.history)) (logs_of run.before.gates) (logs_of run.after.gates)

-- The history is one that the reducer of the mode can have, and that can be read back; each text is that of a listed state that is kept; the first is
-- the start's, and after its no nothing was asked. With one worker the history is a beginning of what one thread does over its records, where
-- these verdicts are kept from an earlier run.
pub record AreOfMode {T : Type 0} (workers : ℕ) (earlier : KeptVerdicts) (mode : RoundMode T) (Kept : T → Type 0) (history : History) : Type 0 where
  pub legal : IsLegal (plan_first mode) history
  pub readable : IsHistory history
  pub candidates : All (λ r. IsTextOf mode Kept r.text) (records_of history)
  pub first : BeginsAt (mode.text mode.start) (records_of history)
  pub ends_at_no : FirstIsNo (records_of history) → OnlyNo (records_of history)
  pub sequential : workers ≡ 1 → IsBeginning history (own_history earlier (plan_first mode) history)
