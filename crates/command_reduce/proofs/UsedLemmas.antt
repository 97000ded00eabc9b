-- What the gates of several workers show once they were opened, and then asked.
use Rattle.std.proofs.Common.{◌≡◌, ◌∙◌, arith, inl, inr, ℕ, zero, suc, List, [], ◌∷◌, Option, length, option_map, refl, sym, ap, subst}
use Rattle.std.proofs.lemmas.List.{length-map}
use Rattle.std.proofs.lemmas.List.Elements.{All-nil}
use Rattle.std.specs.List.{IsDistinct}
use Rattle.script_gate_trait.specs.declared.gate.Verdict.{Verdict}
use Rattle.script_gate_trait.specs.declared.log.Log.{Log}
use Rattle.verdict_table.specs.declared.record.Record.{Record}
use Rattle.verdict_table.specs.TableState.{texts_of}
use Rattle.reduce_journal.specs.History.{History, asked_records_of}
use Rattle.run_gated.specs.Run.{Run}
use Rattle.run_gated.specs.Records.{AreAnswers, AreAsked, all_asked}
use Rattle.worker_pool.specs.RunHistory.{with_all_asked}
use Rattle.command_words.specs.Commands.{ReduceOptions}
use Rattle.command_ends.specs.World.{SeenGate, SeenJournal, logs_of}
use Rattle.command_reduce_calls.specs.Openings.{GateRefused, opened_from, opened_log}
use Rattle.command_reduce_calls.specs.declared.openings.OpeningFault.{OpeningFault}
use Rattle.command_reduce.specs.Reduce.{GatesWereAsked, GatesWereUsed, RecordsAreSound, used_from}

-- all of them
used_all : (options : ReduceOptions) (number : ℕ) (shares : List (List (List ℕ))) (logs : List (Option Log))
    → all_asked shares (opened_from options number (length shares) logs) ≡ used_from options number shares logs
used_all options number [] logs = refl
used_all options number (texts ∷ shares) [] = refl
used_all options number (texts ∷ shares) (log ∷ logs) =
    ap (λ (ls : List (Option Log)). option_map (with_all_asked texts) (opened_log options number log) ∷ ls) (used_all options (suc number) shares logs)

-- The gates of all workers were opened, and then asked as often as there are texts.
were_asked : (options : ReduceOptions) (texts : List (List ℕ)) (old opened new : List (Option Log)) → length opened ≡ options.jobs
    → opened ≡ opened_from options 1 options.jobs old → AreAsked texts opened new → GatesWereAsked options texts old new
were_asked options texts old opened new jobs is_open are = record {
  shares = are.shares;
  one_each = are.one_each ∙ jobs;
  total = are.total;
  alone = λ alone. are.alone (jobs ∙ alone);
  used =
      are.asked ∙ ap (all_asked are.shares) (is_open ∙ ap (λ (n : ℕ). opened_from options 1 n old) (sym jobs ∙ sym are.one_each))
      ∙ used_all options 1 are.shares old;
}

module _ (options : ReduceOptions) (may_say : List ℕ → Verdict → Type 0) where
  without_records : (kept : List Record) (history : History) (logs logs' : List (Option Log)) (before after : SeenJournal) → history ≡ []
      → GatesWereUsed options [] logs logs' before after → RecordsAreSound options may_say kept history logs logs' before after
  unfolding IsDistinct
  without_records kept history logs logs' before after none used =
      subst (λ (h : History). RecordsAreSound options may_say kept h logs logs' before after) (sym none) (record {
        distinct = tt;
        resumed = tt;
        said = All-nil _;
        used = used;
      })

  -- no record was made, and the gates and the journal show what they did
  pub none_sound : (kept : List Record) (history : History) (logs logs' : List (Option Log)) (before after : SeenJournal) → history ≡ [] → logs' ≡ logs
      → after ≡ before → RecordsAreSound options may_say kept history logs logs' before after
  none_sound kept history logs logs' before after none same same_journal =
      without_records kept history logs logs' before after none (inl (refl, same, same_journal))

  -- some gate wasn't opened
  pub refused_sound : (run : Run) (refused : OpeningFault) → run.history ≡ [] → length run.before.gates ≡ options.jobs
      → GateRefused options run.before.gates run.after.gates refused → run.after.journal ≡ run.before.journal
      → RecordsAreSound options may_say run.kept run.history (logs_of run.before.gates) (logs_of run.after.gates) run.before.journal run.after.journal
  refused_sound run refused none jobs why same_journal =
      without_records run.kept run.history (logs_of run.before.gates) (logs_of run.after.gates) run.before.journal run.after.journal none
      (at why.opened why.at why.before)
    where
      at : (opened : ℕ) → refused.worker ≡ suc opened → logs_of run.after.gates ≡ opened_from options 1 opened (logs_of run.before.gates)
          → GatesWereUsed options [] (logs_of run.before.gates) (logs_of run.after.gates) run.before.journal run.after.journal
      at zero is opened_so = inl (refl, opened_so, same_journal)
      at (suc more) is opened_so = inr (inl (record {
        opened = more;
        not_all = let one_of = why.one_of in omega (arith, is, one_of, jobs);
        none = refl;
        logs = opened_so;
        journal = same_journal;
      }))

  -- the gates that showed these logs were opened, and then asked for the records' texts
  pub asked_sound : (run : Run) (logs : List (Option Log)) → length run.before.gates ≡ options.jobs
      → logs_of run.before.gates ≡ opened_from options 1 options.jobs logs → AreAnswers may_say run
      → RecordsAreSound options may_say run.kept run.history logs (logs_of run.after.gates) run.before.journal run.after.journal
  asked_sound run logs jobs is_open answers = record {
    distinct = answers.distinct;
    resumed = answers.resumed;
    said = answers.said;
    used = inr (inr (were_asked options (texts_of (asked_records_of run.history)) logs (logs_of run.before.gates) (logs_of run.after.gates)
        (length-map run.before.gates (λ (gate : SeenGate). gate.shown) ∙ jobs) is_open answers.asked));
  }
