-- How `selftest` ends.
use Rattle.std.proofs.Common.{inl, inr, ℕ, refl, sym, subst, Result, Ok, Err, IfOk, IfErr, MatchResult}
use Rattle.std.specs.Global.{Vec}
use Rattle.command_words.specs.Commands.{SelftestOptions}
use Rattle.command_ends.specs.declared.status.Refusal.{Refusal}
use Rattle.command_ends.specs.declared.status.Refusal.TheVariants.{Memory}
use Rattle.command_selftest.specs.Selftest.{RunsSelftest, SelftestEnds, SelftestMustEnd, SummarizesCase}
use Rattle.command_selftest.specs.inner.Selftest.{SelftestFails}
use Rattle.command_selftest.specs.Selftest.SelftestEnds.{done, memory, unput}
use Rattle.command_ends.specs.Status.{EndsRefused, EndsWithAnswer, line_of, status_of}
use Rattle.command_ends.specs.World.{PutsLine, SeenOut}

module _ (options : SelftestOptions) (out out' : SeenOut) where
  -- what gives no summary ends the command
  fails : (refusal : Refusal) → SelftestFails refusal → PutsLine (line_of refusal) out out' → SelftestEnds options out out' (status_of refusal)
  fails (Memory _) why put = memory put
  fails _ why put = absurd why

  ends_by : (outcome : Result (Vec ℕ) Refusal) (status : ℕ) → IfOk outcome (λ text. SummarizesCase options text.items) → IfErr outcome SelftestFails
      → MatchResult outcome (λ answer. EndsWithAnswer answer.items out out' status) (λ refusal. EndsRefused out out' status refusal)
      → SelftestEnds options out out' status
  ends_by (Ok text) status summary why (inl (is, put)) = subst (SelftestEnds options out out') (sym is) (done text.items summary put)
  ends_by (Ok text) status summary why (inr (is, put)) = subst (SelftestEnds options out out') (sym is) (unput text.items summary put)
  ends_by (Err refusal) status summary why end = subst (SelftestEnds options out out') (sym end.status_is) (fails refusal why end.line)

  -- which status it has to be
  must_end : {status : ℕ} → SelftestEnds options out out' status → SelftestMustEnd out out' status
  must_end (done text summary put) = record { complete = λ fine. inl refl; out_failed = λ failed. absurd (failed put.quiet) }
  must_end (memory line) = record { complete = λ fine. inr refl; out_failed = λ failed. inr refl }
  must_end (unput text summary put) = record { complete = λ fine. absurd (fine put.failed); out_failed = λ failed. inl refl }

  pub selftest_ends : {status : ℕ} → SelftestEnds options out out' status → RunsSelftest options out out' status
  selftest_ends ends = record { ends = ends; must_end = must_end ends }

  -- the end of the command
  pub runs_selftest : (outcome : Result (Vec ℕ) Refusal) (status : ℕ) → IfOk outcome (λ text. SummarizesCase options text.items) → IfErr outcome SelftestFails
      → MatchResult outcome (λ answer. EndsWithAnswer answer.items out out' status) (λ refusal. EndsRefused out out' status refusal)
      → RunsSelftest options out out' status
  runs_selftest outcome status summary why end = selftest_ends (ends_by outcome status summary why end)
