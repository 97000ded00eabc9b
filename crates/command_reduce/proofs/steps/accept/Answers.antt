use Rattle.std.proofs.Common.{◌≡◌, ◌∙◌, ℕ, List, true, inl, inr, subst, sym}
use Rattle.std.proofs.lemmas.Result.{err_from_is_err_and}
use Rattle.line_guard.specs.MustStay.{Stays, stays_admit}
use Rattle.verdict_table.specs.declared.record.Record.{Record}
use Rattle.reduce_journal.specs.Journal.{IsDigestOf}
use Rattle.reduce_journal.specs.declared.digest.Digest.{Digest}
use Rattle.run_problem.specs.Problem.{start_text}
use Rattle.run_problem.specs.Read.{numbers_read, start_read}
use Rattle.command_words.specs.Commands.{ReduceOptions}
use Rattle.command_words.specs.Lines.{reduce_read}
use Rattle.command_ends.specs.World.{SeenFiles, seen}
use Rattle.command_ends.proofs.Lent.{same_seen}
use Rattle.command_reduce.specs.Resume.{IsKeptFrom, IsKnownOf}
use Rattle.command_reduce.specs.inner.Resume.{ResumeRefused}
use Rattle.command_reduce.specs.inner.Read.{admits_read}
use Rattle.command_reduce.proofs.CallLemmas.{all_read_calls, problem_refused_calls, resume_refused_calls, stays_refused_calls}
use Rattle.command_reduce.proofs.ProblemLemmas.{accepted_as, start_as}
use Rattle.command_reduce.proofs.ReadLemmas.{start_stays, stays_refused}
use Rattle.command_reduce.proofs.steps.accept.Goals as goal

pub returns-clause-kept : goal.returns-clause-kept
returns-clause-kept g c =
    let problem = c.in_ok-problem.problem in
    subst (λ (stays : Stays). stays_admit stays (numbers_read problem) (start_read problem) ≡ true) (sym c.in_ok-guard.ensures.guard)
    (start_stays c.all_keep_protected.ensures (reduce_read c.args.line.now) problem c.in_ok-guard.ensures.accepts.0)

pub returns-in_err-guard-clause-refused : goal.returns-in_err-guard-clause-refused
returns-in_err-guard-clause-refused g c =
    let p = err_from_is_err_and c.from_residual-in_err-guard.result c.from_residual-in_err-guard.ensures.1 in
    let options = reduce_read c.args.line.now in
    rw (p.1, p.2) (inr (inl (
      c.in_ok-problem.ensures.quiet,
      stays_refused options (seen g.F.Files.content g.F.Files.faults c.args.files.now) (admits_read options c.in_ok-problem.problem) c.in_ok-problem.problem
          c.in_err-guard.field-0.0 c.in_ok-problem.ensures.problem c.in_err-guard.ensures.refused,
    )))

-- what was read first leaves the files as they are seen
module _ (old mid : SeenFiles) (same : mid ≡ old) where
  pub known_before : (options : ReduceOptions) (text : List ℕ) (start : Digest) (kept : List Record) → IsDigestOf text start
      → IsKeptFrom options.resume mid start kept → IsKnownOf options old text (record { start = start; kept = kept })
  known_before options text start kept is kept_from =
      record { start = is; kept = subst (λ (files : SeenFiles). IsKeptFrom options.resume files start kept) same kept_from }

pub returns-clause-known : goal.returns-clause-known
returns-clause-known g c =
    let options = reduce_read c.args.line.now in
    let old = seen g.F.Files.content g.F.Files.faults c.args.files.now in
    let mid = seen g.F.Files.content g.F.Files.faults c.read_problem.new.files in
    let start = c.digest_of-start.result in
    known_before old mid (same_seen old mid c.read_problem.ensures.same c.in_ok-problem.ensures.quiet) options (start_read c.in_ok-problem.problem) start
    c.in_ok-kept.kept (subst (λ (text : List ℕ). IsDigestOf text start) c.start.ensures c.digest_of-start.ensures) c.in_ok-kept.ensures.kept

pub returns-clause-quiet : goal.returns-clause-quiet
returns-clause-quiet g c = c.in_ok-kept.ensures.quiet ∙ c.in_ok-problem.ensures.quiet

pub returns-clause-same : goal.returns-clause-same
returns-clause-same g c = λ name. c.read_kept.ensures.same name ∙ c.read_problem.ensures.same name

pub returns-in_err-kept-clause-same : goal.returns-in_err-kept-clause-same
returns-in_err-kept-clause-same g c = λ name. c.read_kept.ensures.same name ∙ c.read_problem.ensures.same name

pub returns-in_err-kept-clause-refused : goal.returns-in_err-kept-clause-refused
returns-in_err-kept-clause-refused g c =
    let p = err_from_is_err_and c.from_residual-in_err-kept.result c.from_residual-in_err-kept.ensures.1 in
    let options = reduce_read c.args.line.now in
    let old = seen g.F.Files.content g.F.Files.faults c.args.files.now in
    let mid = seen g.F.Files.content g.F.Files.faults c.read_problem.new.files in
    let new = seen g.F.Files.content g.F.Files.faults c.read_kept.new.files in
    let problem = c.in_ok-problem.problem in
    let start = c.digest_of-start.result in
    let digest = subst (λ (text : List ℕ). IsDigestOf text start) c.start.ensures c.digest_of-start.ensures in
    let refusal = c.in_err-kept.field-0.0 in
    rw (p.1, p.2) (inr (inr (
      start,
      accepted_as options old (admits_read options problem) problem (λ one. IsDigestOf (start_text one) start) c.in_ok-guard.ensures.accepts
          (λ one is. subst (λ (text : List ℕ). IsDigestOf text start) (sym (start_as (admits_read options problem) problem one is)) digest)
          c.in_ok-problem.ensures.problem,
      subst (λ (files : SeenFiles). ResumeRefused options.resume start files new refusal)
          (same_seen old mid c.read_problem.ensures.same c.in_ok-problem.ensures.quiet) c.in_err-kept.ensures.refused,
    )))

-- the first `?` that fails is that of the problem
pub returns-in_err-problem-clause-calls : goal.returns-in_err-problem-clause-calls
returns-in_err-problem-clause-calls g c =
    let p = err_from_is_err_and c.from_residual.result c.from_residual.ensures.1 in
    rw (p.1, p.2) (problem_refused_calls (reduce_read c.args.line.now) (g.F.Files.calls c.args.files.now) (g.F.Files.calls c.args.files.now)
    (g.F.Files.calls c.read_problem.new.files) (seen g.F.Files.content g.F.Files.faults c.args.files.now)
    (seen g.F.Files.content g.F.Files.faults c.read_problem.new.files) c.in_err-problem.field-0.0 c.in_err-problem.ensures.refused
    c.in_err-problem.ensures.calls)

pub returns-in_err-guard-clause-calls : goal.returns-in_err-guard-clause-calls
returns-in_err-guard-clause-calls g c =
    let p = err_from_is_err_and c.from_residual-in_err-guard.result c.from_residual-in_err-guard.ensures.1 in
    rw (p.1, p.2) (stays_refused_calls (reduce_read c.args.line.now) (g.F.Files.calls c.args.files.now) (g.F.Files.calls c.args.files.now)
    (g.F.Files.calls c.read_problem.new.files) (start_read c.in_ok-problem.problem) c.in_err-guard.field-0.0
    c.in_err-guard.ensures.refused c.in_ok-problem.ensures.read)

pub returns-clause-read : goal.returns-clause-read
returns-clause-read g c = all_read_calls (reduce_read c.args.line.now) _ _ _ c.in_ok-problem.ensures.read c.in_ok-kept.ensures.read

pub returns-in_err-kept-clause-calls : goal.returns-in_err-kept-clause-calls
returns-in_err-kept-clause-calls g c =
    let p = err_from_is_err_and c.from_residual-in_err-kept.result c.from_residual-in_err-kept.ensures.1 in
    rw (p.1, p.2) (resume_refused_calls (reduce_read c.args.line.now) _ _ _ c.in_ok-problem.ensures.read c.in_err-kept.field-0.0
    c.in_err-kept.ensures.calls)
