use Rattle.std.proofs.Common.{ℕ, List, ap, refl, subst, sym, ◌∙◌}
use Rattle.std.proofs.lemmas.Result.{IfOk-weaker}
use Rattle.std.specs.Prelude.{IfOk}
use Rattle.keep_guard.specs.Keep.{holds_all, keeps_admit}
use Rattle.reduce_journal.specs.declared.head.Head.TheVariants.{Version1}
use Rattle.run_problem.specs.Problem.{Problem}
use Rattle.cert_check.specs.Findings.{IsFound, head_in}
use Rattle.cert_check.proofs.Setups.{not_other, of_whole, other_found, same_lines}
use Rattle.cert_check.proofs.check.lines_finding.Goals as goal

pub returns-in-Some : goal.returns-in-Some
returns-in-Some c =
    other_found (keeps_admit c.args.keeps.now) (Problem.of_lines c.args.start.now) c.args.files.output.now (head_in c.args.files.journal.now)
    c.args.files.journal.now.events.items c.args.files.journal.now.torn c.args.start.now refl c.in-Some.other (rw c.in-Some.is at c.other_journal.ensures)

pub guarded_finding-requires-clause-kept : goal.guarded_finding-requires-clause-kept
guarded_finding-requires-clause-kept c =
    ap (λ (ks : List (List ℕ)). holds_all ks c.args.start.now) (c.new-guard.ensures ∙ c.in_ok-held.ensures) ∙ c.requires.kept

pub guarded_finding-requires-clause-same : goal.guarded_finding-requires-clause-same
guarded_finding-requires-clause-same c = λ asked.
    let texts = c.in_ok-candidates.candidates in
    same_lines texts.start c.args.start.now c.in_ok-candidates.ensures.start texts.keeps c.new-guard.result
    (c.in_ok-candidates.ensures.keeps ∙ c.in_ok-stay.ensures ∙ sym (c.new-guard.ensures ∙ c.in_ok-held.ensures)) asked

pub returns : goal.returns
returns c =
    IfOk-weaker c.guarded_finding.result _ _ (of_whole (keeps_admit c.args.keeps.now) (Problem.of_lines c.args.start.now) c.args.files.output.now
    (head_in c.args.files.journal.now) c.args.files.journal.now.events.items c.args.files.journal.now.torn c.args.start.now refl
    (not_other _ c.other_journal.result c.in_default.not-Some c.other_journal.ensures))
    (subst (λ (ks : List (List ℕ)). IfOk c.guarded_finding.result
    (IsFound (keeps_admit ks) (Problem.of_lines c.args.start.now) c.args.files.output.now Version1 c.args.files.journal.now.events.items 0))
    (c.new-guard.ensures ∙ c.in_ok-held.ensures) c.guarded_finding.ensures)
