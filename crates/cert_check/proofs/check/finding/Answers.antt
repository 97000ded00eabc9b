use Rattle.std.proofs.Common.{◌≤◌, ℕ, List, length, refl, subst, sym}
use Rattle.std.proofs.lemmas.Result.{IfOk-weaker}
use Rattle.reduce_step.specs.Limits.{text_limit}
use Rattle.reduce_trees_mode.specs.Candidates.{InLanguage}
use Rattle.run_problem.specs.Problem.{Problem}
use Rattle.cert_check.specs.declared.setup.Setup.{Setup}
use Rattle.cert_check.specs.Findings.{head_in}
use Rattle.cert_check.specs.Setup.{CanBeChecked}
use Rattle.cert_check.specs.inner.Inputs.{IsFindingOfSetup}
use Rattle.cert_check.proofs.check.finding.Goals as goal

pub lines_finding-requires-clause-short : goal.lines_finding-requires-clause-short
lines_finding-requires-clause-short c = let can =
    subst CanBeChecked c.in-Lines.is c.requires in subst (λ (t : List ℕ). length t ≤ text_limit) (sym c.as_slice.ensures) can.short

pub lines_finding-requires-clause-kept : goal.lines_finding-requires-clause-kept
lines_finding-requires-clause-kept c = let can = subst CanBeChecked c.in-Lines.is c.requires in rw (c.deref.ensures.value, c.as_slice.ensures) can.kept

pub returns-in-Lines : goal.returns-in-Lines
returns-in-Lines c =
    let found = rw (c.deref.ensures.value, c.as_slice.ensures) at c.lines_finding.ensures in
    let journal = c.args.files.journal.now in
    IfOk-weaker c.lines_finding.result _ _ (λ finding it.
    subst (λ (s : Setup). IsFindingOfSetup s c.args.files.output.now (head_in journal) journal.events.items journal.torn finding) (sym c.in-Lines.is)
    (Problem.of_lines c.in-Lines.start, refl, it)) found

pub trees_finding-requires-clause-short : goal.trees_finding-requires-clause-short
trees_finding-requires-clause-short c = let can =
    subst CanBeChecked c.in-Tree.is c.requires in subst (λ (t : List ℕ). length t ≤ text_limit) (sym c.as_str.ensures.value) can.short

pub trees_finding-requires-clause-kept : goal.trees_finding-requires-clause-kept
trees_finding-requires-clause-kept c = let can =
    subst CanBeChecked c.in-Tree.is c.requires in rw (c.deref-in-Tree.ensures.value, c.as_str.ensures.value) can.kept

pub trees_finding-requires-clause-language : goal.trees_finding-requires-clause-language
trees_finding-requires-clause-language c = let can =
    subst CanBeChecked c.in-Tree.is c.requires in subst (λ (t : List ℕ). InLanguage c.in-Tree.checked t) (sym c.as_str.ensures.value) can.language

pub returns-in-Tree : goal.returns-in-Tree
returns-in-Tree c =
    let found = rw (c.deref-in-Tree.ensures.value, c.as_str.ensures.value) at c.trees_finding.ensures in
    let journal = c.args.files.journal.now in
    IfOk-weaker c.trees_finding.result _ _ (λ finding it.
    subst (λ (s : Setup). IsFindingOfSetup s c.args.files.output.now (head_in journal) journal.events.items journal.torn finding) (sym c.in-Tree.is)
    (Problem.of_tree c.in-Tree.mode it.0, (it.0, it.1, it.2, refl), it.3)) found
