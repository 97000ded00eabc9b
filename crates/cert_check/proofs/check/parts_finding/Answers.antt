use Rattle.std.proofs.Common.{◌∙◌, subst}
use Rattle.std.specs.Prelude.{IfOk}
use Rattle.keep_guard.specs.Keep.{keeps_admit}
use Rattle.reduce_core.specs.Reduction.{Admits}
use Rattle.reduce_trees_mode.specs.Input.{TreeInput}
use Rattle.reduce_trees_mode.specs.InputOf.{input_of}
use Rattle.run_problem.specs.Problem.{Problem}
use Rattle.reduce_journal.specs.declared.head.Head.TheVariants.{Version1}
use Rattle.cert_check.specs.Findings.{IsFound}
use Rattle.cert_check.proofs.Setups.{input_admits, input_from}
use Rattle.cert_check.proofs.check.parts_finding.Goals as goal

pub tree_finding-requires-clause-kept : goal.tree_finding-requires-clause-kept
tree_finding-requires-clause-kept c =
    input_admits c.args.checked.now c.args.start.now c.args.keeps.now _ c.requires.input c.requires.admits c.requires.kept

pub tree_finding-requires-clause-same : goal.tree_finding-requires-clause-same
tree_finding-requires-clause-same c = λ asked.
    c.texts_are_candidates.ensures c.in_ok-candidates.candidates _ asked
    (input_from c.tokens_are_unique.ensures c.args.checked.now c.args.start.now c.args.keeps.now c.in_ok-candidates.candidates _
    c.in_ok-candidates.ensures.grammar c.in_ok-candidates.ensures.start (c.in_ok-candidates.ensures.keeps ∙ c.in_ok-stay.ensures)
    c.in_ok-candidates.ensures.tokens c.requires.input c.requires.admits)

pub returns : goal.returns
returns c =
    let parts = c.args.parts.now in
    let input : TreeInput =
    input_of parts.start.grammar parts.formed parts.tree parts.start.bytes parts.tokens.items.items (keeps_admit parts.guard) parts.squeezes in
    subst (λ (guard : Admits). IfOk c.tree_finding.result
    (IsFound guard (Problem.of_tree c.args.mode input) c.args.files.output.now Version1 c.args.files.journal.now.events.items 0)) c.requires.admits
    c.tree_finding.ensures
