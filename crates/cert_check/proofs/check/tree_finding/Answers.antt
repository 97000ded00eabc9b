use Rattle.std.proofs.Common.{subst, sym}
use Rattle.std.specs.Prelude.{IfOk}
use Rattle.keep_guard.specs.Keep.{keeps_admit}
use Rattle.reduce_step.specs.declared.mode.TreeMode.{TreeMode}
use Rattle.reduce_trees_mode.specs.Input.{TreeInput}
use Rattle.reduce_trees_mode.specs.InputOf.{input_of}
use Rattle.run_problem.specs.Problem.{Problem}
use Rattle.reduce_journal.specs.declared.head.Head.TheVariants.{Version1}
use Rattle.cert_check.specs.Findings.{IsFound}
use Rattle.cert_check.proofs.check.tree_finding.Goals as goal

pub returns-in-Perses : goal.returns-in-Perses
returns-in-Perses g c =
    let parts = c.args.parts.now in
    let input : TreeInput = input_of parts.start.grammar parts.formed parts.tree parts.start.bytes parts.tokens.items.items
    (keeps_admit parts.guard) parts.squeezes in
    subst (λ (mode : TreeMode). IfOk c.perses_finding.result
    (IsFound input.admits (Problem.of_tree mode input) c.args.files.output.now Version1 c.args.files.journal.now.events.items 0)) (sym c.in-Perses.is)
    c.perses_finding.ensures

pub returns-in-Hdd : goal.returns-in-Hdd
returns-in-Hdd g c =
    let parts = c.args.parts.now in
    let input : TreeInput = input_of parts.start.grammar parts.formed parts.tree parts.start.bytes parts.tokens.items.items
    (keeps_admit parts.guard) parts.squeezes in
    subst (λ (mode : TreeMode). IfOk c.hdd_finding.result
    (IsFound input.admits (Problem.of_tree mode input) c.args.files.output.now Version1 c.args.files.journal.now.events.items 0)) (sym c.in-Hdd.is)
    c.hdd_finding.ensures
