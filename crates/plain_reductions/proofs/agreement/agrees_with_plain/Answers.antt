use Rattle.reduce_trees_mode.specs.InputOf.{input_of}
use Rattle.plain_reductions.specs.Results.{result_of}
use Rattle.plain_reductions.specs.Verdicts.{verdicts_by}
use Rattle.plain_reductions.specs.declared.reduction.Mode.TheVariants.{Hdd, Perses}
use Rattle.plain_reductions.proofs.InMode.{in_present}
use Rattle.plain_reductions.proofs.agreement.agrees_with_plain.Goals as goal

pub returns-in-Perses : goal.returns-in-Perses
returns-in-Perses g c =
    let parts = c.args.parts.now in
    let rule = c.args.rule in
    in_present Perses c.args.mode (verdicts_by rule.start.now rule.seed)
    (input_of parts.start.grammar parts.formed parts.tree parts.start.bytes parts.tokens.items.items (g.F.Relation.admits parts.guard) parts.squeezes)
    (result_of c.args.plain.now) c.is_perses.result c.in-Perses.is c.is_perses.ensures

pub returns-in-Hdd : goal.returns-in-Hdd
returns-in-Hdd g c =
    let parts = c.args.parts.now in
    let rule = c.args.rule in
    in_present Hdd c.args.mode (verdicts_by rule.start.now rule.seed)
    (input_of parts.start.grammar parts.formed parts.tree parts.start.bytes parts.tokens.items.items (g.F.Relation.admits parts.guard) parts.squeezes)
    (result_of c.args.plain.now) c.is_hdd.result c.in-Hdd.is c.is_hdd.ensures
