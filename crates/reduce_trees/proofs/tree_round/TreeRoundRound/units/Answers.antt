use Rattle.std.proofs.Common.{◌≡◌, Some, rules}
use Rattle.reduce_trees.specs.inner.Fields.{candidate_in}
use Rattle.reduce_trees_mode.specs.InputOf.{input_of}
use Rattle.reduce_trees.proofs.RoundLemmas.{units_now}
use Rattle.reduce_trees.proofs.tree_round.TreeRoundRound.units.Goals as goal

pub returns : goal.returns
returns g c =
    let parts = c.args.self.now.parts.now in
    let now : candidate_in c.args.self.now.trial ≡ Some c.in-Some.candidate.now = search rules in
    units_now (input_of parts.start.grammar parts.formed parts.tree parts.start.bytes parts.tokens.items.items (g.F.Relation.admits parts.guard) parts.squeezes)
    c.args.self.now.style (g.W.TreeWalk.left c.args.self.now.walk)
    (g.W.TreeWalk.rest c.args.self.now.walk) c.args.self.now.trial c.in-Some.candidate.now c.args.self.now.agrees.tried now
