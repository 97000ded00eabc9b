use Rattle.std.proofs.Common.{◌≡◌, not, count_by, vec_len}
use Rattle.grammar_check_nodes.specs.Marking.{IsMarked}
use Rattle.grammar_check_nodes.proofs.marking.least_table.Given as goal

abbrev pub invariant-loop : goal.invariant-loop
invariant-loop g l = (vec_len l.flags ≡ g.T.Test.nodes l.test) × IsMarked (g.T.Test.test l.test) l.flags.items

abbrev pub decreases-loop : goal.decreases-loop
decreases-loop g l = count_by not l.flags.items
