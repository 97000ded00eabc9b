use Rattle.std.proofs.Common.{map}
use Rattle.grammar_tree.specs.GrammarView.{rule_of}
use Rattle.grammar_names.specs.inner.Names.{can_stand_for}
use Rattle.grammar_names.proofs.Places.{kinds_push}
use Rattle.grammar_names.proofs.names.literal_index.Goals as goal

pub loop-number-preserved : goal.loop-number-preserved
loop-number-preserved c =
    kinds_push (λ t kind. can_stand_for (map rule_of c.args.rules.now) kind t) c.loop-number.index c.add_literal.new.index c.args.kinds.now c.loop-number.number
    c.index-kinds-number.result c.loop-number-test.true c.index-kinds-number.is c.loop-number.invariant c.in_ok-add_literal.ensures
