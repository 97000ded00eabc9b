use Rattle.grammar_tree.specs.Kinds.{has_name}
use Rattle.grammar_names.proofs.Places.{kinds_push}
use Rattle.grammar_names.proofs.names.token_index.Goals as goal

pub loop-number-preserved : goal.loop-number-preserved
loop-number-preserved c =
    kinds_push has_name c.loop-number.index c.add_token.new.index c.args.kinds.now c.loop-number.number c.index-kinds-number.result c.loop-number-test.true
    c.index-kinds-number.is c.loop-number.invariant c.in_ok-add_token.ensures
