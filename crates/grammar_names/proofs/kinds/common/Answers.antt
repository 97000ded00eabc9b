use Rattle.std.proofs.Common.{ap, ◌∙◌}
use Rattle.std.specs.Prelude.{filter}
use Rattle.std.proofs.lemmas.List.{take_all}
use Rattle.grammar_names.specs.KindLists.{is_in}
use Rattle.grammar_names.proofs.KindLists.{common_of, not_falling}
use Rattle.grammar_names.proofs.kinds.common.Goals as goal

pub is_among-requires : goal.is_among-requires
is_among-requires c = not_falling c.args.kinds.now c.requires.kinds_rise

pub returns : goal.returns
returns c =
    c.loop-number.invariant
    ∙ ap (filter (is_in c.args.kinds.now)) (take_all c.loop-number.number-index c.args.numbers.now c.loop-number-test.false)
    ∙ common_of c.args.kinds.now c.args.numbers.now c.requires.kinds_rise c.requires.numbers_rise
