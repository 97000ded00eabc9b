use Rattle.std.proofs.Common.{◌∙◌}
use Rattle.grammar_names.proofs.KindLists.{search_finds}
use Rattle.grammar_names.proofs.kinds.is_among.Goals as goal

pub returns : goal.returns
returns c = c.is_ok.ensures.value ∙ search_finds c.args.numbers.now c.args.number c.binary_search.result c.binary_search.ensures.position c.requires
