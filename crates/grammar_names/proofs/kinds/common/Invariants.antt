use Rattle.std.proofs.Common.{◌≡◌, take}
use Rattle.std.specs.Prelude.{filter}
use Rattle.grammar_names.specs.KindLists.{is_in}
use Rattle.grammar_names.proofs.kinds.common.Given as goal

abbrev pub invariant-loop-number : goal.invariant-loop-number
invariant-loop-number l = l.both.items ≡ filter (is_in l.kinds) (take l.number-index l.numbers)
