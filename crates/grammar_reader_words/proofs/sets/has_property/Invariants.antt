use Rattle.std.proofs.Common.{◌≡◌, length}
use Rattle.grammar_reader_words.specs.Quoted.{has_property}
use Rattle.grammar_reader_words.proofs.sets.has_property.Given as goal

abbrev pub invariant-loop-rest : goal.invariant-loop-rest
invariant-loop-rest l = has_property l.rest ≡ has_property l.fn.marks

abbrev pub decreases-loop-rest : goal.decreases-loop-rest
decreases-loop-rest l = length l.rest
