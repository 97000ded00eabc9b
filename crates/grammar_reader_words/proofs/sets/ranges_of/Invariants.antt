use Rattle.std.proofs.Common.{◌≡◌, length}
use Rattle.grammar_reader_words.specs.Quoted.{ranges_of}
use Rattle.grammar_reader_words.proofs.Joined.{after}
use Rattle.grammar_reader_words.proofs.sets.ranges_of.Given as goal

abbrev pub invariant-loop-ranges : goal.invariant-loop-ranges
invariant-loop-ranges l = after l.ranges.items (ranges_of l.rest) ≡ ranges_of l.fn.marks

abbrev pub decreases-loop-ranges : goal.decreases-loop-ranges
decreases-loop-ranges l = length l.rest
