-- What the first marks of a set write.
use Rattle.std.specs.Prelude.{ℕ, ◌<◌, List, [], Option, Some, None, length}
use Rattle.grammar_reader_words.specs.Quoted.{ranges_of, with_range}
use Rattle.grammar_reader_words.specs.declared.sets.Next.{Next}
use Rattle.grammar_reader_words.specs.declared.sets.Next.TheVariants.{End, Broken, Property, Range}

abbrev pub ranges_by : Next → Option (List (ℕ × ℕ))
ranges_by End = Some []
ranges_by Broken = None
ranges_by (Property others) = ranges_of others.now
ranges_by (Range first last others) = with_range (first, last) (ranges_of others.now)

abbrev pub IsShorter : ℕ → Next → Type 0
IsShorter n End = Unit {0}
IsShorter n Broken = Unit {0}
IsShorter n (Property others) = length others.now < n
IsShorter n (Range first last others) = length others.now < n
