-- Which region of a text words end in, as far as the names of what isn't supported speak of it.
use Rattle.std.specs.Prelude.{List, [], ◌∷◌}
use Rattle.grammar_reader_words.specs.declared.word.Word.{Word}
use Rattle.grammar_reader_words.specs.declared.word.Word.TheVariants as w

-- parser rules and lexer rules
pub data Side : Type 0 where
  parsing : Side
  lexing : Side

pub data Region : Type 0 where
  -- before the first word
  starting : Region
  -- before the first `;`
  heading : Region
  -- where a rule may begin, or after `fragment`
  between : Region
  -- in a prequel
  prequel : Region
  -- directly after a rule's name
  named : Side → Region
  -- after that, before `:`
  opening : Side → Region
  -- after `:`
  body : Side → Region
  -- there, directly after a suffix
  suffixed : Side → Region
  -- directly after a non-greedy loop
  looped : Side → Region
  -- after the one literal or set that follows it
  last : Side → Region
  -- after `->` in its alternative
  command : Side → Region
  -- after the end of the text
  finished : Region

-- one word further in a text
abbrev pub next : Region → Word → Region
next starting word = heading
next heading w.Semicolon = between
next heading word = heading
next between (w.Lower n) = named parsing
next between (w.Upper n) = named lexing
next between w.Options = prequel
next between w.Tokens = prequel
next between w.End = finished
next between word = between
next prequel w.CloseBrace = between
next prequel word = prequel
next (named side) w.Colon = body side
next (named side) word = opening side
next (opening side) w.Colon = body side
next (opening side) word = opening side
next (body side) w.Semicolon = between
next (body side) w.Arrow = command side
next (body side) w.Question = suffixed side
next (body side) w.Star = suffixed side
next (body side) w.Plus = suffixed side
next (body side) word = body side
next (suffixed side) w.Semicolon = between
next (suffixed side) w.Arrow = command side
next (suffixed side) w.Question = looped side
next (suffixed side) word = body side
next (looped side) w.Semicolon = between
next (looped side) word = last side
next (last side) w.Semicolon = between
next (last side) w.Bar = body side
next (last side) w.Arrow = command side
next (last side) word = body side
next (command side) w.Semicolon = between
next (command side) w.Bar = body side
next (command side) word = command side
next finished word = finished

abbrev pub region_from : Region → List Word → Region
region_from region [] = region
region_from region (word ∷ words) = region_from (next region word) words
