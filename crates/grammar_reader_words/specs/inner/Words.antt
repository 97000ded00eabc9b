-- Beside `../Words.antt`: what private functions and proofs need.
use Rattle.std.specs.Prelude.{ℕ, Bool, true, false, List, []}
use Rattle.grammar_reader_words.specs.declared.word.Placed.{Placed}
use Rattle.grammar_reader_words.specs.Words.{words_from}

-- the words that remain
abbrev pub words_left : Bool → ℕ → List ℕ → List Placed
words_left true total cs = []
words_left false total cs = words_from total 0 cs
