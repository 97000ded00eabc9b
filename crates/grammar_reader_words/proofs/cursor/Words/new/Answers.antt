use Rattle.std.proofs.Common.{ap, length}
use Rattle.std.specs.Str.{chars}
use Rattle.grammar_reader_words.specs.Words.{words_from, words_of}
use Rattle.grammar_reader_words.proofs.Going.{words_some}
use Rattle.grammar_reader_words.proofs.cursor.Words.new.Goals as goal

pub returns-clause-words : goal.returns-clause-words
unfolding words_of
returns-clause-words c = ap (words_from (length c.args.text.now) 0) c.without_mark.ensures.same

pub returns-clause-some : goal.returns-clause-some
returns-clause-some c = words_some (length c.args.text.now) 0 (chars c.without_mark.result.now)
