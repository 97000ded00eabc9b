use Rattle.std.proofs.Common.{◌-◌, length, arith}
use Rattle.grammar_reader_words.proofs.Joined.{last_set}
use Rattle.grammar_reader_words.specs.declared.quoted.Mark.TheVariants.{Code}
use Rattle.grammar_reader_words.proofs.sets.make_last_plain.Goals as goal

pub returns-then-n-gt0 : goal.returns-then-n-gt0
returns-then-n-gt0 c = last_set c.args.marks.now (length c.args.marks.now - 1) (Code 0) c.plain.result (omega arith) c.plain.ensures
