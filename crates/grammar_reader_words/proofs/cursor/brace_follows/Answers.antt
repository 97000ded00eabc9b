use Rattle.std.proofs.Common.{◌∙◌, sym}
use Rattle.std.specs.Str.{chars}
use Rattle.grammar_reader_words.proofs.Going.{brace_here}
use Rattle.grammar_reader_words.proofs.cursor.brace_follows.Goals as goal

pub returns : goal.returns
returns c = c.begins_with.ensures ∙ sym (brace_here (chars c.skip_gaps.result.now) c.skip_gaps.ensures.none) ∙ sym c.skip_gaps.ensures.brace
