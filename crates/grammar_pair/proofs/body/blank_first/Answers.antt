use Rattle.std.proofs.lemmas.Str.{IsCharBoundary-start}
use Rattle.grammar_pair.proofs.body.blank_first.Goals as goal

pub word_at-requires : goal.word_at-requires
word_at-requires c = IsCharBoundary-start c.args.text.now c.utf8.text
