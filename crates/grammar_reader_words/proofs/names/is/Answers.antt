use Rattle.std.proofs.Common.{ap, ◌∙◌}
use Rattle.std.specs.Str.{bytes_eq, chars}
use Rattle.grammar_reader_words.proofs.CharTests.{same_texts}
use Rattle.grammar_reader_words.proofs.names.is.Goals as goal

pub returns : goal.returns
returns c =
    c.eq.ensures ∙ same_texts c.as_str.result.now c.args.word.now c.as_str.utf8 c.utf8.word
    ∙ ap (λ n. bytes_eq n (chars c.args.word.now)) c.as_str.ensures
