use Rattle.std.proofs.Common.{◌≡◌, ◌++◌, sym, ap}
use Rattle.std.proofs.lemmas.Str.{chars_past_char}
use Rattle.std.specs.Char.{encode_utf8}
use Rattle.grammar_reader_words.specs.Cursor.{uncons}
use Rattle.grammar_reader_words.proofs.text.first_char.Goals as goal

pub returns-in-Some-clause-same : goal.returns-in-Some-clause-same
returns-in-Some-clause-same c =
    let step : _ = c.in-Some.ensures.steps in
    let first : _ = step.0 in
    let cut : c.args.text.now ≡ encode_utf8 c.in-Some.c ++ c.as_str.result.now = cc first in
    sym (ap uncons (chars_past_char c.args.text.now c.as_str.result.now c.in-Some.c c.utf8.text cut))
