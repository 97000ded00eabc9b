use Rattle.std.proofs.Common.{◌∙◌, Some, ap, map, option_map, refl, string_bytes, sym}
use Rattle.command_words.specs.Commands.{selftest_of}
use Rattle.command_words.specs.inner.Read.{IsAnswered}
use Rattle.command_words.specs.Tables.{selftest_table}
use Rattle.command_words.proofs.Assembled.{found_in_words, none_in, selftest_is_table, these_in}
use Rattle.command_words.proofs.selftest.read_selftest.Goals as goal

pub returns-in_default-clause-line : goal.returns-in_default-clause-line
returns-in_default-clause-line c =
    sym
    (ap (option_map selftest_of) (none_in selftest_table (map string_bytes c.args.words.now) refl
    (rw c.in_default.is at (c.in_ok-matches.ensures selftest_table refl selftest_is_table))))

pub returns-clause-line : goal.returns-clause-line
returns-clause-line c =
    let words = map string_bytes c.args.words.now in
    let read : IsAnswered selftest_table words (Some c.in-Some.matches) = rw c.in-Some.is at (c.in_ok-matches.ensures selftest_table refl selftest_is_table) in
    c.line_of.ensures.line read.uses (found_in_words selftest_table words c.in-Some.matches read)
    ∙ ap (option_map selftest_of) (these_in selftest_table words c.in-Some.matches read)
