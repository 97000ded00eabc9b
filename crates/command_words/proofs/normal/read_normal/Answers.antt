use Rattle.std.proofs.Common.{◌∙◌, Some, ap, codes, map, option_and_then, refl, string_bytes, sym}
use Rattle.command_words.specs.Commands.{named_grammar}
use Rattle.command_words.specs.inner.Read.{IsAnswered}
use Rattle.command_words.specs.Tables.{normal_table}
use Rattle.command_words.proofs.Assembled.{found_in_words, none_in, normal_found, normal_is_table, these_in}
use Rattle.command_words.proofs.FoundValues.{named_by}
use Rattle.command_words.proofs.normal.read_normal.Goals as goal

pub returns-in_default : goal.returns-in_default
returns-in_default c =
    sym
    (ap (option_and_then named_grammar) (none_in normal_table (map string_bytes c.args.words.now) refl
    (rw c.in_default.is at (c.in_ok-matches.ensures normal_table refl normal_is_table))))

pub returns : goal.returns
returns c =
    let words = map string_bytes c.args.words.now in
    let read : IsAnswered normal_table words (Some c.in-Some.matches) = rw c.in-Some.is at (c.in_ok-matches.ensures normal_table refl normal_is_table) in
    c.grammar_of.ensures normal_table read.uses (found_in_words normal_table words c.in-Some.matches read) (named_by normal_table (codes "grammar") refl)
    (named_by normal_table (codes "lexer") refl) (named_by normal_table (codes "start") refl)
    ∙ normal_found read.uses read.once ∙ ap (option_and_then named_grammar) (these_in normal_table words c.in-Some.matches read)
