use Rattle.std.proofs.Common.{◌≡◌, Option, Some, IfOk, ap, map, option_and_then, option_map, refl, string_bytes, subst, sym}
use Rattle.command_words.specs.Commands.{CheckOptions, check_of}
use Rattle.command_words.specs.Lines.{check_read}
use Rattle.command_words.specs.inner.Read.{IsAnswered}
use Rattle.command_words.specs.Tables.{check_table}
use Rattle.command_words.proofs.Assembled.{check_is_table, found_in_words, none_in, these_in}
use Rattle.command_words.proofs.check.read_check.Goals as goal

pub returns-in_default : goal.returns-in_default
returns-in_default c =
    sym
    (ap (option_and_then check_of) (none_in check_table (map string_bytes c.args.words.now) refl
    (rw c.in_default.is at (c.in_ok-matches.ensures check_table refl check_is_table))))

pub returns : goal.returns
returns c =
    let words = map string_bytes c.args.words.now in
    let read : IsAnswered check_table words (Some c.in-Some.matches) = rw c.in-Some.is at (c.in_ok-matches.ensures check_table refl check_is_table) in
    subst (λ (o : Option CheckOptions). IfOk c.line_of.result (λ line. option_map check_read line ≡ o))
    (ap (option_and_then check_of) (these_in check_table words c.in-Some.matches read))
    (c.line_of.ensures read.uses (found_in_words check_table words c.in-Some.matches read))
