use Rattle.std.proofs.Common.{◌≡◌, Option, Some, IfOk, ap, map, option_and_then, option_map, refl, string_bytes, subst, sym}
use Rattle.command_words.specs.Commands.{ReduceOptions, reduce_of}
use Rattle.command_words.specs.Lines.{reduce_read}
use Rattle.command_words.specs.inner.Read.{IsAnswered}
use Rattle.command_words.specs.Tables.{reduce_table}
use Rattle.command_words.proofs.Assembled.{found_in_words, none_in, reduce_is_table, these_in}
use Rattle.command_words.proofs.reduce.read_reduce.Goals as goal

pub returns-in_default-clause-line : goal.returns-in_default-clause-line
returns-in_default-clause-line c =
    sym
    (ap (option_and_then reduce_of) (none_in reduce_table (map string_bytes c.args.words.now) refl
    (rw c.in_default.is at (c.in_ok-matches.ensures reduce_table refl reduce_is_table))))

pub returns-clause-line : goal.returns-clause-line
returns-clause-line c =
    let words = map string_bytes c.args.words.now in
    let read : IsAnswered reduce_table words (Some c.in-Some.matches) = rw c.in-Some.is at (c.in_ok-matches.ensures reduce_table refl reduce_is_table) in
    subst (λ (o : Option ReduceOptions). IfOk c.line_of.result (λ line. option_map reduce_read line ≡ o))
    (ap (option_and_then reduce_of) (these_in reduce_table words c.in-Some.matches read))
    (c.line_of.ensures.line read.uses (found_in_words reduce_table words c.in-Some.matches read))
