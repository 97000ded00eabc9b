use Rattle.std.proofs.Common.{◌≡◌, Bool, true, Option, IfOk, OnErr, option_map, subst}
use Rattle.command_words.specs.Commands.{Command}
use Rattle.command_words.specs.Lines.{command_read}
use Rattle.command_words.proofs.Assembled.{after_program, named_in, too_few}
use Rattle.command_words.proofs.words.read_words.Goals as goal

pub returns-in_default-clause-line : goal.returns-in_default-clause-line
returns-in_default-clause-line c = too_few c.args.words.now c.in_default.len_below

pub returns-clause-line : goal.returns-clause-line
returns-clause-line c =
    subst (λ (o : Option Command). IfOk c.read_command.result (λ line. option_map command_read line ≡ o))
    (after_program c.args.words.now c.command-item.result c.as_str.result.now c.in-len2-up.len_at_least c.command-item.is c.as_str.ensures.value)
    c.read_command.ensures.line

pub returns-clause-names : goal.returns-clause-names
returns-clause-names c =
    subst (λ (b : Bool). OnErr c.read_command.result (b ≡ true))
    (named_in c.args.words.now c.command-item.result c.as_str.result.now c.in-len2-up.len_at_least c.command-item.is c.as_str.ensures.value)
    c.read_command.ensures.names
