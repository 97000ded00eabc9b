use Rattle.std.proofs.Common.{codes, refl}
use Rattle.command_words.specs.Options.{Values, values_for}
use Rattle.command_words.specs.Tables.{optional}
use Rattle.command_words.proofs.Firsts.{flag_there, trees_found}
use Rattle.command_words.proofs.mode.trees_of.Goals as goal

pub returns-in_err-grammar : goal.returns-in_err-grammar
returns-in_err-grammar c = λ table uses chooses has.
    let none =
    c.in_err-grammar.ensures table uses has chooses.grammar chooses.lexer chooses.start in
    rw c.from_residual.ensures (trees_found uses c.args.mode _ _ none refl)

pub returns : goal.returns
returns c = λ table uses chooses has.
    let found =
    c.in_ok-grammar.ensures table uses has chooses.grammar chooses.lexer chooses.start in
    let flag =
    flag_there (values_for (codes "squeeze") uses) _ c.get_flag.result
    (has.has.flags (optional (codes "squeeze") Values.no_value) chooses.squeeze refl) c.get_flag.ensures.value c.get_flag.ensures.other in
    trees_found uses c.args.mode _ c.get_flag.result found flag
