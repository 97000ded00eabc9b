use Rattle.std.proofs.Common.{◌∙◌, codes}
use Rattle.command_words.proofs.Firsts.{first_none, first_some, no_grammar, this_grammar}
use Rattle.command_words.proofs.grammar.grammar_of.Goals as goal

pub returns-in_err-path : goal.returns-in_err-path
returns-in_err-path c = λ table uses has takes_path takes_lexer takes_start.
    rw c.from_residual.ensures
    (no_grammar uses (first_none table uses c.args.matches.now (codes "grammar") has takes_path c.in_err-path.ensures))

pub returns : goal.returns
returns c = λ table uses has takes_path takes_lexer takes_start.
    let m = c.args.matches.now in
    this_grammar uses c.in_ok-path.path.now _ _ (first_some table uses m (codes "grammar") c.in_ok-path.path.now has takes_path c.in_ok-path.ensures)
    (c.get_str-lexer.ensures ∙ has.has.first (codes "lexer") takes_lexer)
    (c.get_str-start.ensures ∙ has.has.first (codes "start") takes_start)
