use Rattle.std.proofs.Common.{◌≡◌, ◌∙◌, ◌||◌, Bool, codes, sym, ap}
use Rattle.command_words.specs.Commands.{is_given}
use Rattle.command_words.proofs.Firsts.{is_there}
use Rattle.command_words.proofs.mode.names_grammar.Goals as goal

pub returns-then-contains_id : goal.returns-then-contains_id
returns-then-contains_id c = λ table uses chooses has.
    let grammar_is : c.contains_id.result ≡ is_given (codes "grammar") uses =
    c.contains_id.ensures ∙ is_there table uses c.args.matches.now (codes "grammar") has chooses.grammar in
    c.if-contains_id.true ∙ sym (ap (λ (b : Bool). b || is_given (codes "lexer") uses) (sym grammar_is ∙ c.if-contains_id.true))

pub returns-else-contains_id : goal.returns-else-contains_id
returns-else-contains_id c = λ table uses chooses has.
    let grammar_is : c.contains_id.result ≡ is_given (codes "grammar") uses = c.contains_id.ensures
    ∙ is_there table uses c.args.matches.now (codes "grammar") has chooses.grammar in
    c.contains_id-else-contains_id.ensures ∙ is_there table uses c.args.matches.now (codes "lexer") has chooses.lexer
    ∙ sym (ap (λ (b : Bool). b || is_given (codes "lexer") uses) (sym grammar_is ∙ c.if-contains_id.false))
