use Rattle.std.proofs.Common.{◌≡◌, None, map, ap, sym, ◌∙◌}
use Rattle.std.proofs.lemmas.Result.{IfOk-weaker}
use Rattle.grammar_tree.specs.GrammarView.{grammar_of, rule_of}
use Rattle.grammar_tree.specs.Kinds.{lexer_rules, parser_rules}
use Rattle.grammar_tree.specs.Written.{LexerRule, ParserRule}
use Rattle.grammar_pair.specs.Joined.{first}
use Rattle.grammar_pair.proofs.Loops.{first_after}
use Rattle.grammar_pair.proofs.joining.wrong_rule.Goals as goal

pub returns-in-None : goal.returns-in-None
returns-in-None c =
    let of_lexer = map (λ (r : ParserRule). r.name) (parser_rules (grammar_of c.args.lexer.now).rules) in
    let of_parser = map (λ (r : LexerRule). r.name) (lexer_rules (grammar_of c.args.parser.now).rules) in
    let none : first of_lexer ≡ None =
    ap (λ rules. first (map (λ (r : ParserRule). r.name) (parser_rules (map rule_of rules)))) (sym c.deref.ensures.value) ∙ sym c.in_ok-name.ensures
    ∙ c.in-None.is in
    let own = ap (λ rules. first (map (λ (r : LexerRule). r.name) (lexer_rules (map rule_of rules)))) c.deref-in-None.ensures.value in
    IfOk-weaker c.first_lexer_rule.result _ _ (λ found is. is ∙ own ∙ sym (first_after of_lexer of_parser none)) c.first_lexer_rule.ensures
