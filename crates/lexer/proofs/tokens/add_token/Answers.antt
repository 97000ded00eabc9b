use Rattle.std.proofs.Common.{◌++◌, map, sym, ap, ◌∙◌}
use Rattle.std.proofs.lemmas.List.{append-nil}
use Rattle.lexer.specs.Tokens.{token_of}
use Rattle.lexer.proofs.Cut.{map_snoc, some_unless, none_unless}
use Rattle.lexer.proofs.tokens.add_token.Goals as goal

pub returns-then-is_gap : goal.returns-then-is_gap
returns-then-is_gap c G named =
    let old = map token_of c.args.tokens.now.items in
    sym (append-nil old) ∙ ap (λ l. old ++ l) (none_unless G (token_of c.args.token) (sym (c.is_gap.ensures G named) ∙ c.if-is_gap.true))

pub returns : goal.returns
returns c G named =
    let old = map token_of c.args.tokens.now.items in
    ap (λ l. map token_of l) c.in_ok-push.ensures.items
    ∙ map_snoc token_of c.args.tokens.now.items c.args.token
    ∙ ap (λ l. old ++ l) (some_unless G (token_of c.args.token) (sym (c.is_gap.ensures G named) ∙ c.if-is_gap.false))
