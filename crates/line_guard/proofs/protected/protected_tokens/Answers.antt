use Rattle.std.proofs.Common.{◌≡◌, ◌∙◌, ◌-◌, ℕ, Bool, List, ap, arith, map, subst}
use Rattle.std.proofs.lemmas.List.{take_all}
use Rattle.std.specs.Prelude.{IfOk}
use Rattle.lexer.specs.declared.token.Token.{Token}
use Rattle.lexer.specs.Tokens.{token_of}
use Rattle.line_guard.specs.Lines.{line_at}
use Rattle.line_guard.specs.Protected.{is_token_protected, numbers_where}
use Rattle.line_guard.specs.inner.Held.{any_within}
use Rattle.line_guard.proofs.FlagLemmas.{on-line, where-same}
use Rattle.line_guard.proofs.protected.protected_tokens.Goals as goal

pub returns : goal.returns
returns c =
    let wishes = c.args.wishes.now in
    let start = c.args.start.now in
    let ends = c.args.index.now in
    let lines = c.in_ok-lines.lines.items in
    let tokens = c.args.tokens.now.items.items in
    let flag_of : Token → Bool = λ token. any_within (line_at ends token.start) (line_at ends (token.end - 1)) 1 lines in
    let flags =
    c.deref-2.ensures.value ∙ c.loop-token.invariant ∙ ap (λ (l : List Token). map flag_of l) (take_all c.loop-token.token-index tokens (omega arith)) in
    let same =
    ap (λ (l : List Bool). numbers_where (λ flag. flag) 0 l) flags
    ∙ where-same flag_of (is_token_protected wishes start) token_of
    (λ token. on-line wishes start ends lines token c.requires.index c.in_ok-lines.ensures) 0 tokens in
    subst (λ (l : List ℕ). IfOk c.of_flags.result (λ numbers. numbers ≡ l)) same c.of_flags.ensures
