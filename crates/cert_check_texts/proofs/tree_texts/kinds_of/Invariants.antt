use Rattle.std.proofs.Common.{◌≡◌, map, take}
use Rattle.lexer.specs.declared.token.Token.{Token}
use Rattle.cert_check_texts.proofs.tree_texts.kinds_of.Given as goal

abbrev pub invariant-loop-token : goal.invariant-loop-token
invariant-loop-token l = l.kinds.items ≡ map (λ (t : Token). t.kind) (take l.token-index l.tokens.items.items)
