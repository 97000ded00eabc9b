use Rattle.std.proofs.Common.{◌≡◌, ◌-◌, map, take}
use Rattle.line_guard.specs.Lines.{line_at}
use Rattle.line_guard.specs.inner.Held.{any_within}
use Rattle.line_guard.proofs.protected.protected_tokens.Given as goal

-- the flags of the tokens so far
abbrev pub invariant-loop-token : goal.invariant-loop-token
invariant-loop-token l =
    l.flags.items
    ≡ map (λ token. any_within (line_at l.index token.start) (line_at l.index (token.end - 1)) 1 l.lines.items) (take l.token-index l.tokens.items.items)
