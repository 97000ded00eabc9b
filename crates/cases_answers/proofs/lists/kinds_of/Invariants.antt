use Rattle.std.proofs.Common.{◌≡◌, ◌++◌, drop, length}
use Rattle.cases_answers.specs.StartTree.{kinds_in}
use Rattle.cases_answers.proofs.lists.kinds_of.Given as goal

abbrev pub invariant-loop-token : goal.invariant-loop-token
invariant-loop-token l =
    (l.kinds.items ++ kinds_in (drop l.token-index l.tokens.items.items) ≡ kinds_in l.tokens.items.items) × (length l.kinds.items ≡ l.token-index)
