use Rattle.std.proofs.Common.{◌≡◌, drop}
use Rattle.verdict_table.specs.TableState.{claim_in}
use Rattle.verdict_table.proofs.table.claim_of.Given as goal

abbrev pub invariant-loop-claim : goal.invariant-loop-claim
invariant-loop-claim l = claim_in l.text l.claims ≡ claim_in l.text (drop l.claim-index l.claims)
