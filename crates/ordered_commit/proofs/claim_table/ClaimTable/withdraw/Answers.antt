use Rattle.std.proofs.Common.{List, nat_eq, subst, sym}
use Rattle.std.specs.List.{IsDistinct}
use Rattle.verdict_table.specs.declared.table.Claim.{Claim}
use Rattle.verdict_table.specs.TableState.{IsSound, TableState, numbers_of}
use Rattle.verdict_table.proofs.Lent.{distinct_claims}
use Rattle.ordered_commit.proofs.claim_table.ClaimTable.withdraw.Goals as goal

pub take_copy-requires-clause-numbered : goal.take_copy-requires-clause-numbered
take_copy-requires-clause-numbered c =
    let sound : IsSound c.self.inside.table = subst (λ (t : TableState). IsSound t) (sym c.self.view_is) c.requires.sound in
    subst (λ (cs : List Claim). IsDistinct nat_eq (numbers_of cs)) (sym c.self.invariant) (distinct_claims c.self.inside.table sound)
