use Rattle.std.proofs.Common.{◌≡◌, ◌+◌, ◌∙◌, ℕ, suc, length, ap, arith, sym}
use Rattle.std.proofs.lemmas.List.Sorted.{length_permutation}
use Rattle.verdict_table.specs.TableState.{TableState, claim_count}
use Rattle.verdict_table.proofs.TableLemmas.{distinct_claims, sound_withdrawn}
use Rattle.verdict_table.proofs.table.Table.withdraw.Goals as goal

pub take_claim-requires-clause-numbered : goal.take_claim-requires-clause-numbered
take_claim-requires-clause-numbered c = distinct_claims _ c.self.invariant.sound

pub invariant_of-self : goal.invariant_of-self
invariant_of-self c =
    let table : TableState = record { claims = c.self.inside.claims.items; records = c.self.inside.records.items; filled = c.self.inside.filled.items } in
    let moved : length table.claims ≡ suc (length c.take_claim.new.claims.items) = sym (length_permutation _ _ c.take_claim.ensures.moved) in
    let last : c.args.claim + 1 ≡ claim_count table = rw (← c.self.view_is) at c.requires.last in
    record {
      sound =
          sound_withdrawn table c.take_claim.result c.take_claim.new.claims.items c.self.invariant.sound c.take_claim.ensures.moved
          (ap (λ (n : ℕ). n + 1) c.take_claim.ensures.number ∙ last);
      record_capacity = omega (arith, moved, c.self.invariant.record_capacity);
      filled_capacity = omega (arith, moved, c.self.invariant.filled_capacity);
      indexed = c.self.invariant.indexed;
      newest_room = omega (arith, moved, c.self.invariant.newest_room);
      older_capacity = omega (arith, moved, c.self.invariant.older_capacity);
    }
