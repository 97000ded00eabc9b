use Rattle.std.proofs.Common.{◌≡◌, suc, length, arith, sym}
use Rattle.std.proofs.lemmas.List.Sorted.{length_permutation}
use Rattle.verdict_table.specs.TableState.{TableState, texts_of}
use Rattle.verdict_table.proofs.TableLemmas.{distinct_claims, sound_filled, texts_pushed}
use Rattle.verdict_table.proofs.table.Table.fill.Goals as goal

pub take_claim-number-requires-clause-numbered : goal.take_claim-number-requires-clause-numbered
take_claim-number-requires-clause-numbered c = distinct_claims _ c.self.invariant.sound

pub invariant_of-self : goal.invariant_of-self
invariant_of-self c =
    let table : TableState = record { claims = c.self.inside.claims.items; records = c.self.inside.records.items; filled = c.self.inside.filled.items } in
    let moved : length table.claims ≡ suc (length c.take_claim-number.new.claims.items) = sym (length_permutation _ _ c.take_claim-number.ensures.moved) in
    let recorded = rw c.unwrap.ensures at c.push-2.ensures.len in
    let filled = rw c.unwrap-2.ensures at c.push-3.ensures.len in
    record {
      sound = rw (c.push-2.ensures.items, c.unwrap.ensures, c.push-3.ensures.items, c.unwrap-2.ensures)
          (sound_filled table c.take_claim-number.result c.take_claim-number.new.claims.items c.args.verdict c.self.invariant.sound
          c.take_claim-number.ensures.moved);
      record_capacity = omega (arith, recorded);
      filled_capacity = omega (arith, recorded, filled);
      indexed = rw (c.push-2.ensures.items, c.unwrap.ensures, texts_pushed table.records c.take_claim-number.result.text c.args.verdict, ← c.as_slice.ensures)
          (c.push.ensures.indexed (texts_of table.records) c.self.invariant.indexed);
      newest_room = omega (arith, moved, c.push.ensures.newest_room, c.self.invariant.newest_room);
      older_capacity = omega (arith, recorded, moved, c.push.ensures.older_room, c.self.invariant.older_capacity);
    }
