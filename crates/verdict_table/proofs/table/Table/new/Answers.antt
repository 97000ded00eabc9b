use Rattle.std.proofs.Common.{arith}
use Rattle.verdict_table.proofs.TableLemmas.{sound_empty}
use Rattle.verdict_table.proofs.table.Table.new.Goals as goal

pub invariant_of-result : goal.invariant_of-result
invariant_of-result c = record {
  sound = rw (c.new.ensures.items, c.new-2.ensures.items, c.new-3.ensures.items) sound_empty;
  record_capacity = rw (c.new.ensures.items, c.new-2.ensures.items) (omega arith);
  filled_capacity = rw (c.new.ensures.items, c.new-2.ensures.items) (omega arith);
  indexed = rw c.new-2.ensures.items c.new-4.ensures;
  newest_room = rw c.new.ensures.items (omega arith);
  older_capacity = rw (c.new.ensures.items, c.new-2.ensures.items) (omega arith);
}
