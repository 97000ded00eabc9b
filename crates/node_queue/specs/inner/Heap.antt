-- What a heap of entries means: its nodes in the order in which they are taken out.
use Rattle.std.specs.Prelude.{List, [], ◌∷◌}
use Rattle.std.specs.Ordering.{nat_cmp, ordering_then}
use Rattle.std.specs.declared.cmp.Ordering.{Ordering}
use Rattle.node_queue.specs.declared.queue.Entry.{Entry}
use Rattle.node_queue.specs.Waiting.{Waiting, with_node}

-- the node that an entry is of
abbrev pub waiting_of : Entry → Waiting
waiting_of entry = record { node = entry.node.0; weight = entry.weight; first = entry.first.0 }

-- the order of entries, in which the heap takes out the greatest
abbrev pub entry_cmp : Entry → Entry → Ordering
entry_cmp a b = ordering_then (nat_cmp a.weight b.weight) (ordering_then (nat_cmp b.first.0 a.first.0) (nat_cmp b.node.0 a.node.0))

-- the nodes of entries in any order, one after another in the order in which they are taken out
abbrev pub in_order : List Entry → List Waiting
in_order [] = []
in_order (entry ∷ entries) = with_node (waiting_of entry) (in_order entries)
