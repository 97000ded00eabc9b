use Rattle.std.proofs.Common.{◌≡◌, map, take}
use Rattle.normal_form_sets.specs.Sets.{items_of}
use Rattle.normal_form_sets.proofs.kind_sets.copy_lists.Given as goal

abbrev pub invariant-loop-list : goal.invariant-loop-list
invariant-loop-list l = map items_of l.copies.items ≡ map items_of (take l.list-index l.lists)
