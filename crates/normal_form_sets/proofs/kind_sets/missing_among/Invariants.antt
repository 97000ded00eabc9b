use Rattle.std.proofs.Common.{◌≡◌, map, take}
use Rattle.grammar_names.specs.KindLists.{lacking}
use Rattle.normal_form_sets.specs.Sets.{items_of}
use Rattle.normal_form_sets.proofs.kind_sets.missing_among.Given as goal

abbrev pub invariant-loop-list : goal.invariant-loop-list
invariant-loop-list l = map items_of l.others.items ≡ map (lacking l.kinds) (map (lacking l.all) (map items_of (take l.list-index l.missing)))
