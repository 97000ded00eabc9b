use Rattle.std.proofs.Common.{◌≡◌, true, take}
use Rattle.std.specs.List.{list_all}
use Rattle.hdd_levels.specs.inner.LevelForms.{keeps_element}
use Rattle.hdd_levels.proofs.keeping.keeps_elements.Given as goal

abbrev pub invariant-loop-plus : goal.invariant-loop-plus
invariant-loop-plus l = list_all (keeps_element l.fn.keep) (take l.plus-index l.fn.pluses) ≡ true
