use Rattle.std.proofs.Common.{◌≡◌, length, vec_len}
use Rattle.cases_languages.specs.Positions.{Begun, Known}
use Rattle.cases_languages.proofs.Marks.{unmarked}
use Rattle.cases_languages.specs.View.{pattern}
use Rattle.cases_languages.proofs.pattern.Pattern.+ends.Given as goal

abbrev pub decreases-ends : goal.decreases-ends
decreases-ends l = goal.size-ends l

abbrev pub invariant-loop-all : goal.invariant-loop-all
invariant-loop-all l = record {
  len : vec_len l.all ≡ length l.from;
  begun : Begun (Known l.rows) l.list (pattern l.part.value) l.from l.all.items;
}

abbrev pub decreases-loop-all : goal.decreases-loop-all
decreases-loop-all l = unmarked l.all.items
