use Rattle.verdict_table.specs.TableState.{texts_of}
use Rattle.verdict_table.specs.inner.TextIndex.{count_to}
use Rattle.verdict_table.proofs.TextIndexLemmas.{IsLeft}
use Rattle.verdict_table.proofs.table.record_of.Given as goal

abbrev pub invariant-loop-next : goal.invariant-loop-next
invariant-loop-next l = IsLeft l.text (texts_of l.records) l.next

abbrev pub decreases-loop-next : goal.decreases-loop-next
decreases-loop-next l = count_to l.next
