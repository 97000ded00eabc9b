use Rattle.std.specs.Prelude.{All, take}
use Rattle.verdict_table.specs.declared.record.Record.{Record}
use Rattle.cert_check.proofs.candidates.first_other.Given as goal

abbrev pub invariant-loop-index : goal.invariant-loop-index
invariant-loop-index g l = All (λ (r : Record). g.C.Candidates.IsCandidate l.candidates r.text) (take l.index l.records)
