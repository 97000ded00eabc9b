use Rattle.std.proofs.Common.{◌≡◌, map, take, length}
use Rattle.std.specs.List.{Contains}
use Rattle.lexer.specs.declared.candidates.Beginning.{Beginning}
use Rattle.lexer.specs.inner.Candidates.{IsBeginning}
use Rattle.lexer_match.specs.Reading.{IsReady}
use Rattle.lexer.proofs.candidates.beginnings.Given as goal

abbrev pub invariant-loop-alternative : goal.invariant-loop-alternative
invariant-loop-alternative l = record {
  ready : IsReady (length l.nfa) l.reading;
  alternatives : map (λ (b : Beginning). b.alternative) l.list.items ≡ take l.alternative-index l.alternatives;
  each : (b : Beginning) → Contains l.list.items b → IsBeginning l.nfa b;
}
