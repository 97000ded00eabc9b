use Rattle.std.proofs.Common.{◌≡◌, map, length}
use Rattle.lexer.specs.declared.candidates.Beginning.{Beginning}
use Rattle.lexer.specs.inner.Candidates.{AreListed}
use Rattle.lexer.proofs.candidates.by_first_character.Given as goal

abbrev pub invariant-loop-c : goal.invariant-loop-c
invariant-loop-c l = record {
  listed : AreListed l.nfa (map (λ (b : Beginning). b.alternative) l.beginnings) l.lists.items;
  count : length l.lists.items ≡ l.c;
}
