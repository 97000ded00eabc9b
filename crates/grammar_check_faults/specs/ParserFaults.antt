-- Faults of parser rules by their numbers.
use Rattle.std.specs.Prelude.{◌⊎◌, ℕ, []}
use Rattle.grammar_tree.specs.Derives.{DerivesAlts, bodies, resolved_alts}
use Rattle.grammar_tree.specs.Faults.{AtParserRule, number_at}
use Rattle.grammar_tree.specs.Written.{WrittenGrammar}
use Rattle.grammar_tree.specs.Corners.{HasEmptyLoopAlts, rests}

-- The parser rule at this index has a star or plus over a term that can be empty, or a rest that can be.
abbrev pub ParserLoopAt : WrittenGrammar → ℕ → Type 0
ParserLoopAt G i =
    AtParserRule G i (λ rule. HasEmptyLoopAlts (bodies G) (resolved_alts G rule.alts)
    ⊎ DerivesAlts (bodies G) (rests (number_at G i) (resolved_alts G rule.alts)) [])
