use Rattle.std.specs.Str.{IsCharBoundary}
use Rattle.cases_grammars.proofs.spans_shown.Given as goal

-- a word begins at a character
abbrev pub invariant-loop : goal.invariant-loop
invariant-loop l = IsCharBoundary l.text l.at
