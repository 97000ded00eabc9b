use Rattle.std.proofs.Common.{◌≡◌, map, drop}
use Rattle.grammar_tree.specs.Corners.{bases}
use Rattle.grammar_tree.specs.Derives.{resolved_alts}
use Rattle.grammar_tree.specs.View.{parser_terms}
use Rattle.grammar_tree.specs.Written.{written_alts}
use Rattle.grammar_check_recursion.specs.Recursion.{has_alternative}
use Rattle.grammar_check_recursion.proofs.recursion.has_base.Given as goal

abbrev pub invariant-loop-terms : goal.invariant-loop-terms
invariant-loop-terms l =
    has_alternative (bases l.number (resolved_alts l.names (written_alts (map parser_terms (drop l.terms-index l.terms-items))))) ≡ has_alternative
    (bases l.number (resolved_alts l.names (written_alts (map parser_terms l.terms-items))))
