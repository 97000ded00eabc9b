use Rattle.std.proofs.Common.{◌≡◌, map, take}
use Rattle.std.specs.List.{filter_map}
use Rattle.grammar_tree.specs.Kinds.{as_literal}
use Rattle.grammar_tree.specs.View.{token_ref}
use Rattle.grammar_check.proofs.kinds.literals_of.Given as goal

abbrev pub invariant-loop-reference : goal.invariant-loop-reference
invariant-loop-reference l = l.found.items ≡ filter_map as_literal (map token_ref (take l.reference-index l.references))
