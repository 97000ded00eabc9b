use Rattle.std.proofs.Common.{map, take}
use Rattle.std.specs.List.{filter_map}
use Rattle.grammar_tree.specs.Kinds.{as_name}
use Rattle.grammar_tree.specs.View.{token_ref}
use Rattle.grammar_names.specs.Index.{Finds}
use Rattle.grammar_check_faults.specs.inner.Seen.{seen_in}
use Rattle.grammar_check_faults.proofs.eof.used_names.Given as goal

abbrev pub invariant-loop-reference : goal.invariant-loop-reference
invariant-loop-reference l = Finds l.used (seen_in (filter_map as_name (map token_ref (take l.reference-index l.references))))
