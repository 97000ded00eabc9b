use Rattle.std.proofs.Common.{◌≡◌, map, take}
use Rattle.std.specs.List.{filter_map}
use Rattle.grammar_tree.specs.Kinds.{reference_kind}
use Rattle.grammar_tree.specs.View.{token_ref}
use Rattle.grammar_names.proofs.names.Names.reference_kinds.Given as goal

abbrev pub invariant-loop-token : goal.invariant-loop-token
invariant-loop-token l = l.kinds.items ≡ filter_map (reference_kind l.self) (map token_ref (take l.token-index l.tokens))
