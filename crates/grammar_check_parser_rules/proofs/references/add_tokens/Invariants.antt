use Rattle.std.proofs.Common.{◌≡◌, ◌++◌, map, take}
use Rattle.grammar_tree.specs.View.{token_ref}
use Rattle.grammar_check_parser_rules.proofs.references.add_tokens.Given as goal

abbrev pub invariant-loop-token : goal.invariant-loop-token
invariant-loop-token l = map token_ref l.found.items ≡ map token_ref l.initial.found.items ++ map token_ref (take l.token-index l.token-items)
