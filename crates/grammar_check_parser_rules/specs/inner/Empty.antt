-- Beside `../Empty.antt`: what private functions and proofs need.
use Rattle.std.specs.Prelude.{ℕ, Bool, false, List, slice_get}
use Rattle.std.specs.Option.{option_map_or}
use Rattle.grammar_tree.specs.Written.{WrittenTerm, WrittenGrammar, written_alts}
use Rattle.grammar_tree.specs.Derives.{resolved_alts}
use Rattle.grammar_check_nodes.specs.Flags.{flag}
use Rattle.grammar_check_parser_rules.specs.Empty.{alts_is_empty}

-- whether the alternatives of the rule with this number can be empty, where a table says which rules can; false past the last rule
abbrev pub body_is_empty : WrittenGrammar → List (List (List WrittenTerm)) → List Bool → ℕ → Bool
body_is_empty G alts flags r = option_map_or (λ a. alts_is_empty (flag flags) (resolved_alts G (written_alts a))) (slice_get alts r) false
