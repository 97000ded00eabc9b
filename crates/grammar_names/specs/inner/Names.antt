-- What an index of names holds.
use Rattle.std.specs.Prelude.{◌≡◌, ℕ, ◌+◌, Bool, false, List, slice_get}
use Rattle.std.specs.Option.{option_map_or}
use Rattle.grammar_tree.specs.Written.{WrittenRule, WrittenGrammar, Source, TokenKind}
use Rattle.grammar_tree.specs.Kinds.{is_named_by, literal_kind, name_kind, rule_number, same_text, any_kinds}
use Rattle.grammar_names.specs.declared.index.Index.{Index}
use Rattle.grammar_names.specs.Index.{Finds}

-- the rule is a parser rule of this name
abbrev pub is_parser_rule_of : WrittenRule → List ℕ → Bool
is_parser_rule_of (WrittenRule.parser_rule r) n = same_text r.name n
is_parser_rule_of (WrittenRule.lexer_rule r) n = false

-- the number of the next parser rule, after the rule
abbrev pub next_number : WrittenRule → ℕ → ℕ
next_number (WrittenRule.parser_rule r) number = number + 1
next_number (WrittenRule.lexer_rule r) number = number

-- The literal can mean the kind: it is this implicit token, or it can name the kind's lexer rule.
abbrev pub can_stand_for : List WrittenRule → TokenKind → List ℕ → Bool
can_stand_for rules kind t = from_source kind.source
  where
    from_source : Source → Bool
    from_source Source.implicit = same_text kind.name t
    from_source (Source.written place) = option_map_or (is_named_by t) (slice_get rules place) false
    from_source Source.declared = false

-- The three indices and the kinds are those of the grammar.
pub record AreNamesOf (G : WrittenGrammar) (rules tokens literals : Index) (any : List ℕ) : Type 0 where
  pub rules_are : Finds rules (rule_number G)
  pub tokens_are : Finds tokens (name_kind G)
  pub literals_are : Finds literals (literal_kind G)
  pub any_are : any ≡ any_kinds G
