-- Lexer rules by their indices, and which lexer terms match the empty text, where it is known which rules do.
use Rattle.std.specs.Prelude.{◌≡◌, ℕ, Bool, true, false, ◌&&◌, ◌||◌, List, [], ◌∷◌, Option, Some, position, slice_get, map}
use Rattle.std.specs.List.{filter_map}
use Rattle.std.specs.Option.{option_map_or}
use Rattle.grammar_tree.specs.Written.{LexerTerm, LexerSeq, LexerAlts, LexerRule, WrittenRule}
use Rattle.grammar_tree.specs.Faults.{used_names}
use Rattle.grammar_tree.specs.Kinds.{lexer_rules, rule_name}
use Rattle.grammar_tree.specs.Matches.{MatchesAlts}
use Rattle.grammar_check_nodes.specs.Flags.{flag}
use Rattle.grammar_check_parser_rules.specs.Rules.{has_key}
use Rattle.grammar_check_parser_rules.specs.declared.rules.Key.TheVariants.{LexerName}

-- the index of the first lexer rule with this name
abbrev pub lexer_index : List WrittenRule → List ℕ → Option ℕ
lexer_index rules n = position (has_key LexerName n) rules

abbrev pub is_nil : List ℕ → Bool
is_nil [] = true
is_nil (c ∷ cs) = false

-- whether a term matches the empty text, where `f` has the indices of rules and `e` says which of these match it
abbrev mutual
  pub lexer_is_empty : (List ℕ → Option ℕ) → (ℕ → Bool) → LexerTerm → Bool
  lexer_is_empty f e (LexerTerm.literal t) = is_nil t
  lexer_is_empty f e (LexerTerm.set s) = false
  lexer_is_empty f e (LexerTerm.name n) = option_map_or e (f n) false
  lexer_is_empty f e (LexerTerm.block a) = lexer_alts_are_empty f e a
  lexer_is_empty f e (LexerTerm.opt t) = true
  lexer_is_empty f e (LexerTerm.star t) = true
  lexer_is_empty f e (LexerTerm.plus t) = lexer_is_empty f e t
  lexer_is_empty f e (LexerTerm.short s) = true

  pub lexer_seq_is_empty : (List ℕ → Option ℕ) → (ℕ → Bool) → LexerSeq → Bool
  lexer_seq_is_empty f e LexerSeq.done = true
  lexer_seq_is_empty f e (LexerSeq.next t s) = lexer_is_empty f e t && lexer_seq_is_empty f e s

  pub lexer_alts_are_empty : (List ℕ → Option ℕ) → (ℕ → Bool) → LexerAlts → Bool
  lexer_alts_are_empty f e LexerAlts.none = false
  lexer_alts_are_empty f e (LexerAlts.or s a) = lexer_seq_is_empty f e s || lexer_alts_are_empty f e a

-- a star or plus over a term that matches the empty text is in the term
abbrev mutual
  pub lexer_has_loop : (List ℕ → Option ℕ) → (ℕ → Bool) → LexerTerm → Bool
  lexer_has_loop f e (LexerTerm.literal t) = false
  lexer_has_loop f e (LexerTerm.set s) = false
  lexer_has_loop f e (LexerTerm.name n) = false
  lexer_has_loop f e (LexerTerm.block a) = lexer_alts_have_loop f e a
  lexer_has_loop f e (LexerTerm.opt t) = lexer_has_loop f e t
  lexer_has_loop f e (LexerTerm.star t) = lexer_is_empty f e t || lexer_has_loop f e t
  lexer_has_loop f e (LexerTerm.plus t) = lexer_is_empty f e t || lexer_has_loop f e t
  lexer_has_loop f e (LexerTerm.short s) = false

  pub lexer_seq_has_loop : (List ℕ → Option ℕ) → (ℕ → Bool) → LexerSeq → Bool
  lexer_seq_has_loop f e LexerSeq.done = false
  lexer_seq_has_loop f e (LexerSeq.next t s) = lexer_has_loop f e t || lexer_seq_has_loop f e s

  pub lexer_alts_have_loop : (List ℕ → Option ℕ) → (ℕ → Bool) → LexerAlts → Bool
  lexer_alts_have_loop f e LexerAlts.none = false
  lexer_alts_have_loop f e (LexerAlts.or s a) = lexer_seq_has_loop f e s || lexer_alts_have_loop f e a

-- The table says exactly which lexer rules have alternatives that match the empty text.
abbrev pub AreEmptyLexerRules : List WrittenRule → List Bool → Type 0
AreEmptyLexerRules rules flags = (i : ℕ) (rule : LexerRule) → slice_get rules i ≡ Some (WrittenRule.lexer_rule rule) →
    (flag flags i ≡ true → MatchesAlts (lexer_rules rules) rule.alts []) × (MatchesAlts (lexer_rules rules) rule.alts [] → flag flags i ≡ true)

-- the indices of the rules that a lexer rule uses
abbrev pub lexer_successors : (List ℕ → Option ℕ) → WrittenRule → List ℕ
lexer_successors f (WrittenRule.parser_rule r) = []
lexer_successors f (WrittenRule.lexer_rule r) = filter_map f (used_names r.alts)

-- for each rule the indices of the rules that it uses
abbrev pub lexer_edges : List WrittenRule → List (List ℕ)
lexer_edges rules = map (lexer_successors (lexer_index rules)) rules

-- No two rules have one name.
abbrev pub OneRule : List WrittenRule → Type 0
OneRule rules = (i j : ℕ) (a b : WrittenRule) → slice_get rules i ≡ Some a → slice_get rules j ≡ Some b → rule_name a ≡ rule_name b → i ≡ j
