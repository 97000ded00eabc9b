-- Where the rules of a grammar are and what their names mean: what follows from the definitions, for the proofs of other crates.
use Rattle.std.specs.Prelude.{◌≡◌, ◌↔◌, ◌⊎◌, ℕ, ◌<◌, ◌≤◌, false, ⊤, List, Option, Some, None, slice_get, length}
use Rattle.std.specs.List.{Contains}
use Rattle.grammar_tree.specs.Written.{Reference, LexerTerm, ParserRule, LexerRule, WrittenRule, WrittenGrammar, Source, TokenKind}
use Rattle.grammar_tree.specs.Kinds.{all_references, kinds_of, lexer_rules, literal_kind, name_kind, parser_rules, rule_name, rule_number}
use Rattle.grammar_tree.specs.Matches.{Matches, MatchesRule}
use Rattle.grammar_tree.specs.Derives.{Alts, bodies, resolved_alts}
use Rattle.grammar_tree.specs.Faults.{AtLexerRule, AtParserRule, IsWellFormed, NoStart, Uses, number_at, start_of}
use Rattle.grammar_tree.specs.Size.{grammar_size}

-- Each place of a parser rule has a number, which finds its alternatives; and each number is some place's.
pub record PlacesHaveNumbers (G : WrittenGrammar) : Type 0 where
  pub rule : (i : ℕ) (rule : ParserRule) → slice_get G.rules i ≡ Some (WrittenRule.parser_rule rule)
      → slice_get (parser_rules G.rules) (number_at G i) ≡ Some rule
  pub body : (i : ℕ) (rule : ParserRule) → slice_get G.rules i ≡ Some (WrittenRule.parser_rule rule)
      → slice_get (bodies G) (number_at G i) ≡ Some (resolved_alts G rule.alts)
  pub place : (r : ℕ) (body : Alts) → slice_get (bodies G) r ≡ Some body → (i : ℕ) × (number_at G i ≡ r)
      × AtParserRule G i (λ rule. resolved_alts G rule.alts ≡ body)
  -- the number that a name has is a rule's of this name
  pub named : (name : List ℕ) (r : ℕ) → rule_number G name ≡ Some r → (rule : ParserRule) × (slice_get (parser_rules G.rules) r ≡ Some rule)
      × (rule.name ≡ name)
  -- no number is met twice
  pub one : (i j : ℕ) (a b : ParserRule) → slice_get G.rules i ≡ Some (WrittenRule.parser_rule a) → slice_get G.rules j ≡ Some (WrittenRule.parser_rule b)
      → number_at G i ≡ number_at G j → i ≡ j

-- A lexer rule is at some place.
abbrev pub LexerRulesHavePlaces : Type 0
LexerRulesHavePlaces =
    (G : WrittenGrammar) (rule : LexerRule) → Contains (lexer_rules G.rules) rule → (i : ℕ) × (slice_get G.rules i ≡ Some (WrittenRule.lexer_rule rule))

-- What names and literals mean in a grammar.
pub record NamesAreKnown (G : WrittenGrammar) : Type 0 where
  -- Two rules of one name are one rule.
  pub one_rule : (i j : ℕ) (a b : WrittenRule) → slice_get G.rules i ≡ Some a → slice_get G.rules j ≡ Some b → rule_name a ≡ rule_name b → i ≡ j
  -- a parser rule's name has the number of its place
  pub number : (i : ℕ) (rule : ParserRule) → slice_get G.rules i ≡ Some (WrittenRule.parser_rule rule) → rule_number G rule.name ≡ Some (number_at G i)
  -- a literal in a parser rule names a kind
  pub literal : (t : List ℕ) → Contains (all_references G.rules) (Reference.literal t) → (k : ℕ) × (literal_kind G t ≡ Some k)
  -- a name in a parser rule is a parser rule's or a kind's
  pub name : (n : List ℕ) → Contains (all_references G.rules) (Reference.name n) → ((r : ℕ) × (rule_number G n ≡ Some r)) ⊎ ((k : ℕ) × (name_kind G n ≡ Some k))
  -- a name in a lexer rule is a lexer rule's
  pub lexer_name : (user n : List ℕ) → Uses G user n → (rule : LexerRule) × Contains (lexer_rules G.rules) rule × (rule.name ≡ n)

-- In a well-formed grammar each name and literal means something, and no name for two rules.
abbrev pub WellFormedNames : Type 0
WellFormedNames = (G : WrittenGrammar) (start : ℕ) → IsWellFormed G start → NamesAreKnown G

-- In a well-formed grammar a name that a lexer rule uses matches what the rule of this name does: no such rule is non-greedy.
abbrev pub NameIsItsRule : Type 0
NameIsItsRule = (G : WrittenGrammar) (start : ℕ) → IsWellFormed G start → (user : List ℕ) (rule : LexerRule) (w : List ℕ) →
    Uses G user rule.name → Contains (lexer_rules G.rules) rule →
    Matches (lexer_rules G.rules) (LexerTerm.name rule.name) w ↔ MatchesRule (lexer_rules G.rules) rule.alts w

-- The start rule is found exactly where it is there.
pub record StartIsFound (G : WrittenGrammar) : Type 0 where
  pub missing : (wanted : Option (List ℕ)) → start_of G wanted ≡ None → (name : List ℕ) × NoStart G wanted name
  pub there : (wanted : Option (List ℕ)) (i : ℕ) → start_of G wanted ≡ Some i → (name : List ℕ) → ¬ NoStart G wanted name
  -- without a wanted name the start is the first parser rule
  pub first : (i j : ℕ) → start_of G None ≡ Some i → j < i → ¬ AtParserRule G j (λ rule. ⊤)

-- Each kind of a lexer rule is that of a rule that isn't a fragment, and each such rule has one.
pub record KindsAreRules (G : WrittenGrammar) : Type 0 where
  pub rule : (kind : TokenKind) (i : ℕ) → Contains (kinds_of G) kind → kind.source ≡ Source.written i →
      AtLexerRule G i (λ rule. (rule.fragment ≡ false) × (rule.name ≡ kind.name) × (rule.gap ≡ kind.gap))
  pub kind : (i : ℕ) (rule : LexerRule) → slice_get G.rules i ≡ Some (WrittenRule.lexer_rule rule) → rule.fragment ≡ false →
      Contains (kinds_of G) (record { name = rule.name; gap = rule.gap; source = Source.written i })

-- The kinds and the rules of a grammar are no more than its size.
pub record CountsFit (G : WrittenGrammar) : Type 0 where
  pub kinds : length (kinds_of G) ≤ grammar_size G
  pub rules : length G.rules ≤ grammar_size G
  pub parser_rules : length (parser_rules G.rules) ≤ length G.rules
  pub tokens : length G.tokens ≤ grammar_size G
