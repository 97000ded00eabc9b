-- The faults of a grammar, and when it is well-formed: where none of them holds. A rule is given by its place among all rules of the grammar, in written order.
use Rattle.std.specs.Prelude.{◌≡◌, ◌≢◌, ℕ, ◌<◌, ◌≤◌, ◌⊎◌, Bool, true, false, ◌||◌, not, List, [], ◌∷◌, ◌++◌, Option, Some}
use Rattle.std.specs.Prelude.{None, slice_get, length, take, map, filter, count_by, position, ⊤}
use Rattle.std.specs.List.{Contains, filter_map, flat_map}
use Rattle.grammar_tree.specs.Written.{Reference, WrittenTerm, WrittenSeq, WrittenAlts, LexerTerm, LexerSeq}
use Rattle.grammar_tree.specs.Written.{LexerAlts, ParserRule, LexerRule, WrittenRule, WrittenGrammar}
use Rattle.grammar_tree.specs.Matches.{Matches, MatchesRule, any_is_short}
use Rattle.grammar_tree.specs.Kinds.{all_references, as_name, lexer_rules, parser_rules, references, rule_name, same_text}
use Rattle.grammar_tree.specs.Derives.{Alts, DerivesAlts, bodies, resolved_alts}
use Rattle.grammar_tree.specs.Corners.{bases, rests, HasEmptyLoopAlts, LeadsTo, normal_count}

-- A parser rule is at the place, and the fact holds of it.
abbrev pub AtParserRule : WrittenGrammar → ℕ → (ParserRule → Type 0) → Type 0
AtParserRule G i P = (rule : ParserRule) × (slice_get G.rules i ≡ Some (WrittenRule.parser_rule rule)) × P rule

-- A lexer rule is at the place, and the fact holds of it.
abbrev pub AtLexerRule : WrittenGrammar → ℕ → (LexerRule → Type 0) → Type 0
AtLexerRule G i P = (rule : LexerRule) × (slice_get G.rules i ≡ Some (WrittenRule.lexer_rule rule)) × P rule

-- the number of the parser rule at a place: how many parser rules are before it
abbrev pub number_at : WrittenGrammar → ℕ → ℕ
number_at G i = length (parser_rules (take i G.rules))

-- Two rules have this name.
abbrev pub TwoRules : WrittenGrammar → List ℕ → Type 0
TwoRules G name = 2 ≤ count_by (λ rule. same_text (rule_name rule) name) G.rules

-- the names in a lexer term, in written order
abbrev mutual
  pub term_names : LexerTerm → List (List ℕ)
  term_names (LexerTerm.literal t) = []
  term_names (LexerTerm.set s) = []
  term_names (LexerTerm.name n) = n ∷ []
  term_names (LexerTerm.block a) = used_names a
  term_names (LexerTerm.opt t) = term_names t
  term_names (LexerTerm.star t) = term_names t
  term_names (LexerTerm.plus t) = term_names t
  term_names (LexerTerm.short s) = []

  pub seq_names : LexerSeq → List (List ℕ)
  seq_names LexerSeq.done = []
  seq_names (LexerSeq.next t s) = term_names t ++ seq_names s

  pub used_names : LexerAlts → List (List ℕ)
  used_names LexerAlts.none = []
  used_names (LexerAlts.or s a) = seq_names s ++ used_names a

-- a lexer rule of the first name uses the second name
pub record Uses (G : WrittenGrammar) (user used : List ℕ) : Type 0 where
  pub rule : LexerRule
  pub of_grammar : Contains (lexer_rules G.rules) rule
  pub named : rule.name ≡ user
  pub uses : Contains (used_names rule.alts) used

-- directly, or through other lexer rules
pub data UsesThrough (G : WrittenGrammar) : List ℕ → List ℕ → Type 0 where
  directly : (a b : List ℕ) → Uses G a b → UsesThrough G a b
  through : (a b c : List ℕ) → Uses G a b → UsesThrough G b c → UsesThrough G a c

-- The name is no parser rule, no lexer rule that isn't a fragment and no declared token.
pub record NamesNothing (G : WrittenGrammar) (name : List ℕ) : Type 0 where
  pub no_parser_rule : ¬ Contains (map (λ (r : ParserRule). r.name) (parser_rules G.rules)) name
  pub no_token_rule : ¬ Contains (map (λ (r : LexerRule). r.name) (filter (λ (r : LexerRule). not r.fragment) (lexer_rules G.rules))) name
  pub no_token : ¬ Contains G.tokens name

-- a use of a name, by a parser rule or by a lexer rule
pub data NameUse : Type 0 where
  by_parser_rule : List ℕ → NameUse
  by_lexer_rule : List ℕ → NameUse

abbrev pub used_name : NameUse → List ℕ
used_name (NameUse.by_parser_rule n) = n
used_name (NameUse.by_lexer_rule n) = n

-- the names that a rule uses, in written order
abbrev pub rule_uses : WrittenRule → List NameUse
rule_uses (WrittenRule.parser_rule r) = map NameUse.by_parser_rule (filter_map as_name (references r.alts))
rule_uses (WrittenRule.lexer_rule r) = map NameUse.by_lexer_rule (used_names r.alts)

-- the names that the rules use, in written order
abbrev pub name_uses : WrittenGrammar → List NameUse
name_uses G = flat_map rule_uses G.rules

-- A parser rule uses a name that names nothing, or a lexer rule uses a name that is no lexer rule.
abbrev pub IsUnknown : WrittenGrammar → NameUse → Type 0
IsUnknown G (NameUse.by_parser_rule n) = NamesNothing G n
IsUnknown G (NameUse.by_lexer_rule n) = ¬ Contains (map (λ (r : LexerRule). r.name) (lexer_rules G.rules)) n

-- The use with this number, counted in written order from 0, is of this name, which is unknown.
abbrev pub NoRuleAt : WrittenGrammar → ℕ → List ℕ → Type 0
NoRuleAt G i name = (it : NameUse) × (slice_get (name_uses G) i ≡ Some it) × (used_name it ≡ name) × IsUnknown G it

-- Some use is of this name, which is unknown.
abbrev pub NoRule : WrittenGrammar → List ℕ → Type 0
NoRule G name = (i : ℕ) × NoRuleAt G i name

-- No parser rule has the wanted name, or there is no parser rule; the fault's name is then empty.
pub data NoStart (G : WrittenGrammar) : Option (List ℕ) → List ℕ → Type 0 where
  no_parser_rule : (wanted : Option (List ℕ)) → parser_rules G.rules ≡ [] → NoStart G wanted []
  not_there : (name : List ℕ) → parser_rules G.rules ≢ [] → (¬ Contains (map (λ (r : ParserRule). r.name) (parser_rules G.rules)) name)
      → NoStart G (Some name) name

abbrev pub is_parser_rule : WrittenRule → Bool
is_parser_rule (WrittenRule.parser_rule r) = true
is_parser_rule (WrittenRule.lexer_rule r) = false

abbrev pub is_parser_rule_named : List ℕ → WrittenRule → Bool
is_parser_rule_named name (WrittenRule.parser_rule r) = same_text r.name name
is_parser_rule_named name (WrittenRule.lexer_rule r) = false

-- the place of the start rule: the parser rule of the wanted name, and the first parser rule where none is wanted
abbrev pub start_of : WrittenGrammar → Option (List ℕ) → Option ℕ
start_of G None = position is_parser_rule G.rules
start_of G (Some name) = position (is_parser_rule_named name) G.rules

-- `EOF` is in the term
abbrev mutual
  pub has_eof : WrittenTerm → Bool
  has_eof (WrittenTerm.literal t) = false
  has_eof (WrittenTerm.name n) = false
  has_eof WrittenTerm.any = false
  has_eof (WrittenTerm.but refs) = false
  has_eof (WrittenTerm.block a) = any_has_eof a
  has_eof (WrittenTerm.opt t) = has_eof t
  has_eof (WrittenTerm.star t) = has_eof t
  has_eof (WrittenTerm.plus t) = has_eof t
  has_eof WrittenTerm.eof = true

  pub seq_has_eof : WrittenSeq → Bool
  seq_has_eof WrittenSeq.done = false
  seq_has_eof (WrittenSeq.next t s) = has_eof t || seq_has_eof s

  pub any_has_eof : WrittenAlts → Bool
  any_has_eof WrittenAlts.none = false
  any_has_eof (WrittenAlts.or s a) = seq_has_eof s || any_has_eof a

-- `EOF` is in the alternative other than as its last part, without suffix
abbrev pub is_misplaced_in : WrittenSeq → Bool
is_misplaced_in WrittenSeq.done = false
is_misplaced_in (WrittenSeq.next WrittenTerm.eof WrittenSeq.done) = false
is_misplaced_in (WrittenSeq.next t s) = has_eof t || is_misplaced_in s

abbrev pub is_misplaced : WrittenAlts → Bool
is_misplaced WrittenAlts.none = false
is_misplaced (WrittenAlts.or s a) = is_misplaced_in s || is_misplaced a

-- `EOF` is in this rule other than last in a top-level alternative without suffix; or it is in this rule, the rule isn't the start rule, and some rule uses it.
abbrev pub EofPlace : WrittenGrammar → ℕ → ℕ → Type 0
EofPlace G start i = AtParserRule G i (λ rule.
    (is_misplaced rule.alts ≡ true)
    ⊎ ((any_has_eof rule.alts ≡ true) × (i ≢ start) × Contains (all_references G.rules) (Reference.name rule.name)))

-- This lexer rule uses itself, directly or through others.
abbrev pub FragmentLoop : WrittenGrammar → ℕ → Type 0
FragmentLoop G i = AtLexerRule G i (λ rule. UsesThrough G rule.name rule.name)

-- This lexer rule has a non-greedy alternative, and another lexer rule uses it.
abbrev pub ShortUse : WrittenGrammar → ℕ → Type 0
ShortUse G i = AtLexerRule G i (λ rule. (any_is_short rule.alts ≡ true) × ((user : List ℕ) × (user ≢ rule.name) × Uses G user rule.name))

-- This lexer rule isn't a fragment and matches the empty text.
abbrev pub EmptyToken : WrittenGrammar → ℕ → Type 0
EmptyToken G i = AtLexerRule G i (λ rule. (rule.fragment ≡ false) × MatchesRule (lexer_rules G.rules) rule.alts [])

-- Every alternative of this rule is directly recursive.
abbrev pub NoBase : WrittenGrammar → ℕ → Type 0
NoBase G i = AtParserRule G i (λ rule. bases (number_at G i) (resolved_alts G rule.alts) ≡ Alts.none)

-- a star or plus over a term that can match the empty text is in the lexer term
abbrev mutual
  pub LexerHasEmptyLoop : List LexerRule → LexerTerm → Type 0
  LexerHasEmptyLoop G (LexerTerm.literal t) = ⊥
  LexerHasEmptyLoop G (LexerTerm.set s) = ⊥
  LexerHasEmptyLoop G (LexerTerm.name n) = ⊥
  LexerHasEmptyLoop G (LexerTerm.block a) = LexerHasEmptyLoopAlts G a
  LexerHasEmptyLoop G (LexerTerm.opt t) = LexerHasEmptyLoop G t
  LexerHasEmptyLoop G (LexerTerm.star t) = Matches G t [] ⊎ LexerHasEmptyLoop G t
  LexerHasEmptyLoop G (LexerTerm.plus t) = Matches G t [] ⊎ LexerHasEmptyLoop G t
  LexerHasEmptyLoop G (LexerTerm.short s) = ⊥

  pub LexerHasEmptyLoopSeq : List LexerRule → LexerSeq → Type 0
  LexerHasEmptyLoopSeq G LexerSeq.done = ⊥
  LexerHasEmptyLoopSeq G (LexerSeq.next t s) = LexerHasEmptyLoop G t ⊎ LexerHasEmptyLoopSeq G s

  pub LexerHasEmptyLoopAlts : List LexerRule → LexerAlts → Type 0
  LexerHasEmptyLoopAlts G LexerAlts.none = ⊥
  LexerHasEmptyLoopAlts G (LexerAlts.or s a) = LexerHasEmptyLoopSeq G s ⊎ LexerHasEmptyLoopAlts G a

-- This rule, of the parser or of the lexer, has a star or plus over a term that can be
-- empty; or it has a directly recursive alternative whose rest can be empty.
abbrev pub EmptyLoop : WrittenGrammar → ℕ → Type 0
EmptyLoop G i =
    AtParserRule G i (λ rule. HasEmptyLoopAlts (bodies G) (resolved_alts G rule.alts)
    ⊎ DerivesAlts (bodies G) (rests (number_at G i) (resolved_alts G rule.alts)) [])
    ⊎ AtLexerRule G i (λ rule. LexerHasEmptyLoopAlts (lexer_rules G.rules) rule.alts)

-- This rule is on a cycle of left corners.
abbrev pub LeftRecursion : WrittenGrammar → ℕ → Type 0
LeftRecursion G i = AtParserRule G i (λ rule. LeadsTo (bodies G) (number_at G i) (number_at G i))

-- The normal form would have this count of rules, above 65,535.
abbrev pub TooManyRules : WrittenGrammar → ℕ → Type 0
TooManyRules G count = (count ≡ normal_count (bodies G)) × (65535 < count)

-- The grammar, with the rule at the place `start` as its start, has no fault.
pub record IsWellFormed (G : WrittenGrammar) (start : ℕ) : Type 0 where
  pub one_rule_a_name : (name : List ℕ) → ¬ TwoRules G name
  pub each_name_known : (name : List ℕ) → ¬ NoRule G name
  pub has_start : AtParserRule G start (λ rule. ⊤)
  pub eof_at_ends : (i : ℕ) → ¬ EofPlace G start i
  pub no_fragment_loop : (i : ℕ) → ¬ FragmentLoop G i
  pub no_short_use : (i : ℕ) → ¬ ShortUse G i
  pub no_empty_token : (i : ℕ) → ¬ EmptyToken G i
  pub has_bases : (i : ℕ) → ¬ NoBase G i
  pub no_empty_loop : (i : ℕ) → ¬ EmptyLoop G i
  pub no_left_recursion : (i : ℕ) → ¬ LeftRecursion G i
  pub few_rules : (count : ℕ) → ¬ TooManyRules G count
