-- The kinds of tokens of a grammar in the order of their numbers, which count from 0, and what the names and literals of parser rules mean.
use Rattle.std.specs.Prelude.{ℕ, suc, Bool, true, false, not, ◌&&◌, List, [], ◌∷◌, ◌++◌, map, filter, Option, Some, None, is_none, find, position, nat_eq}
use Rattle.std.specs.List.{filter_map, flat_map}
use Rattle.std.specs.Option.{option_map_or}
use Rattle.std.specs.Str.{bytes_eq}
use Rattle.grammar_tree.specs.Written.{Reference, WrittenTerm, WrittenSeq, WrittenAlts, LexerTerm, LexerSeq, LexerAlts}
use Rattle.grammar_tree.specs.Written.{ParserRule, LexerRule, WrittenRule, WrittenGrammar, Source, TokenKind}

-- the two texts are equal
abbrev pub same_text : List ℕ → List ℕ → Bool
same_text = bytes_eq

abbrev pub rule_name : WrittenRule → List ℕ
rule_name (WrittenRule.parser_rule r) = r.name
rule_name (WrittenRule.lexer_rule r) = r.name

abbrev pub as_parser_rule : WrittenRule → Option ParserRule
as_parser_rule (WrittenRule.parser_rule r) = Some r
as_parser_rule (WrittenRule.lexer_rule r) = None

abbrev pub as_lexer_rule : WrittenRule → Option LexerRule
as_lexer_rule (WrittenRule.parser_rule r) = None
as_lexer_rule (WrittenRule.lexer_rule r) = Some r

-- the parser rules in written order
abbrev pub parser_rules : List WrittenRule → List ParserRule
parser_rules = filter_map as_parser_rule

-- the lexer rules in written order, fragments too
abbrev pub lexer_rules : List WrittenRule → List LexerRule
lexer_rules = filter_map as_lexer_rule

-- the literals and names in a term, in written order, those after `~` too
abbrev mutual
  pub term_references : WrittenTerm → List Reference
  term_references (WrittenTerm.literal t) = Reference.literal t ∷ []
  term_references (WrittenTerm.name n) = Reference.name n ∷ []
  term_references WrittenTerm.any = []
  term_references (WrittenTerm.but refs) = refs
  term_references (WrittenTerm.block a) = references a
  term_references (WrittenTerm.opt t) = term_references t
  term_references (WrittenTerm.star t) = term_references t
  term_references (WrittenTerm.plus t) = term_references t
  term_references WrittenTerm.eof = []

  pub seq_references : WrittenSeq → List Reference
  seq_references WrittenSeq.done = []
  seq_references (WrittenSeq.next t s) = term_references t ++ seq_references s

  pub references : WrittenAlts → List Reference
  references WrittenAlts.none = []
  references (WrittenAlts.or s a) = seq_references s ++ references a

abbrev pub as_literal : Reference → Option (List ℕ)
as_literal (Reference.literal t) = Some t
as_literal (Reference.name n) = None

abbrev pub as_name : Reference → Option (List ℕ)
as_name (Reference.literal t) = None
as_name (Reference.name n) = Some n

-- the literals and names in the parser rules, in written order
abbrev pub all_references : List WrittenRule → List Reference
all_references rules = flat_map (λ (r : ParserRule). references r.alts) (parser_rules rules)

-- each of the texts once, in the order in which they first occur
abbrev pub distinct : List (List ℕ) → List (List ℕ)
distinct [] = []
distinct (t ∷ ts) = t ∷ filter (λ u. not (same_text t u)) (distinct ts)

-- The alternatives are one alone, and that is exactly this literal.
abbrev pub is_just : List ℕ → LexerAlts → Bool
is_just t (LexerAlts.or (LexerSeq.next (LexerTerm.literal u) LexerSeq.done) LexerAlts.none) = same_text u t
is_just t _ = false

-- A literal in a parser rule can name this rule: a lexer rule that isn't a fragment, has no command, and has one alternative, which is exactly the literal.
abbrev pub is_named_by : List ℕ → WrittenRule → Bool
is_named_by t (WrittenRule.parser_rule r) = false
is_named_by t (WrittenRule.lexer_rule r) = not r.fragment && (not r.gap && is_just t r.alts)

-- The literals in parser rules that name no lexer rule, in the order in which they first occur.
abbrev pub implicit_literals : List WrittenRule → List (List ℕ)
implicit_literals rules =
    filter (λ t. is_none (find (is_named_by t) rules)) (distinct (filter_map as_literal (all_references rules)))

abbrev pub implicit_kind : List ℕ → TokenKind
implicit_kind t = record { name = t; gap = false; source = Source.implicit }

-- the kinds of the lexer rules that aren't fragments, the first of these rules having the place that is given
abbrev pub written_kinds : ℕ → List WrittenRule → List TokenKind
written_kinds place [] = []
written_kinds place (WrittenRule.parser_rule r ∷ rules) = written_kinds (suc place) rules
written_kinds place (WrittenRule.lexer_rule r ∷ rules) =
    and_kind r.fragment (record { name = r.name; gap = r.gap; source = Source.written place }) (written_kinds (suc place) rules)
  where
    and_kind : Bool → TokenKind → List TokenKind → List TokenKind
    and_kind true kind kinds = kinds
    and_kind false kind kinds = kind ∷ kinds

-- the lexer rule makes tokens of this name
abbrev pub makes_token : List ℕ → WrittenRule → Bool
makes_token name (WrittenRule.parser_rule r) = false
makes_token name (WrittenRule.lexer_rule r) = not r.fragment && same_text r.name name

-- The declared tokens whose name is not that of a lexer rule that isn't a fragment, in written order, each once.
abbrev pub declared_names : WrittenGrammar → List (List ℕ)
declared_names G = filter (λ n. is_none (find (makes_token n) G.rules)) (distinct G.tokens)

abbrev pub declared_kind : List ℕ → TokenKind
declared_kind n = record { name = n; gap = false; source = Source.declared }

-- The kinds of the grammar: first the implicit tokens, then the lexer rules that aren't fragments, then the declared tokens.
unfoldable pub kinds_of : WrittenGrammar → List TokenKind
kinds_of G = map implicit_kind (implicit_literals G.rules) ++ (written_kinds 0 G.rules ++ map declared_kind (declared_names G))

abbrev pub is_implicit : List ℕ → TokenKind → Bool
is_implicit t kind = from_source kind.source (same_text kind.name t)
  where
    from_source : Source → Bool → Bool
    from_source Source.implicit same = same
    from_source (Source.written place) same = false
    from_source Source.declared same = false

abbrev pub is_written_at : ℕ → TokenKind → Bool
is_written_at place kind = from_source kind.source
  where
    from_source : Source → Bool
    from_source Source.implicit = false
    from_source (Source.written other) = nat_eq other place
    from_source Source.declared = false

abbrev pub has_name : List ℕ → TokenKind → Bool
has_name n kind = from_source kind.source (same_text kind.name n)
  where
    from_source : Source → Bool → Bool
    from_source Source.implicit same = false
    from_source (Source.written place) same = same
    from_source Source.declared same = same

-- The kind that a literal in a parser rule names: that of the first lexer rule that it can name, and else its implicit token.
abbrev pub literal_kind : WrittenGrammar → List ℕ → Option ℕ
literal_kind G t =
    option_map_or (λ place. position (is_written_at place) (kinds_of G)) (position (is_named_by t) G.rules) (position (is_implicit t) (kinds_of G))

-- the kind that a token's name means: that of a lexer rule or of a declared token
abbrev pub name_kind : WrittenGrammar → List ℕ → Option ℕ
name_kind G n = position (has_name n) (kinds_of G)

-- the kind that a literal or a token's name means
abbrev pub reference_kind : WrittenGrammar → Reference → Option ℕ
reference_kind G (Reference.literal t) = literal_kind G t
reference_kind G (Reference.name n) = name_kind G n

-- the number of the parser rule with this name, which counts the parser rules alone, from 0
abbrev pub rule_number : WrittenGrammar → List ℕ → Option ℕ
rule_number G n = position (λ (r : ParserRule). same_text r.name n) (parser_rules G.rules)

-- the numbers of the kinds that aren't gap kinds, the first kind having the number that is given
abbrev pub visible_from : ℕ → List TokenKind → List ℕ
visible_from k [] = []
visible_from k (kind ∷ kinds) = and_number kind.gap (visible_from (suc k) kinds)
  where
    and_number : Bool → List ℕ → List ℕ
    and_number true ks = ks
    and_number false ks = k ∷ ks

-- `.`: all kinds that aren't gap kinds
abbrev pub any_kinds : WrittenGrammar → List ℕ
any_kinds G = visible_from 0 (kinds_of G)

abbrev is_kind : ℕ → Option ℕ → Bool
is_kind k None = false
is_kind k (Some other) = nat_eq other k

-- `~`: all of these but the named ones
abbrev pub other_kinds : WrittenGrammar → List Reference → List ℕ
other_kinds G refs = filter (λ k. is_none (find (λ r. is_kind k (reference_kind G r)) refs)) (any_kinds G)
