-- The grammar of a lexer text and a parser text, and the faults of a pair.
use Rattle.std.specs.Prelude.{◌≡◌, ◌≢◌, ◌↔◌, ℕ, Bool, not, ◌&&◌, List, [], ◌∷◌, ◌++◌, Option, Some, None, Err, map, filter, find, is_none, position, codes}
use Rattle.std.specs.List.{Contains, filter_map}
use Rattle.faults.specs.Memory.{ran_out}
use Rattle.grammar_tree.specs.Derives.{Derives, Term, RuleDerives, resolved_alts}
use Rattle.grammar_tree.specs.Kinds.{all_references, as_literal, declared_names, is_just, is_named_by, kinds_of, lexer_rules}
use Rattle.grammar_tree.specs.Kinds.{literal_kind, name_kind, parser_rules, rule_number, same_text}
use Rattle.grammar_tree.specs.Lexes.{Lexes, Piece, StopsAt, tokens_of}
use Rattle.grammar_tree.specs.Written.{LexerRule, ParserRule, Source, TokenKind, WrittenGrammar, WrittenRule}
use Rattle.grammar_reader_notation.specs.Reads.{IsFaultOf, IsProfile}
use Rattle.grammar_reader_notation.specs.declared.fault.ReadFault.{ReadFault}
use Rattle.grammar_reader_notation.specs.declared.fault.ReadFault.TheVariants as read
use Rattle.grammar_pair.specs.Bodies.{BeginsWith, entries_of, lexer_body, parser_body, vocabularies}
use Rattle.grammar_pair.specs.declared.fault.PairFault.{PairFault}
use Rattle.grammar_pair.specs.declared.fault.PairFault.TheVariants.{LexerText, NotLexer, ParserText, NotParser, OtherVocab, WrongRule, NoLiteral, Memory}

-- The parser's name, the declared tokens of the lexer text and then of the parser text, and the parser's rules and then the lexer's.
abbrev pub joined : WrittenGrammar → WrittenGrammar → WrittenGrammar
joined L P = record { name = P.name; tokens = L.tokens ++ P.tokens; rules = P.rules ++ L.rules }

abbrev pub first : {A : Type 0} → List A → Option A
first [] = None
first (a ∷ as') = Some a

-- a lexer text, and its grammar
pub record IsLexerText (bytes : List ℕ) (L : WrittenGrammar) : Type 0 where
  pub read : IsProfile (lexer_body bytes) L
  pub lexer : BeginsWith (codes "lexer") bytes

-- a parser text, and its grammar
pub record IsParserText (bytes : List ℕ) (P : WrittenGrammar) : Type 0 where
  pub read : IsProfile (parser_body bytes) P
  pub parser : BeginsWith (codes "parser") bytes

-- The text is that of this lexer grammar, or parser grammar, and of no other.
pub record IsLexerOf (bytes : List ℕ) (L : WrittenGrammar) : Type 0 where
  pub text : IsLexerText bytes L
  pub only : (other : WrittenGrammar) → IsLexerText bytes other → L ≡ other

pub record IsParserOf (bytes : List ℕ) (P : WrittenGrammar) : Type 0 where
  pub text : IsParserText bytes P
  pub only : (other : WrittenGrammar) → IsParserText bytes other → P ≡ other

-- the vocabularies that the parser text names and that aren't the lexer grammar
abbrev pub other_vocabularies : WrittenGrammar → List ℕ → List (List ℕ)
other_vocabularies L bytes = filter (λ name. not (same_text name L.name)) (vocabularies (entries_of bytes))

-- the rules that are in the wrong text: the parser rules of the lexer text, and then the lexer rules of the parser text
abbrev pub wrong_rules : WrittenGrammar → WrittenGrammar → List (List ℕ)
wrong_rules L P = map (λ (r : ParserRule). r.name) (parser_rules L.rules) ++ map (λ (r : LexerRule). r.name) (lexer_rules P.rules)

-- the literals in parser rules, in written order
abbrev pub literals : List WrittenRule → List (List ℕ)
literals rules = filter_map as_literal (all_references rules)

-- the first literal in a parser rule that names no lexer rule: it would be an implicit token
abbrev pub first_implicit : List WrittenRule → Option (List ℕ)
first_implicit rules = find (λ t. is_none (find (is_named_by t) rules)) (literals rules)

-- The two texts give this grammar.
pub record IsJoined (lexer parser : List ℕ) (G : WrittenGrammar) : Type 0 where
  pub lexer_grammar : WrittenGrammar
  pub parser_grammar : WrittenGrammar
  pub lexer_text : IsLexerText lexer lexer_grammar
  pub parser_text : IsParserText parser parser_grammar
  pub vocabulary : other_vocabularies lexer_grammar parser ≡ []
  pub rules : wrong_rules lexer_grammar parser_grammar ≡ []
  pub named : first_implicit (joined lexer_grammar parser_grammar).rules ≡ None
  pub is_joined : G ≡ joined lexer_grammar parser_grammar

-- The faults of a lexer text: its body isn't read, or its first word isn't `lexer`. Out of memory says nothing of it.
pub data IsLexerFault (bytes : List ℕ) : PairFault → Type 0 where
  lexer_text : {fault : ReadFault} → fault ≢ read.Memory ran_out → IsFaultOf (lexer_body bytes) (Err fault) → IsLexerFault bytes (LexerText fault)
  not_lexer : {L : WrittenGrammar} → IsProfile (lexer_body bytes) L → ¬ BeginsWith (codes "lexer") bytes → IsLexerFault bytes NotLexer
  memory : IsLexerFault bytes (Memory ran_out)

-- The faults of a parser text: its body isn't read, or its first word isn't `parser`.
pub data IsParserFault (bytes : List ℕ) : PairFault → Type 0 where
  parser_text : {fault : ReadFault} → fault ≢ read.Memory ran_out → IsFaultOf (parser_body bytes) (Err fault) → IsParserFault bytes (ParserText fault)
  not_parser : {P : WrittenGrammar} → IsProfile (parser_body bytes) P → ¬ BeginsWith (codes "parser") bytes → IsParserFault bytes NotParser
  memory : IsParserFault bytes (Memory ran_out)

-- The faults of two texts, each where none of the earlier ones holds: those of the lexer text,
-- those of the parser text, and those of the pair. Out of memory says nothing of them.
pub data IsPairFault (lexer parser : List ℕ) : PairFault → Type 0 where
  of_lexer : {fault : PairFault} → IsLexerFault lexer fault → IsPairFault lexer parser fault
  of_parser : {L : WrittenGrammar} {fault : PairFault} → IsLexerOf lexer L → IsParserFault parser fault → IsPairFault lexer parser fault
  -- the first vocabulary that isn't the lexer grammar
  other_vocab : {L P : WrittenGrammar} {name : List ℕ} → IsLexerOf lexer L → IsParserOf parser P → first (other_vocabularies L parser) ≡ Some name
      → IsPairFault lexer parser (OtherVocab name)
  -- the first rule that is in the wrong text
  wrong_rule : {L P : WrittenGrammar} {name : List ℕ} → IsLexerOf lexer L → IsParserOf parser P → other_vocabularies L parser ≡ [] →
      first (wrong_rules L P) ≡ Some name → IsPairFault lexer parser (WrongRule name)
  -- the first literal that would be an implicit token
  no_literal : {L P : WrittenGrammar} {literal : List ℕ} → IsLexerOf lexer L → IsParserOf parser P → other_vocabularies L parser ≡ [] → wrong_rules L P ≡ [] →
      first_implicit (joined L P).rules ≡ Some literal → IsPairFault lexer parser (NoLiteral literal)
  memory : IsPairFault lexer parser (Memory ran_out)

-- No kind of the grammar is a literal of parser rules.
abbrev pub HasNoImplicitKind : WrittenGrammar → Type 0
HasNoImplicitKind G = (kind : TokenKind) → Contains (kinds_of G) kind → kind.source ≢ Source.implicit

-- the lexer rules that make tokens, in written order: each has its number in this list as its kind
abbrev pub token_rules : WrittenGrammar → List LexerRule
token_rules L = filter (λ (r : LexerRule). not r.fragment) (lexer_rules L.rules)

-- a literal of a parser rule can name this token rule
abbrev pub is_just_rule : List ℕ → LexerRule → Bool
is_just_rule t rule = not rule.gap && is_just t rule.alts

-- A text is cut by the one grammar as by the other: into the same pieces, with the same kinds, or up to the same offset; and the same pieces are tokens.
pub record LexesAs (L G : WrittenGrammar) : Type 0 where
  pub pieces : (text : List ℕ) (pieces : List Piece) → Lexes G text pieces ↔ Lexes L text pieces
  pub stops : (text : List ℕ) (offset : ℕ) → StopsAt G text offset ↔ StopsAt L text offset
  pub tokens : (pieces : List Piece) → tokens_of G pieces ≡ tokens_of L pieces

-- Lexing is by the rules of the lexer text alone. Its grammar has no parser rule, so that its
-- kinds are its token rules, numbered from 0, and then its declared tokens.
pub record LexesByLexer (lexer : List ℕ) (G : WrittenGrammar) : Type 0 where
  pub lexer_grammar : WrittenGrammar
  pub text : IsLexerText lexer lexer_grammar
  pub only_lexer_rules : parser_rules lexer_grammar.rules ≡ []
  pub kinds : map (λ (k : TokenKind). k.name) (kinds_of G) ≡ map (λ (r : LexerRule). r.name) (token_rules lexer_grammar) ++ declared_names G
  pub lexes : LexesAs lexer_grammar G

-- Each parser rule derives what it says over the kinds of the grammar: the rules are those of the parser text, in their order. A
-- name is that of a parser rule, and else of a token rule or a declared token; a literal is the text of a token rule.
pub record RulesAreAsWritten (lexer parser : List ℕ) (G : WrittenGrammar) : Type 0 where
  pub lexer_grammar : WrittenGrammar
  pub parser_grammar : WrittenGrammar
  pub lexer_text : IsLexerText lexer lexer_grammar
  pub parser_text : IsParserText parser parser_grammar
  pub rules : parser_rules G.rules ≡ parser_rules parser_grammar.rules
  pub derives : (r : ℕ) (w : List ℕ) → RuleDerives G r w
      ↔ Derives (map (λ (rule : ParserRule). resolved_alts G rule.alts) (parser_rules parser_grammar.rules)) (Term.rule r) w
  pub numbers : (name : List ℕ) → rule_number G name ≡ rule_number parser_grammar name
  pub tokens : (name : List ℕ) → name_kind G name ≡ position (λ other. same_text other name)
      (map (λ (r : LexerRule). r.name) (token_rules lexer_grammar) ++ declared_names G)
  pub literals : (t : List ℕ) → literal_kind G t ≡ position (is_just_rule t) (token_rules lexer_grammar)
