-- A grammar has no more rules, alternatives, declared tokens and terms than its text has words.
use Rattle.std.proofs.Common.{ℕ, suc, ◌+◌, ◌≤◌, Bool, true, false, List, [], ◌∷◌, ◌++◌, length, sum_by, arith, length-append}
use Rattle.std.proofs.lemmas.List.{length-map}
use Rattle.std.proofs.lemmas.List.Sums.{sum_by-cons}
use Rattle.grammar_tree.specs.Written.{Reference, WrittenTerm, LexerTerm, WrittenRule, WrittenGrammar, written_alts, written_seq, lexer_alts, lexer_seq}
use Rattle.grammar_tree.specs.Size.{term_size, seq_size, alts_size, lexer_term_size, lexer_seq_size, lexer_alts_size, rule_size, grammar_size}
use Rattle.grammar_reader_words.specs.Words.{words_of}
use Rattle.grammar_reader_words.specs.declared.word.Word.{Word}
use Rattle.grammar_reader_words.proofs.Lent.{words_of_few, choose}
use Rattle.grammar_reader_notation.specs.Notation.{IsPath, IsValue, IsEntries, IsOptions, MayBeOptions, IsTokens, IsPrequels, IsRefs, named, is_eof, IsSimple}
use Rattle.grammar_reader_notation.specs.Notation.{IsSuffixed, IsLabel, IsOpening, IsAltName, IsAtom, IsElements, IsAlts, IsItem, IsItems, IsCharSet}
use Rattle.grammar_reader_notation.specs.Notation.{IsLexSimple, IsLexSuffixed, IsCommand, IsLast, IsLoop, Level, IsEnding, IsLexAtom, IsLexElements, IsLexAlts}
use Rattle.grammar_reader_notation.specs.Notation.{IsRules, IsTextOf}
use Rattle.grammar_reader_notation.specs.Notation as n
use Rattle.grammar_reader_notation.specs.Reads.{IsProfile}

-- what is read without a trace is no less than what remains

path_goes : {words rest : List Word} → IsPath words rest → length rest ≤ length words
path_goes n.path_ends = omega arith
path_goes (n.path_goes_on i p) = omega (arith, path_goes p)

value_goes : {words rest : List Word} → IsValue words rest → length rest ≤ length words
value_goes (n.names i p) = omega (arith, path_goes p)
value_goes n.literal = omega arith
value_goes n.number = omega arith

entries_go : {words rest : List Word} → IsEntries words rest → length rest ≤ length words
entries_go n.entries_end = omega arith
entries_go (n.entry i m v e) = omega (arith, value_goes v, entries_go e)

options_go : {words rest : List Word} → IsOptions words rest → length rest ≤ length words
options_go (n.options e) = omega (arith, entries_go e)

may_be_options_go : {words rest : List Word} → MayBeOptions words rest → length rest ≤ length words
may_be_options_go n.no_options = omega arith
may_be_options_go (n.some_options o) = options_go o

label_goes : {words rest : List Word} → IsLabel words rest → length rest ≤ length words
label_goes n.no_label = omega arith
label_goes (n.label i) = omega arith
label_goes (n.list_label i) = omega arith

opening_goes : {words rest : List Word} → IsOpening words rest → length rest ≤ length words
opening_goes n.no_opening = omega arith
opening_goes (n.opening i v) = omega (arith, value_goes v)

alt_name_goes : {top : Bool} {words rest : List Word} → IsAltName top words rest → length rest ≤ length words
alt_name_goes n.no_name = omega arith
alt_name_goes (n.alt_name i) = omega arith

command_goes : {gap : Bool} {words rest : List Word} → IsCommand gap words rest → length rest ≤ length words
command_goes n.no_command = omega arith
command_goes (n.skip e) = omega arith
command_goes (n.channel e f) = omega arith

-- declared tokens

tokens_fit : {words rest : List Word} {ns : List (List ℕ)} → IsTokens words ns rest → length ns + length rest ≤ length words
tokens_fit n.tokens_end = omega arith
tokens_fit n.last_token = omega arith
tokens_fit (n.token t) = omega (arith, tokens_fit t)

prequels_fit : {words rest : List Word} {ns : List (List ℕ)} → IsPrequels words ns rest → length ns + length rest ≤ length words
prequels_fit n.no_prequel = omega arith
prequels_fit (n.options_first o p) = omega (arith, options_go o, prequels_fit p)
prequels_fit (n.tokens_first {ms = ms} {ns = ns} t p) = omega (arith, tokens_fit t, prequels_fit p, length-append ms ns)

-- terms and alternatives of parser rules

refs_fit : {words rest : List Word} {rs : List Reference} → IsRefs words rs rest → length rs + length rest ≤ length words
refs_fit n.refs_end = omega arith
refs_fit (n.refs_go_on i r) = omega (arith, refs_fit r)

named_fits : (n : List ℕ) → term_size (named n) ≤ 1
named_fits n = choose (λ t. term_size t ≤ 1) (is_eof n) {x = WrittenTerm.eof} {y = WrittenTerm.name n} (omega arith) (omega arith)

simple_fits : {words rest : List Word} {t : WrittenTerm} → IsSimple words t rest → term_size t + length rest ≤ length words
simple_fits n.literal = omega arith
simple_fits (n.upper {n = n}) = omega (arith, named_fits n)
simple_fits n.lower = omega arith
simple_fits n.dot = omega arith
simple_fits (n.but i) = omega arith
simple_fits (n.but_these i r) = omega (arith, refs_fit r)

suffixed_fits : {a t : WrittenTerm} {words rest : List Word} → IsSuffixed a words t rest → term_size t + length rest ≤ term_size a + length words
suffixed_fits n.bare = omega arith
suffixed_fits n.question = omega arith
suffixed_fits n.star = omega arith
suffixed_fits n.plus = omega arith

mutual
  atom_fits : {blocks_left : ℕ} {words rest : List Word} {t : WrittenTerm} → IsAtom blocks_left words t rest → term_size t + length rest ≤ length words
  atom_fits (n.simple s) = simple_fits s
  atom_fits (n.block a) = omega (arith, alts_fit a)

  elements_fit : {blocks_left : ℕ} {words rest : List Word} {ts : List WrittenTerm} → IsElements blocks_left words ts rest
      → seq_size (written_seq ts) + length rest ≤ length words
  elements_fit n.no_element = omega arith
  elements_fit (n.element l a s e) = omega (arith, label_goes l, atom_fits a, suffixed_fits s, elements_fit e)

  -- one alternative has no bar
  alts_fit : {top : Bool} {blocks_left : ℕ} {words rest : List Word} {alts : List (List WrittenTerm)} → IsAlts top blocks_left words alts rest
      → alts_size (written_alts alts) + length rest ≤ suc (length words)
  alts_fit (n.last_alt o e m) = omega (arith, opening_goes o, elements_fit e, alt_name_goes m)
  alts_fit (n.alt o e m a) = omega (arith, opening_goes o, elements_fit e, alt_name_goes m, alts_fit a)

-- terms and alternatives of lexer rules

item_shorter : {words rest : List Word} {i : List (ℕ × ℕ)} → IsItem words i rest → suc (length rest) ≤ length words
item_shorter n.item_set = omega arith
item_shorter n.item_char = omega arith
item_shorter (n.item_range h) = omega arith

items_go : {words rest : List Word} {i : List (ℕ × ℕ)} → IsItems words i rest → length rest ≤ length words
items_go n.items_end = omega arith
items_go (n.items_go_on i is') = omega (arith, item_shorter i, items_go is')

set_shorter : {words rest : List Word} {s : List (ℕ × ℕ)} → IsCharSet words s rest → suc (length rest) ≤ length words
set_shorter n.any = omega arith
set_shorter n.set = omega arith
set_shorter (n.but i) = omega (arith, item_shorter i)
set_shorter (n.but_these i is') = omega (arith, item_shorter i, items_go is')

lex_simple_fits : {words rest : List Word} {t : LexerTerm} → IsLexSimple words t rest → lexer_term_size t + length rest ≤ length words
lex_simple_fits n.literal = omega arith
lex_simple_fits (n.range h) = omega arith
lex_simple_fits (n.char_set s) = omega (arith, set_shorter s)
lex_simple_fits (n.name e) = omega arith

lex_suffixed_fits : {a t : LexerTerm} {words rest : List Word} → IsLexSuffixed a words t rest
    → lexer_term_size t + length rest ≤ lexer_term_size a + length words
lex_suffixed_fits n.bare = omega arith
lex_suffixed_fits n.question = omega arith
lex_suffixed_fits n.star = omega arith
lex_suffixed_fits n.plus = omega arith

last_fits : {words rest : List Word} {t : LexerTerm} → IsLast words t rest → lexer_term_size t + length rest ≤ length words
last_fits n.last_literal = omega arith
last_fits n.last_set = omega arith

loop_fits : {fragment : Bool} {words rest : List Word} {ts : List LexerTerm} → IsLoop fragment words ts rest
    → lexer_seq_size (lexer_seq ts) + length rest ≤ length words
loop_fits n.no_loop = omega arith
loop_fits (n.loop s t) = omega (arith, set_shorter s, last_fits t)

ending_fits : {level : Level} {words rest : List Word} {ts : List LexerTerm} → IsEnding level words ts rest
    → lexer_seq_size (lexer_seq ts) + length rest ≤ length words
ending_fits n.in_block = omega arith
ending_fits (n.at_top l c) = omega (arith, loop_fits l, command_goes c)

seq_append : (ts us : List LexerTerm) → lexer_seq_size (lexer_seq (ts ++ us)) ≤ lexer_seq_size (lexer_seq ts) + lexer_seq_size (lexer_seq us)
seq_append [] us = omega arith
seq_append (t ∷ ts) us = omega (arith, seq_append ts us)

mutual
  lex_atom_fits : {blocks_left : ℕ} {words rest : List Word} {t : LexerTerm} → IsLexAtom blocks_left words t rest
      → lexer_term_size t + length rest ≤ length words
  lex_atom_fits (n.simple s) = lex_simple_fits s
  lex_atom_fits (n.block a) = omega (arith, lex_alts_fit a)

  lex_elements_fit : {blocks_left : ℕ} {words rest : List Word} {ts : List LexerTerm} → IsLexElements blocks_left words ts rest
      → lexer_seq_size (lexer_seq ts) + length rest ≤ length words
  lex_elements_fit n.no_element = omega arith
  lex_elements_fit (n.element a s e) = omega (arith, lex_atom_fits a, lex_suffixed_fits s, lex_elements_fit e)

  -- one alternative has no bar
  lex_alts_fit : {level : Level} {blocks_left : ℕ} {words rest : List Word} {alts : List (List LexerTerm)} → IsLexAlts level blocks_left words alts rest
      → lexer_alts_size (lexer_alts alts) + length rest ≤ suc (length words)
  lex_alts_fit (n.last_alt {ts = ts} {more = more} e end) = omega (arith, lex_elements_fit e, ending_fits end, seq_append ts more)
  lex_alts_fit (n.alt {ts = ts} {more = more} e end a) = omega (arith, lex_elements_fit e, ending_fits end, seq_append ts more, lex_alts_fit a)

-- rules, and the end of the text
rules_fit : {depth : ℕ} {words : List Word} {rules : List WrittenRule} → IsRules depth words rules → suc (sum_by rule_size rules) ≤ length words
rules_fit n.end = omega arith
rules_fit (n.parser {n = name} {alts = alts} {rules = rules} o a r) =
    omega (arith, may_be_options_go o, alts_fit a, rules_fit r, sum_by-cons rule_size (n.parser_rule name alts) rules)
rules_fit (n.lexer {n = name} {gap = gap} {alts = alts} {rules = rules} o a r) =
    omega (arith, may_be_options_go o, lex_alts_fit a, rules_fit r, sum_by-cons rule_size (n.lexer_rule name false gap alts) rules)
rules_fit (n.fragment {n = name} {alts = alts} {rules = rules} o a r) =
    omega (arith, may_be_options_go o, lex_alts_fit a, rules_fit r, sum_by-cons rule_size (n.lexer_rule name true false alts) rules)

text_fits : {depth : ℕ} {words : List Word} {G : WrittenGrammar} → IsTextOf depth words G → suc (grammar_size G) ≤ length words
unfolding grammar_size
text_fits (n.text i p r) = omega (arith, prequels_fit p, rules_fit r)

-- each word but the end has a byte of its own
pub profile_fits : {bytes : List ℕ} {G : WrittenGrammar} → IsProfile bytes G → grammar_size G ≤ length bytes
profile_fits {bytes} {G} p =
    omega (arith, text_fits p.text, length-map (words_of bytes) (λ q. q.word), words_of_few bytes p.utf8)
