-- The tokens of a text as a plain function, which tries all cuts.
-- In a well-formed grammar it gives what the relations say: how texts are matched, and how they are cut.
use Rattle.std.specs.Prelude.{ℕ, zero, suc, Bool, true, false, ◌&&◌, ◌||◌, not, List, [], ◌∷◌, Option, Some, None, option_map, slice_get, length}
use Rattle.std.specs.Str.{bytes_eq}
use Rattle.grammar_tree.specs.Chars.{has}
use Rattle.grammar_tree.specs.Written.{LexerTerm, LexerSeq, LexerAlts, LexerRule, WrittenRule, WrittenGrammar, Source, TokenKind}
use Rattle.grammar_tree.specs.Kinds.{kinds_of, lexer_rules, same_text}
use Rattle.grammar_tree.specs.Matches.{is_short}
use Rattle.grammar_tree.specs.Lexes.{Piece, PlacedToken, placed_tokens}

-- whether a text is cut in two, so that p holds of the first part and q of the second
abbrev pub is_cut : (List ℕ → Bool) → (List ℕ → Bool) → List ℕ → Bool
is_cut p q [] = p [] && q []
is_cut p q (c ∷ w) = (p [] && q (c ∷ w)) || is_cut (λ u. p (c ∷ u)) q w

-- whether a text of at most n characters is cut into parts of at least one character, so that p holds of each
abbrev pub is_cut_within : ℕ → (List ℕ → Bool) → List ℕ → Bool
is_cut_within n p [] = true
is_cut_within zero p (c ∷ w) = false
is_cut_within (suc n) p (c ∷ w) = is_cut (λ u. p (c ∷ u)) (is_cut_within n p) w

-- the same of any text
abbrev pub is_cut_up : (List ℕ → Bool) → List ℕ → Bool
is_cut_up p w = is_cut_within (length w) p w

-- whether the text is one character of the set
abbrev pub is_one_of : List (ℕ × ℕ) → List ℕ → Bool
is_one_of set [] = false
is_one_of set (c ∷ []) = has set c
is_one_of set (c ∷ (d ∷ w)) = false

-- there is a character
abbrev pub is_filled : List ℕ → Bool
is_filled [] = false
is_filled (c ∷ w) = true

-- Whether a term matches a text, greedily, where `named` says of a name and a text whether the name's rule does.
abbrev mutual
  pub term_matches : (List ℕ → List ℕ → Bool) → LexerTerm → List ℕ → Bool
  term_matches named (LexerTerm.literal text) w = bytes_eq w text
  term_matches named (LexerTerm.set set) w = is_one_of set w
  term_matches named (LexerTerm.name n) w = named n w
  term_matches named (LexerTerm.block a) w = some_match named a w
  term_matches named (LexerTerm.opt t) w = bytes_eq w [] || term_matches named t w
  term_matches named (LexerTerm.star t) w = is_cut_up (term_matches named t) w
  term_matches named (LexerTerm.plus t) w = is_cut (term_matches named t) (is_cut_up (term_matches named t)) w
  term_matches named (LexerTerm.short set) w = is_cut_up (is_one_of set) w

  pub all_match : (List ℕ → List ℕ → Bool) → LexerSeq → List ℕ → Bool
  all_match named LexerSeq.done w = bytes_eq w []
  all_match named (LexerSeq.next t s) w = is_cut (term_matches named t) (all_match named s) w

  pub some_match : (List ℕ → List ℕ → Bool) → LexerAlts → List ℕ → Bool
  some_match named LexerAlts.none w = false
  some_match named (LexerAlts.or s a) w = all_match named s w || some_match named a w

-- whether the test holds of the alternatives of a rule of this name
abbrev pub has_rule : (LexerAlts → Bool) → List LexerRule → List ℕ → Bool
has_rule test [] name = false
has_rule test (r ∷ rules) name = (same_text r.name name && test r.alts) || has_rule test rules name

-- whether the name's rule matches a text, where one name leads to another at most n times
abbrev pub name_matches : ℕ → List LexerRule → List ℕ → List ℕ → Bool
name_matches zero rules name w = false
name_matches (suc n) rules name w = has_rule (λ a. some_match (name_matches n rules) a w) rules name

-- whether an alternative of a rule matches a text: a non-greedy one matches no proper prefix of it
abbrev pub alternative_matches : (List ℕ → List ℕ → Bool) → LexerSeq → List ℕ → Bool
alternative_matches named s w = all_match named s w && not (is_short s && is_cut (all_match named s) is_filled w)

-- whether one of these alternatives of a rule does
abbrev pub rule_matches : (List ℕ → List ℕ → Bool) → LexerAlts → List ℕ → Bool
rule_matches named LexerAlts.none w = false
rule_matches named (LexerAlts.or s a) w = alternative_matches named s w || rule_matches named a w

-- whether the rule of a grammar matches the text, if it is a lexer rule
abbrev pub lexer_rule_matches : List LexerRule → List ℕ → Option WrittenRule → Bool
lexer_rule_matches rules w None = false
lexer_rule_matches rules w (Some (WrittenRule.parser_rule r)) = false
lexer_rule_matches rules w (Some (WrittenRule.lexer_rule r)) = rule_matches (name_matches (length rules) rules) r.alts w

-- whether a kind of this source and name matches the text
abbrev pub source_matches : WrittenGrammar → Source → List ℕ → List ℕ → Bool
source_matches G Source.implicit name w = bytes_eq w name
source_matches G (Source.written place) name w = lexer_rule_matches (lexer_rules G.rules) w (slice_get G.rules place)
source_matches G Source.declared name w = false

-- whether the kind does, if there is one
abbrev pub kind_matches : WrittenGrammar → List ℕ → Option TokenKind → Bool
kind_matches G w None = false
kind_matches G w (Some kind) = source_matches G kind.source kind.name w

-- the first answer, or this number if it passes
abbrev pub or_this : Option ℕ → ℕ → Bool → Option ℕ
or_this (Some k) n passes = Some k
or_this None n true = Some n
or_this None n false = None

-- the least number below n that passes
abbrev pub least_below : (ℕ → Bool) → ℕ → Option ℕ
least_below p zero = None
least_below p (suc n) = or_this (least_below p n) n (p n)

-- the least kind that matches the text
abbrev pub least_kind : WrittenGrammar → List ℕ → Option ℕ
least_kind G w = least_below (λ k. kind_matches G w (slice_get (kinds_of G) k)) (length (kinds_of G))

-- a beginning of a text, its kind, and what comes after it
pub record Front : Type 0 where
  pub kind : ℕ
  pub piece : List ℕ
  pub rest : List ℕ

-- the empty beginning, where that has a kind
abbrev pub empty_front : Option ℕ → List ℕ → Option Front
empty_front None text = None
empty_front (Some kind) text = Some (record { kind = kind; piece = []; rest = text })

-- the beginning with this character before it
abbrev pub with_first : ℕ → Front → Front
with_first c front = record { kind = front.kind; piece = c ∷ front.piece; rest = front.rest }

-- the longer beginning, if there is one, with this character before it; else the empty one
abbrev pub or_empty : ℕ → List ℕ → Option Front → Option ℕ → Option Front
or_empty c text (Some front) kind = Some (with_first c front)
or_empty c text None kind = empty_front kind (c ∷ text)

-- the longest beginning that has a kind
abbrev pub longest_front : (List ℕ → Option ℕ) → List ℕ → Option Front
longest_front kind_of [] = empty_front (kind_of []) []
longest_front kind_of (c ∷ text) = or_empty c text (longest_front (λ u. kind_of (c ∷ u)) text) (kind_of [])

-- the next piece of a text that begins with this character: the longest match of at least one character, and that of the least kind
abbrev pub next_piece : WrittenGrammar → ℕ → List ℕ → Option Front
next_piece G c text = option_map (with_first c) (longest_front (λ u. least_kind G (c ∷ u)) text)

-- a piece, and the pieces of what comes after it
abbrev pub pieces_from : Option Front → (List ℕ → Option (List Piece)) → Option (List Piece)
pieces_from None later = None
pieces_from (Some front) later = option_map (λ pieces. record { kind = front.kind; text = front.piece } ∷ pieces) (later front.rest)

-- the pieces of a text of at most n characters; none where its reading stops
abbrev pub pieces_within : ℕ → WrittenGrammar → List ℕ → Option (List Piece)
pieces_within n G [] = Some []
pieces_within zero G (c ∷ text) = None
pieces_within (suc n) G (c ∷ text) = pieces_from (next_piece G c text) (pieces_within n G)

-- the tokens of the text; none where its reading stops
unfoldable pub tokens_in : WrittenGrammar → List ℕ → Option (List PlacedToken)
tokens_in G text = option_map (placed_tokens G 0) (pieces_within (length text) G text)
