-- Which words are a text of the notation (ANTLR 4, without what isn't supported), and which grammar they spell, row by
-- row. `X words x rest` says: `words` begin with an X, which gives `x`, and `rest` follows it. The end of the text is
-- a word of its own; a word that is in no row, as a bad one, is in no text of the notation.
use Rattle.std.specs.Prelude.{ℕ, suc, ◌≡◌, ◌≤◌, Bool, true, false, cond, List, [], ◌∷◌, ◌++◌}
use Rattle.grammar_tree.specs.Written.{Reference, WrittenTerm, LexerTerm, WrittenRule, WrittenGrammar, written_alts, lexer_alts}
use Rattle.grammar_reader_words.specs.Names.{is}
use Rattle.grammar_reader_words.specs.declared.word.Word.{Word}
use Rattle.grammar_reader_words.specs.declared.word.Word.TheVariants.{Grammar, Fragment, Options, Tokens, Upper, Lower, Number, Literal, Set, Colon, Semicolon}
use Rattle.grammar_reader_words.specs.declared.word.Word.TheVariants.{Bar, Open, Close, Question, Star, Plus, Tilde, Dot, Dots, Arrow, Equals, PlusEquals}
use Rattle.grammar_reader_words.specs.declared.word.Word.TheVariants.{Comma, Hash, Less, Greater, OpenBrace, CloseBrace, End}
use Rattle.grammar_reader_notation.specs.Sets.{within, outside}

-- a name: upper or lower
pub data IsName : Word → List ℕ → Type 0 where
  upper : {n : List ℕ} → IsName (Upper n) n
  lower : {n : List ℕ} → IsName (Lower n) n

abbrev pub is_eof : List ℕ → Bool
is_eof n = is n "EOF"

-- value: name { "." name }, or literal, or number
pub data IsPath : List Word → List Word → Type 0 where
  path_ends : {rest : List Word} → IsPath rest rest
  path_goes_on : {w : Word} {n : List ℕ} {words rest : List Word} → IsName w n → IsPath words rest → IsPath (Dot ∷ w ∷ words) rest

pub data IsValue : List Word → List Word → Type 0 where
  names : {w : Word} {n : List ℕ} {words rest : List Word} → IsName w n → IsPath words rest → IsValue (w ∷ words) rest
  literal : {n : List ℕ} {rest : List Word} → IsValue (Literal n ∷ rest) rest
  number : {rest : List Word} → IsValue (Number ∷ rest) rest

-- no option is named `caseInsensitive` or `tokenVocab`
abbrev pub may_name_option : List ℕ → Bool
may_name_option n = cond (is n "caseInsensitive") false (cond (is n "tokenVocab") false true)

-- options: "options" "{" { name "=" value ";" } "}"
pub data IsEntries : List Word → List Word → Type 0 where
  entries_end : {rest : List Word} → IsEntries (CloseBrace ∷ rest) rest
  entry : {w : Word} {n : List ℕ} {words next rest : List Word} →
      IsName w n → may_name_option n ≡ true → IsValue words (Semicolon ∷ next) → IsEntries next rest → IsEntries (w ∷ Equals ∷ words) rest

pub data IsOptions : List Word → List Word → Type 0 where
  options : {words rest : List Word} → IsEntries words rest → IsOptions (Options ∷ OpenBrace ∷ words) rest

-- [ options ]
pub data MayBeOptions : List Word → List Word → Type 0 where
  no_options : {rest : List Word} → MayBeOptions rest rest
  some_options : {words rest : List Word} → IsOptions words rest → MayBeOptions words rest

-- [ upper { "," upper } [ "," ] ] "}"
pub data IsTokens : List Word → List (List ℕ) → List Word → Type 0 where
  tokens_end : {rest : List Word} → IsTokens (CloseBrace ∷ rest) [] rest
  last_token : {n : List ℕ} {rest : List Word} → IsTokens (Upper n ∷ CloseBrace ∷ rest) (n ∷ []) rest
  token : {n : List ℕ} {words rest : List Word} {ns : List (List ℕ)} → IsTokens words ns rest → IsTokens (Upper n ∷ Comma ∷ words) (n ∷ ns) rest

-- { prequel }: the tokens that they declare
pub data IsPrequels : List Word → List (List ℕ) → List Word → Type 0 where
  no_prequel : {rest : List Word} → IsPrequels rest [] rest
  options_first : {words next rest : List Word} {ns : List (List ℕ)} → IsOptions words next → IsPrequels next ns rest → IsPrequels words ns rest
  tokens_first : {words next rest : List Word} {ms ns : List (List ℕ)} → IsTokens words ms next → IsPrequels next ns rest
      → IsPrequels (Tokens ∷ OpenBrace ∷ words) (ms ++ ns) rest

-- ref: literal, or upper other than `EOF`
pub data IsRef : Word → Reference → Type 0 where
  ref_literal : {n : List ℕ} → IsRef (Literal n) (Reference.literal n)
  ref_name : {n : List ℕ} → is_eof n ≡ false → IsRef (Upper n) (Reference.name n)

-- { "|" ref } ")"
pub data IsRefs : List Word → List Reference → List Word → Type 0 where
  refs_end : {rest : List Word} → IsRefs (Close ∷ rest) [] rest
  refs_go_on : {w : Word} {r : Reference} {words rest : List Word} {rs : List Reference} → IsRef w r → IsRefs words rs rest
      → IsRefs (Bar ∷ w ∷ words) (r ∷ rs) rest

-- `EOF` is the end of input
abbrev pub named : List ℕ → WrittenTerm
named n = cond (is_eof n) WrittenTerm.eof (WrittenTerm.name n)

-- atom, but for blocks
pub data IsSimple : List Word → WrittenTerm → List Word → Type 0 where
  literal : {n : List ℕ} {rest : List Word} → IsSimple (Literal n ∷ rest) (WrittenTerm.literal n) rest
  upper : {n : List ℕ} {rest : List Word} → IsSimple (Upper n ∷ rest) (named n) rest
  lower : {n : List ℕ} {rest : List Word} → IsSimple (Lower n ∷ rest) (WrittenTerm.name n) rest
  dot : {rest : List Word} → IsSimple (Dot ∷ rest) WrittenTerm.any rest
  but : {w : Word} {r : Reference} {rest : List Word} → IsRef w r → IsSimple (Tilde ∷ w ∷ rest) (WrittenTerm.but (r ∷ [])) rest
  but_these : {w : Word} {r : Reference} {words rest : List Word} {rs : List Reference} →
      IsRef w r → IsRefs words rs rest → IsSimple (Tilde ∷ Open ∷ w ∷ words) (WrittenTerm.but (r ∷ rs)) rest

-- [ "?" or "*" or "+" ]
pub data IsSuffixed (t : WrittenTerm) : List Word → WrittenTerm → List Word → Type 0 where
  bare : {rest : List Word} → IsSuffixed t rest t rest
  question : {rest : List Word} → IsSuffixed t (Question ∷ rest) (WrittenTerm.opt t) rest
  star : {rest : List Word} → IsSuffixed t (Star ∷ rest) (WrittenTerm.star t) rest
  plus : {rest : List Word} → IsSuffixed t (Plus ∷ rest) (WrittenTerm.plus t) rest

-- [ name "=" or name "+=" ]
pub data IsLabel : List Word → List Word → Type 0 where
  no_label : {rest : List Word} → IsLabel rest rest
  label : {w : Word} {n : List ℕ} {rest : List Word} → IsName w n → IsLabel (w ∷ Equals ∷ rest) rest
  list_label : {w : Word} {n : List ℕ} {rest : List Word} → IsName w n → IsLabel (w ∷ PlusEquals ∷ rest) rest

-- [ "<" name "=" value ">" ]
pub data IsOpening : List Word → List Word → Type 0 where
  no_opening : {rest : List Word} → IsOpening rest rest
  opening : {w : Word} {n : List ℕ} {words rest : List Word} → IsName w n → IsValue words (Greater ∷ rest) → IsOpening (Less ∷ w ∷ Equals ∷ words) rest

-- [ "#" name ], which only top-level alternatives have
pub data IsAltName : Bool → List Word → List Word → Type 0 where
  no_name : {top : Bool} {rest : List Word} → IsAltName top rest rest
  alt_name : {w : Word} {n : List ℕ} {rest : List Word} → IsName w n → IsAltName true (Hash ∷ w ∷ rest) rest

-- The number is how many more blocks may be open, one in another. `top` says that the alternatives are those of the rule itself.
mutual
  pub data IsAtom : ℕ → List Word → WrittenTerm → List Word → Type 0 where
    simple : {blocks_left : ℕ} {words rest : List Word} {t : WrittenTerm} → IsSimple words t rest → IsAtom blocks_left words t rest
    block : {blocks_left : ℕ} {words rest : List Word} {alts : List (List WrittenTerm)} →
        IsAlts false blocks_left words alts (Close ∷ rest) → IsAtom (suc blocks_left) (Open ∷ words) (WrittenTerm.block (written_alts alts)) rest

  -- { element }
  pub data IsElements : ℕ → List Word → List WrittenTerm → List Word → Type 0 where
    no_element : {blocks_left : ℕ} {rest : List Word} → IsElements blocks_left rest [] rest
    element : {blocks_left : ℕ} {words labelled after next rest : List Word} {a t : WrittenTerm} {ts : List WrittenTerm} →
        IsLabel words labelled → IsAtom blocks_left labelled a after → IsSuffixed a after t next → IsElements blocks_left next ts rest
        → IsElements blocks_left words (t ∷ ts) rest

  -- alt { "|" alt }
  pub data IsAlts : Bool → ℕ → List Word → List (List WrittenTerm) → List Word → Type 0 where
    last_alt : {top : Bool} {blocks_left : ℕ} {words opened after rest : List Word} {ts : List WrittenTerm} →
        IsOpening words opened → IsElements blocks_left opened ts after → IsAltName top after rest → IsAlts top blocks_left words (ts ∷ []) rest
    alt : {top : Bool} {blocks_left : ℕ} {words opened after next rest : List Word} {ts : List WrittenTerm} {alts : List (List WrittenTerm)} →
        IsOpening words opened → IsElements blocks_left opened ts after → IsAltName top after (Bar ∷ next) → IsAlts top blocks_left next alts rest
        → IsAlts top blocks_left words (ts ∷ alts) rest

-- item: set, or literal of one character, or literal ".." literal. A range's literals have one character each, the first not greater than the second.
pub data IsItem : List Word → List (ℕ × ℕ) → List Word → Type 0 where
  item_set : {ranges : List (ℕ × ℕ)} {rest : List Word} → IsItem (Set ranges ∷ rest) ranges rest
  item_char : {c : ℕ} {rest : List Word} → IsItem (Literal (c ∷ []) ∷ rest) ((c, c) ∷ []) rest
  item_range : {a b : ℕ} {rest : List Word} → a ≤ b → IsItem (Literal (a ∷ []) ∷ Dots ∷ Literal (b ∷ []) ∷ rest) ((a, b) ∷ []) rest

-- { "|" item } ")"
pub data IsItems : List Word → List (ℕ × ℕ) → List Word → Type 0 where
  items_end : {rest : List Word} → IsItems (Close ∷ rest) [] rest
  items_go_on : {words next rest : List Word} {i is' : List (ℕ × ℕ)} → IsItem words i next → IsItems next is' rest → IsItems (Bar ∷ words) (i ++ is') rest

-- what may be a non-greedy loop's operand: ".", or set, or "~" item, or "~" "(" item { "|" item } ")"; the characters that it matches
pub data IsCharSet : List Word → List (ℕ × ℕ) → List Word → Type 0 where
  any : {rest : List Word} → IsCharSet (Dot ∷ rest) (outside []) rest
  set : {ranges : List (ℕ × ℕ)} {rest : List Word} → IsCharSet (Set ranges ∷ rest) (within ranges) rest
  but : {words rest : List Word} {i : List (ℕ × ℕ)} → IsItem words i rest → IsCharSet (Tilde ∷ words) (outside i) rest
  but_these : {words next rest : List Word} {i is' : List (ℕ × ℕ)} → IsItem words i next → IsItems next is' rest
      → IsCharSet (Tilde ∷ Open ∷ words) (outside (i ++ is')) rest

-- lexatom, but for blocks
pub data IsLexSimple : List Word → LexerTerm → List Word → Type 0 where
  literal : {n : List ℕ} {rest : List Word} → IsLexSimple (Literal n ∷ rest) (LexerTerm.literal n) rest
  range : {a b : ℕ} {rest : List Word} → a ≤ b → IsLexSimple (Literal (a ∷ []) ∷ Dots ∷ Literal (b ∷ []) ∷ rest) (LexerTerm.set (within ((a, b) ∷ []))) rest
  char_set : {words rest : List Word} {s : List (ℕ × ℕ)} → IsCharSet words s rest → IsLexSimple words (LexerTerm.set s) rest
  name : {n : List ℕ} {rest : List Word} → is_eof n ≡ false → IsLexSimple (Upper n ∷ rest) (LexerTerm.name n) rest

pub data IsLexSuffixed (t : LexerTerm) : List Word → LexerTerm → List Word → Type 0 where
  bare : {rest : List Word} → IsLexSuffixed t rest t rest
  question : {rest : List Word} → IsLexSuffixed t (Question ∷ rest) (LexerTerm.opt t) rest
  star : {rest : List Word} → IsLexSuffixed t (Star ∷ rest) (LexerTerm.star t) rest
  plus : {rest : List Word} → IsLexSuffixed t (Plus ∷ rest) (LexerTerm.plus t) rest

-- command: "skip", or "channel" "(" "HIDDEN" ")"; `gap` says that there is one
pub data IsCommand : Bool → List Word → List Word → Type 0 where
  no_command : {rest : List Word} → IsCommand false rest rest
  skip : {n : List ℕ} {rest : List Word} → is n "skip" ≡ true → IsCommand true (Arrow ∷ Lower n ∷ rest) rest
  channel : {n m : List ℕ} {rest : List Word} → is n "channel" ≡ true → is m "HIDDEN" ≡ true
      → IsCommand true (Arrow ∷ Lower n ∷ Open ∷ Upper m ∷ Close ∷ rest) rest

-- what follows a non-greedy loop and ends its alternative: one literal or one set, without suffix
pub data IsLast : List Word → LexerTerm → List Word → Type 0 where
  last_literal : {n : List ℕ} {rest : List Word} → IsLast (Literal n ∷ rest) (LexerTerm.literal n) rest
  last_set : {ranges : List (ℕ × ℕ)} {rest : List Word} → IsLast (Set ranges ∷ rest) (LexerTerm.set (within ranges)) rest

-- [ a non-greedy loop and what follows it ]: in no fragment, and, since it is at the end, at most once
pub data IsLoop : Bool → List Word → List LexerTerm → List Word → Type 0 where
  no_loop : {fragment : Bool} {rest : List Word} → IsLoop fragment rest [] rest
  loop : {words next rest : List Word} {s : List (ℕ × ℕ)} {t : LexerTerm} →
      IsCharSet words s (Star ∷ Question ∷ next) → IsLast next t rest → IsLoop false words (LexerTerm.short s ∷ t ∷ []) rest

-- alternatives in a block, or those of a lexer rule itself: whether it is a fragment, and whether they have commands
pub data Level : Type 0 where
  inner : Level
  top : (fragment gap : Bool) → Level

-- the end of an alternative: in a block nothing
pub data IsEnding : Level → List Word → List LexerTerm → List Word → Type 0 where
  in_block : {rest : List Word} → IsEnding inner rest [] rest
  at_top : {fragment gap : Bool} {words next rest : List Word} {ts : List LexerTerm} →
      IsLoop fragment words ts next → IsCommand gap next rest → IsEnding (top fragment gap) words ts rest

mutual
  pub data IsLexAtom : ℕ → List Word → LexerTerm → List Word → Type 0 where
    simple : {blocks_left : ℕ} {words rest : List Word} {t : LexerTerm} → IsLexSimple words t rest → IsLexAtom blocks_left words t rest
    block : {blocks_left : ℕ} {words rest : List Word} {alts : List (List LexerTerm)} →
        IsLexAlts inner blocks_left words alts (Close ∷ rest) → IsLexAtom (suc blocks_left) (Open ∷ words) (LexerTerm.block (lexer_alts alts)) rest

  -- { lexelement }, but for a non-greedy loop
  pub data IsLexElements : ℕ → List Word → List LexerTerm → List Word → Type 0 where
    no_element : {blocks_left : ℕ} {rest : List Word} → IsLexElements blocks_left rest [] rest
    element : {blocks_left : ℕ} {words after next rest : List Word} {a t : LexerTerm} {ts : List LexerTerm} →
        IsLexAtom blocks_left words a after → IsLexSuffixed a after t next → IsLexElements blocks_left next ts rest
        → IsLexElements blocks_left words (t ∷ ts) rest

  -- lexalt { "|" lexalt }: each of a rule's alternatives has a command, or none has
  pub data IsLexAlts : Level → ℕ → List Word → List (List LexerTerm) → List Word → Type 0 where
    last_alt : {level : Level} {blocks_left : ℕ} {words after rest : List Word} {ts more : List LexerTerm} →
        IsLexElements blocks_left words ts after → IsEnding level after more rest → IsLexAlts level blocks_left words ((ts ++ more) ∷ []) rest
    alt : {level : Level} {blocks_left : ℕ} {words after next rest : List Word} {ts more : List LexerTerm} {alts : List (List LexerTerm)} →
        IsLexElements blocks_left words ts after → IsEnding level after more (Bar ∷ next) → IsLexAlts level blocks_left next alts rest →
        IsLexAlts level blocks_left words ((ts ++ more) ∷ alts) rest

abbrev pub parser_rule : List ℕ → List (List WrittenTerm) → WrittenRule
parser_rule n alts = WrittenRule.parser_rule (record { name = n; alts = written_alts alts })

abbrev pub lexer_rule : List ℕ → Bool → Bool → List (List LexerTerm) → WrittenRule
lexer_rule n fragment gap alts = WrittenRule.lexer_rule (record { name = n; fragment = fragment; gap = gap; alts = lexer_alts alts })

-- { rule } and the end. The number is how deep blocks may be nested. A fragment has no command.
pub data IsRules (depth : ℕ) : List Word → List WrittenRule → Type 0 where
  end : IsRules depth (End ∷ []) []
  parser : {n : List ℕ} {words body next : List Word} {alts : List (List WrittenTerm)} {rules : List WrittenRule} →
      MayBeOptions words (Colon ∷ body) → IsAlts true depth body alts (Semicolon ∷ next) → IsRules depth next rules →
      IsRules depth (Lower n ∷ words) (parser_rule n alts ∷ rules)
  lexer : {n : List ℕ} {gap : Bool} {words body next : List Word} {alts : List (List LexerTerm)} {rules : List WrittenRule} →
      MayBeOptions words (Colon ∷ body) → IsLexAlts (top false gap) depth body alts (Semicolon ∷ next) → IsRules depth next rules →
      IsRules depth (Upper n ∷ words) (lexer_rule n false gap alts ∷ rules)
  fragment : {n : List ℕ} {words body next : List Word} {alts : List (List LexerTerm)} {rules : List WrittenRule} →
      MayBeOptions words (Colon ∷ body) → IsLexAlts (top true false) depth body alts (Semicolon ∷ next) → IsRules depth next rules →
      IsRules depth (Fragment ∷ Upper n ∷ words) (lexer_rule n true false alts ∷ rules)

-- text: "grammar" name ";" { prequel } { rule } and the end
pub data IsTextOf (depth : ℕ) : List Word → WrittenGrammar → Type 0 where
  text : {w : Word} {n : List ℕ} {words next : List Word} {ns : List (List ℕ)} {rules : List WrittenRule} →
      IsName w n → IsPrequels words ns next → IsRules depth next rules →
      IsTextOf depth (Grammar ∷ w ∷ Semicolon ∷ words) (record { name = n; tokens = ns; rules = rules })

-- the words are the first words of some text
abbrev pub BeginsOf : ℕ → List Word → Type 0
BeginsOf depth words = (rest : List Word) × (G : WrittenGrammar) × IsTextOf depth (words ++ rest) G

-- Blocks are nested at most 64 deep.
abbrev pub IsText : List Word → WrittenGrammar → Type 0
IsText = IsTextOf 64

abbrev pub Begins : List Word → Type 0
Begins = BeginsOf 64
