-- Grammars as contracts see them: what is written, without where it lies in memory. Texts are lists of characters, and sets of characters lists of ranges.
use Rattle.std.specs.Prelude.{ℕ, Bool, List, [], ◌∷◌}

-- a token that `~` leaves out
pub data Reference : Type 0 where
  literal : List ℕ → Reference
  name : List ℕ → Reference

mutual
  -- a term of a parser rule as it is written, its names not yet resolved; `any` is `.`, and `but` is `~` with the tokens that it leaves out
  pub data WrittenTerm : Type 0 where
    literal : List ℕ → WrittenTerm
    name : List ℕ → WrittenTerm
    any : WrittenTerm
    but : List Reference → WrittenTerm
    block : WrittenAlts → WrittenTerm
    opt : WrittenTerm → WrittenTerm
    star : WrittenTerm → WrittenTerm
    plus : WrittenTerm → WrittenTerm
    eof : WrittenTerm

  -- terms one after another
  pub data WrittenSeq : Type 0 where
    done : WrittenSeq
    next : WrittenTerm → WrittenSeq → WrittenSeq

  -- alternatives
  pub data WrittenAlts : Type 0 where
    none : WrittenAlts
    or : WrittenSeq → WrittenAlts → WrittenAlts

mutual
  -- a term of a lexer rule; `short` is the non-greedy star of a set
  pub data LexerTerm : Type 0 where
    literal : List ℕ → LexerTerm
    set : List (ℕ × ℕ) → LexerTerm
    name : List ℕ → LexerTerm
    block : LexerAlts → LexerTerm
    opt : LexerTerm → LexerTerm
    star : LexerTerm → LexerTerm
    plus : LexerTerm → LexerTerm
    short : List (ℕ × ℕ) → LexerTerm

  -- terms one after another
  pub data LexerSeq : Type 0 where
    done : LexerSeq
    next : LexerTerm → LexerSeq → LexerSeq

  -- alternatives
  pub data LexerAlts : Type 0 where
    none : LexerAlts
    or : LexerSeq → LexerAlts → LexerAlts

pub record ParserRule : Type 0 where
  pub name : List ℕ
  pub alts : WrittenAlts

-- a lexer rule; `gap` says that a command skips or hides what it matches
pub record LexerRule : Type 0 where
  pub name : List ℕ
  pub fragment : Bool
  pub gap : Bool
  pub alts : LexerAlts

pub data WrittenRule : Type 0 where
  parser_rule : ParserRule → WrittenRule
  lexer_rule : LexerRule → WrittenRule

-- a grammar: its name, the tokens that it declares, and its rules in written order
pub record WrittenGrammar : Type 0 where
  pub name : List ℕ
  pub tokens : List (List ℕ)
  pub rules : List WrittenRule

-- where a kind comes from: a literal of a parser rule, the lexer rule at a place among all rules, or a declared token
pub data Source : Type 0 where
  implicit : Source
  written : ℕ → Source
  declared : Source

-- a kind of tokens; the name of an implicit token is its literal
pub record TokenKind : Type 0 where
  pub name : List ℕ
  pub gap : Bool
  pub source : Source

-- a grammar with its kinds, in the order of their numbers, and the place of its start rule among all rules
pub record CheckedGrammar : Type 0 where
  pub grammar : WrittenGrammar
  pub kinds : List TokenKind
  pub start : ℕ

abbrev pub written_seq : List WrittenTerm → WrittenSeq
written_seq [] = WrittenSeq.done
written_seq (t ∷ ts) = WrittenSeq.next t (written_seq ts)

abbrev pub written_alts : List (List WrittenTerm) → WrittenAlts
written_alts [] = WrittenAlts.none
written_alts (s ∷ ss) = WrittenAlts.or (written_seq s) (written_alts ss)

abbrev pub lexer_seq : List LexerTerm → LexerSeq
lexer_seq [] = LexerSeq.done
lexer_seq (t ∷ ts) = LexerSeq.next t (lexer_seq ts)

abbrev pub lexer_alts : List (List LexerTerm) → LexerAlts
lexer_alts [] = LexerAlts.none
lexer_alts (s ∷ ss) = LexerAlts.or (lexer_seq s) (lexer_alts ss)
