-- What the first word that can't follow is called. `before` are the words before it, which are the first words of some text, and `current` is that word.
use Rattle.std.specs.Prelude.{ℕ, ◌≡◌, true, List, [], ◌∷◌, ◌++◌}
use Rattle.grammar_reader_words.specs.Names.{is}
use Rattle.grammar_reader_words.specs.declared.word.Word.{Word}
use Rattle.grammar_reader_words.specs.declared.word.Word.TheVariants as w
use Rattle.grammar_reader_words.specs.declared.word.Reserved.TheVariants as r
use Rattle.grammar_reader_words.specs.declared.word.Placed.{Placed}
use Rattle.grammar_reader_notation.specs.Notation.{is_eof, Begins, BeginsOf}
use Rattle.grammar_reader_notation.specs.declared.fault.What.{What}
use Rattle.grammar_reader_notation.specs.declared.fault.What.TheVariants as x
use Rattle.grammar_reader_notation.specs.declared.fault.ReadFault.{ReadFault}
use Rattle.grammar_reader_notation.specs.declared.fault.ReadFault.TheVariants as f

-- the words may follow those before
abbrev pub MayFollow : List Word → List Word → Type 0
MayFollow before words = Begins (before ++ words)

abbrev pub a_name : List ℕ
a_name = 97 ∷ []

abbrev pub a_set : List (ℕ × ℕ)
a_set = (97, 97) ∷ []

-- `tokens {..}` is a prequel; a rule that is a fragment begins with `fragment`
abbrev pub MayBeginPrequel : List Word → Type 0
MayBeginPrequel before = MayFollow before (w.Tokens ∷ [])

abbrev pub MayBeginRule : List Word → Type 0
MayBeginRule before = MayFollow before (w.Fragment ∷ [])

-- `a = 1 ;` gives an option its value
abbrev pub MayNameOption : List Word → Type 0
MayNameOption before = MayFollow before (w.Lower a_name ∷ w.Equals ∷ w.Number ∷ w.Semicolon ∷ [])

-- an element of a parser rule may begin, as `a=.`; one of a lexer rule, as `~[a]`
abbrev pub MayBeginElement : List Word → Type 0
MayBeginElement before = MayFollow before (w.Lower a_name ∷ w.Equals ∷ w.Dot ∷ [])

abbrev pub MayBeginLexElement : List Word → Type 0
MayBeginLexElement before = MayFollow before (w.Tilde ∷ w.Set a_set ∷ [])

-- the word isn't among them
abbrev pub Without : Word → List Word → Type 0
Without word [] = Unit {0}
Without word (other ∷ words) = (other ≡ word → ⊥) × Without word words

-- The words end directly after a name, with which a rule begins: `:` could follow.
pub record IsAfterName (name : Word) (before : List Word) : Type 0 where
  pub start : List Word
  pub cut : before ≡ start ++ name ∷ []
  pub names : MayFollow start (name ∷ w.Colon ∷ [])

-- The words end between `:` and `;` of a rule of that name: after the name there may be options, which hold no `:`.
pub record IsWithinRule (name : Word) (before : List Word) : Type 0 where
  pub start : List Word
  pub options : List Word
  pub part : List Word
  pub cut : before ≡ start ++ name ∷ (options ++ w.Colon ∷ part)
  pub names : MayFollow start (name ∷ w.Colon ∷ [])
  pub closed : Without w.Colon options
  pub within : Without w.Semicolon part

pub data IsAfterParserName (before : List Word) : Type 0 where
  parser_name : {n : List ℕ} → IsAfterName (w.Lower n) before → IsAfterParserName before

pub data IsWithinParserRule (before : List Word) : Type 0 where
  parser_rule : {n : List ℕ} → IsWithinRule (w.Lower n) before → IsWithinParserRule before

pub data IsWithinLexerRule (before : List Word) : Type 0 where
  lexer_rule : {n : List ℕ} → IsWithinRule (w.Upper n) before → IsWithinLexerRule before

-- The words end after `->` in its alternative.
pub record IsAfterArrow (before : List Word) : Type 0 where
  pub start : List Word
  pub part : List Word
  pub cut : before ≡ start ++ w.Arrow ∷ part
  pub same_alt : Without w.Bar part
  pub same_rule : Without w.Semicolon part

-- a suffix
pub data IsSuffix : Word → Type 0 where
  question : IsSuffix w.Question
  star : IsSuffix w.Star
  plus : IsSuffix w.Plus

-- The words end directly after a suffix.
pub data IsAfterSuffix (before : List Word) : Type 0 where
  after_suffix : (start : List Word) (word : Word) → before ≡ start ++ word ∷ [] → IsSuffix word → IsAfterSuffix before

-- The words end directly after a non-greedy loop, which `*` and `?` end; and after the one word that follows it.
pub data IsAfterLoop (before : List Word) : Type 0 where
  after_loop : (start : List Word) → before ≡ start ++ w.Star ∷ w.Question ∷ [] → IsAfterLoop before

pub data IsAfterLast (before : List Word) : Type 0 where
  after_last : (start : List Word) (word : Word) → before ≡ start ++ w.Star ∷ w.Question ∷ word ∷ [] → IsAfterLast before

-- where a prequel or a rule may begin
pub data IsOutside (before : List Word) : Type 0 where
  at_prequel : MayBeginPrequel before → IsOutside before
  at_rule : MayBeginRule before → IsOutside before

-- Where an action may be in ANTLR: `{` where an element, `|`, `;` or `->` may. What follows a non-greedy loop is an element too.
pub data TakesAction (before : List Word) : Type 0 where
  at_element : MayBeginElement before → TakesAction before
  at_lex_element : MayBeginLexElement before → TakesAction before
  at_last : IsAfterLoop before → TakesAction before
  at_bar : MayFollow before (w.Bar ∷ []) → TakesAction before
  at_semicolon : MayFollow before (w.Semicolon ∷ []) → TakesAction before
  at_arrow : MayFollow before (w.Arrow ∷ []) → TakesAction before

-- and `@` where a prequel, a rule or `:` may
pub data TakesNamedAction (before : List Word) : Type 0 where
  at_outside : IsOutside before → TakesNamedAction before
  at_colon : MayFollow before (w.Colon ∷ []) → TakesNamedAction before

-- where an argument in square brackets may be in ANTLR
pub data TakesArgument (before : List Word) : Type 0 where
  after_name : IsAfterParserName before → TakesArgument before
  in_rule : IsWithinParserRule before → TakesArgument before

-- where `->` breaks no form but a condition on commands: after elements of a lexer rule, and after what follows a non-greedy loop
pub data EndsLexAlt (before : List Word) : Type 0 where
  after_elements : MayBeginLexElement before → EndsLexAlt before
  after_last : IsAfterLast before → EndsLexAlt before

-- The rows of the table: the word that has a name of its own, and where.
pub data Fits (before : List Word) : Word → What → Type 0 where
  lexer_grammar : before ≡ [] → Fits before (w.Reserved r.Lexer) x.LexerGrammar
  parser_grammar : before ≡ [] → Fits before (w.Reserved r.Parser) x.ParserGrammar
  imported : IsOutside before → Fits before (w.Reserved r.Import) x.Import
  mode : IsOutside before → Fits before (w.Reserved r.Mode) x.Mode
  channels : IsOutside before → Fits before (w.Reserved r.Channels) x.Channels
  public : MayBeginRule before → Fits before (w.Reserved r.Public) x.Modifier
  private : MayBeginRule before → Fits before (w.Reserved r.Private) x.Modifier
  protected : MayBeginRule before → Fits before (w.Reserved r.Protected) x.Modifier
  action : TakesAction before → Fits before w.OpenBrace x.Action
  named_action : TakesNamedAction before → Fits before w.At x.Action
  argument : {ranges : List (ℕ × ℕ)} → TakesArgument before → Fits before (w.Set ranges) x.Argument
  returns : IsAfterParserName before → Fits before (w.Reserved r.Returns) x.Returns
  locals : IsAfterParserName before → Fits before (w.Reserved r.Locals) x.Locals
  throws : IsAfterParserName before → Fits before (w.Reserved r.Throws) x.Throws
  catch : MayBeginRule before → Fits before (w.Reserved r.Catch) x.Catch
  finally : MayBeginRule before → Fits before (w.Reserved r.Finally) x.Finally
  -- a word that breaks a command's form
  command : {current : Word} → IsAfterArrow before → Fits before current x.Command
  -- `->` where there may be no command
  no_command : EndsLexAlt before → Fits before w.Arrow x.Command
  -- the end of an alternative that lacks one
  lacks_before_bar : MayFollow before (w.Arrow ∷ []) → Fits before w.Bar x.Command
  lacks_at_end : MayFollow before (w.Arrow ∷ []) → Fits before w.Semicolon x.Command
  property : Fits before w.Property x.Property
  case_insensitive : {n : List ℕ} → MayNameOption before → is n "caseInsensitive" ≡ true → Fits before (w.Lower n) x.CaseInsensitive
  token_vocab : {n : List ℕ} → MayNameOption before → is n "tokenVocab" ≡ true → Fits before (w.Lower n) x.TokenVocab
  second_suffix : IsAfterSuffix before → Fits before w.Question x.NonGreedy
  -- a word that breaks the conditions on what follows a loop
  after_loop : {current : Word} → IsAfterLoop before → Fits before current x.NonGreedy
  after_last : {current : Word} → IsAfterLast before → Fits before current x.NonGreedy
  eof : {n : List ℕ} → IsWithinLexerRule before → is_eof n ≡ true → Fits before (w.Upper n) x.Eof

-- the table's order
abbrev pub table : List What
table =
    x.LexerGrammar ∷ x.ParserGrammar ∷ x.Import ∷ x.Mode ∷ x.Channels ∷ x.Modifier ∷ x.Action ∷ x.Argument ∷ x.Returns ∷ x.Locals ∷ x.Throws ∷ x.Catch
    ∷ x.Finally ∷ x.Command ∷ x.Property ∷
    x.CaseInsensitive ∷ x.TokenVocab ∷ x.NonGreedy ∷ x.Eof ∷ []

-- the first of the rows that fits
pub data FitsFirst (before : List Word) (current : Word) : List What → What → Type 0 where
  this : {what : What} {rows : List What} → Fits before current what → FitsFirst before current (what ∷ rows) what
  later : {what other : What} {rows : List What} → (Fits before current other → ⊥) → FitsFirst before current rows what
      → FitsFirst before current (other ∷ rows) what

-- It opens the 65th block, one in another: were one more allowed, it could follow.
pub data IsTooDeep (before : List Word) : Word → Type 0 where
  too_deep : BeginsOf 65 (before ++ w.Open ∷ []) → IsTooDeep before w.Open

-- the fault: too deep, or the first row that fits, or neither
pub data IsNamed (before : List Word) (current : Placed) : ReadFault → Type 0 where
  nested_too_deep : IsTooDeep before current.word → IsNamed before current (f.NestedTooDeep current.offset)
  unsupported : {what : What} → (IsTooDeep before current.word → ⊥) → FitsFirst before current.word table what
      → IsNamed before current (f.Unsupported what current.offset)
  syntax : (IsTooDeep before current.word → ⊥) → ((what : What) → Fits before current.word what → ⊥) → IsNamed before current (f.Syntax current.offset)

-- A word has one name at most.
abbrev pub NamedOnce : Type 0
NamedOnce = (before : List Word) (current : Placed) (fault other : ReadFault) → IsNamed before current fault → IsNamed before current other → fault ≡ other
