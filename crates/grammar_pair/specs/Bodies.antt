-- What is read of the two texts of a pair: each with the words that only a lexer grammar or a parser
-- grammar has replaced by spaces. Offsets are therefore those of the text.
use Rattle.std.specs.Prelude.{ℕ, ◌≢◌, ◌-◌, Bool, ◌&&◌, cond, List, [], ◌∷◌, ◌++◌, Option, Some, None, option_map, take, drop, replicate, slice_range, codes}
use Rattle.std.specs.Str.{bytes_eq, is_utf8}
use Prim.Native.String.{String}
use Rattle.grammar_reader_words.specs.Spans.{spans_of}
use Rattle.grammar_reader_words.specs.Words.{words_of}
use Rattle.grammar_reader_words.specs.declared.span.Span.{Span}
use Rattle.grammar_reader_words.specs.declared.word.Placed.{Placed}
use Rattle.grammar_reader_words.specs.declared.word.Word.{Word}
use Rattle.grammar_reader_words.specs.declared.word.Word.TheVariants as w
use Rattle.grammar_pair.specs.declared.entries.Part.{Part}
use Rattle.grammar_pair.specs.declared.entries.Part.TheVariants.{Head, Prequels, Options, Tokens, InTokens, AtEntry, InEntry, Rules}

-- the bytes of a word of the text
abbrev pub spelled : List ℕ → Span → List ℕ
spelled bytes span = slice_range bytes span.start span.end

abbrev pub is : List ℕ → String → Bool
is spelling word = bytes_eq spelling (codes word)

-- the bytes of the word are replaced by as many spaces
abbrev pub blanked : Span → List ℕ → List ℕ
blanked span bytes = take span.start bytes ++ (replicate (span.end - span.start) 32 ++ drop span.end bytes)

-- those of each of the words
abbrev pub all_blanked : List Span → List ℕ → List ℕ
all_blanked [] bytes = bytes
all_blanked (span ∷ spans) bytes = all_blanked spans (blanked span bytes)

-- a first word of this spelling
abbrev pub first_word : List ℕ → List ℕ → List Span → List Span
first_word word bytes [] = []
first_word word bytes (span ∷ spans) = cond (bytes_eq (spelled bytes span) word) (span ∷ []) []

-- the first word of the text is this one
abbrev pub BeginsWith : List ℕ → List ℕ → Type 0
BeginsWith word bytes = first_word word bytes (spans_of bytes) ≢ []

-- the name that the word is
abbrev pub name_word : Word → Option (List ℕ)
name_word (w.Upper n) = Some n
name_word (w.Lower n) = Some n
name_word _ = None

-- the name that is the first of the words
abbrev pub name_of : List Placed → Option (List ℕ)
name_of [] = None
name_of (p ∷ ps) = name_word p.word

-- the four words `tokenVocab`, `=`, a name and `;`, and the name
pub record WrittenEntry : Type 0 where
  pub keyword : Span
  pub equals : Span
  pub named : Span
  pub semicolon : Span
  pub name : List ℕ

-- the words are those of an entry, but for the name
abbrev pub are_entry : List ℕ → Span → Span → Span → Bool
are_entry bytes a b d = is (spelled bytes a) "tokenVocab" && (is (spelled bytes b) "=" && is (spelled bytes d) ";")

-- the entry of four words
abbrev pub entry_with : List ℕ → Span → Span → Span → Span → Option WrittenEntry
entry_with bytes a b c d =
    cond (are_entry bytes a b d) (option_map (λ name. record { keyword = a; equals = b; named = c; semicolon = d; name = name })
    (name_of (words_of (spelled bytes c)))) None

-- the entry that the first of the words are
abbrev pub entry_of : List ℕ → List Span → Option WrittenEntry
entry_of bytes (a ∷ b ∷ c ∷ d ∷ spans) = entry_with bytes a b c d
entry_of bytes _ = None

-- where a block or the first rule may begin
abbrev pub after_prequel : List ℕ → Part
after_prequel t = cond (is t "options") Options (cond (is t "tokens") Tokens Rules)

-- in a block of options
abbrev pub after_option : List ℕ → Part
after_option t = cond (is t "}") Prequels (cond (is t ";") AtEntry InEntry)

-- The part of a text after a word. The head ends with `;`, and after it are blocks of options and of tokens, up to the first rule.
abbrev pub after_word : Part → List ℕ → Part
after_word Head t = cond (is t ";") Prequels Head
after_word Prequels t = after_prequel t
after_word Options t = cond (is t "{") AtEntry Rules
after_word Tokens t = cond (is t "{") InTokens Rules
after_word InTokens t = cond (is t "}") Prequels InTokens
after_word AtEntry t = after_option t
after_word InEntry t = after_option t
after_word Rules t = Rules

-- an entry at the place of one
abbrev pub entry_at : Part → List ℕ → List Span → Option WrittenEntry
entry_at AtEntry bytes spans = entry_of bytes spans
entry_at _ bytes spans = None

abbrev pub put : Option WrittenEntry → List WrittenEntry → List WrittenEntry
put None entries = entries
put (Some entry) entries = entry ∷ entries

-- The entries among the words, of which the first is in this part of the text.
abbrev pub entries_from : Part → List ℕ → List Span → List WrittenEntry
entries_from part bytes [] = []
entries_from part bytes (span ∷ spans) = put (entry_at part bytes (span ∷ spans)) (entries_from (after_word part (spelled bytes span)) bytes spans)

-- the entries of a text, in each block of options before its first rule
abbrev pub entries_of : List ℕ → List WrittenEntry
entries_of bytes = entries_from Head bytes (spans_of bytes)

-- the names of the vocabularies that they name
abbrev pub vocabularies : List WrittenEntry → List (List ℕ)
vocabularies [] = []
vocabularies (entry ∷ entries) = entry.name ∷ vocabularies entries

abbrev pub words_in : List WrittenEntry → List Span
words_in [] = []
words_in (entry ∷ entries) = entry.keyword ∷ (entry.equals ∷ (entry.named ∷ (entry.semicolon ∷ words_in entries)))

-- what is read of a lexer text: a first word `lexer` is replaced
abbrev pub lexer_body : List ℕ → List ℕ
lexer_body bytes = cond (is_utf8 bytes) (all_blanked (first_word (codes "lexer") bytes (spans_of bytes)) bytes) bytes

-- what is read of a parser text: a first word `parser` is replaced, and so is each entry that names a vocabulary
abbrev pub parser_body : List ℕ → List ℕ
parser_body bytes =
    cond (is_utf8 bytes) (all_blanked (words_in (entries_of bytes)) (all_blanked (first_word (codes "parser") bytes (spans_of bytes)) bytes)) bytes
