-- Names, and the words that are no names.
use Rattle.std.specs.Prelude.{ℕ, Bool, ◌||◌, ◌==◌, cond, List, codes}
use Rattle.std.specs.Char.{is_ascii_uppercase, is_ascii_alphanumeric}
use Prim.Native.String.{String}
use Rattle.std.specs.Str.{bytes_eq, chars}
use Rattle.grammar_reader_words.specs.declared.word.Word.{Word}
use Rattle.grammar_reader_words.specs.declared.word.Word.TheVariants as w
use Rattle.grammar_reader_words.specs.declared.word.Reserved.TheVariants as r

-- a character within a name: an ASCII letter, a digit, or `_`
abbrev pub is_part : ℕ → Bool
is_part c = is_ascii_alphanumeric c || c == 95

-- the name is the word
abbrev pub is : List ℕ → String → Bool
is n word = bytes_eq n (chars (codes word))

-- a name that begins with a lower-case letter, unless it is reserved
abbrev pub lower_word : List ℕ → Word
lower_word n =
    cond (is n "grammar") w.Grammar (
    cond (is n "fragment") w.Fragment (
    cond (is n "lexer") (w.Reserved r.Lexer) (
    cond (is n "parser") (w.Reserved r.Parser) (
    cond (is n "import") (w.Reserved r.Import) (
    cond (is n "mode") (w.Reserved r.Mode) (
    cond (is n "returns") (w.Reserved r.Returns) (
    cond (is n "locals") (w.Reserved r.Locals) (
    cond (is n "throws") (w.Reserved r.Throws) (
    cond (is n "catch") (w.Reserved r.Catch) (
    cond (is n "finally") (w.Reserved r.Finally) (
    cond (is n "public") (w.Reserved r.Public) (
    cond (is n "private") (w.Reserved r.Private) (
    cond (is n "protected") (w.Reserved r.Protected) (
    w.Lower n))))))))))))))

-- the name whose first letter is `c`
abbrev pub name_word : ℕ → List ℕ → Word
name_word c n = cond (is_ascii_uppercase c) (w.Upper n) (lower_word n)

-- the names that are other words where `{` follows
abbrev pub word_before_brace : List ℕ → Word
word_before_brace n =
    cond (is n "options") w.Options (
    cond (is n "tokens") w.Tokens (
    cond (is n "channels") (w.Reserved r.Channels) (
    w.Lower n)))
