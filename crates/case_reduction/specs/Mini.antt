-- The grammar Mini, as it is written.
use Rattle.std.specs.Prelude.{ℕ, Bool, true, false, List, [], ◌∷◌, map, codes}
use Rattle.grammar_tree.specs.Written.{WrittenTerm, LexerTerm, LexerRule, WrittenRule, WrittenGrammar, written_alts, lexer_alts}

abbrev rule : List ℕ → List (List WrittenTerm) → WrittenRule
rule name alts = WrittenRule.parser_rule (record { name = name; alts = written_alts alts })

-- a lexer rule; the flag says that it is skipped or hidden
abbrev token : List ℕ → Bool → List LexerTerm → LexerRule
token name gap terms = record { name = name; fragment = false; gap = gap; alts = lexer_alts (terms ∷ []) }

abbrev literal : List ℕ → WrittenTerm
literal = WrittenTerm.literal

abbrev name : List ℕ → WrittenTerm
name = WrittenTerm.name

abbrev block : List (List WrittenTerm) → WrittenTerm
block alts = WrittenTerm.block (written_alts alts)

abbrev expr : WrittenTerm
expr = name (codes "expr")

abbrev id : WrittenTerm
id = name (codes "ID")

-- file : func* EOF ;
abbrev file_rule : WrittenRule
file_rule = rule (codes "file") ((WrittenTerm.star (name (codes "func")) ∷ WrittenTerm.eof ∷ []) ∷ [])

-- func : type ID '(' params? ')' block ;
abbrev func_rule : WrittenRule
func_rule =
    rule (codes "func")
    ((name (codes "type") ∷ id ∷ literal (codes "(") ∷ WrittenTerm.opt (name (codes "params")) ∷ literal (codes ")") ∷ name (codes "block") ∷ []) ∷ [])

-- params : type ID (',' type ID)* ;
abbrev params_rule : WrittenRule
params_rule =
    rule (codes "params") ((name (codes "type") ∷ id ∷ WrittenTerm.star (block ((literal (codes ",") ∷ name (codes "type") ∷ id ∷ []) ∷ [])) ∷ []) ∷ [])

-- type : 'int' | 'char' ;
abbrev type_rule : WrittenRule
type_rule = rule (codes "type") ((literal (codes "int") ∷ []) ∷ (literal (codes "char") ∷ []) ∷ [])

-- block : '{' stmt* '}' ;
abbrev block_rule : WrittenRule
block_rule = rule (codes "block") ((literal (codes "{") ∷ WrittenTerm.star (name (codes "stmt")) ∷ literal (codes "}") ∷ []) ∷ [])

abbrev stmt_rule : WrittenRule
stmt_rule =
    rule (codes "stmt") (
    -- type ID ('=' expr)? ';'
    (name (codes "type") ∷ id ∷ WrittenTerm.opt (block ((literal (codes "=") ∷ expr ∷ []) ∷ [])) ∷ literal (codes ";") ∷ [])
    -- ID '=' expr ';'
    ∷ (id ∷ literal (codes "=") ∷ expr ∷ literal (codes ";") ∷ [])
    -- 'if' '(' expr ')' block ('else' block)?
    ∷ (literal (codes "if") ∷ literal (codes "(") ∷ expr ∷ literal (codes ")") ∷ name (codes "block") ∷ WrittenTerm.opt
    (block ((literal (codes "else") ∷ name (codes "block") ∷ []) ∷ [])) ∷ [])
    -- 'while' '(' expr ')' block
    ∷ (literal (codes "while") ∷ literal (codes "(") ∷ expr ∷ literal (codes ")") ∷ name (codes "block") ∷ [])
    -- 'return' expr? ';'
    ∷ (literal (codes "return") ∷ WrittenTerm.opt expr ∷ literal (codes ";") ∷ [])
    -- block
    ∷ (name (codes "block") ∷ [])
    ∷ [])

abbrev expr_rule : WrittenRule
expr_rule =
    rule (codes "expr") (
    -- expr ('*' | '/') expr
    (expr ∷ block ((literal (codes "*") ∷ []) ∷ (literal (codes "/") ∷ []) ∷ []) ∷ expr ∷ [])
    -- expr ('+' | '-') expr
    ∷ (expr ∷ block ((literal (codes "+") ∷ []) ∷ (literal (codes "-") ∷ []) ∷ []) ∷ expr ∷ [])
    -- ID '(' (expr (',' expr)*)? ')'
    ∷ (id ∷ literal (codes "(") ∷ WrittenTerm.opt (block ((expr ∷ WrittenTerm.star (block ((literal (codes ",") ∷ expr ∷ []) ∷ [])) ∷ []) ∷ [])) ∷ literal
    (codes ")") ∷ [])
    -- '(' expr ')'
    ∷ (literal (codes "(") ∷ expr ∷ literal (codes ")") ∷ [])
    ∷ (id ∷ [])
    ∷ (name (codes "INT") ∷ [])
    ∷ (name (codes "STR") ∷ [])
    ∷ [])

-- sets of characters, as ranges: letters and `_`; these and digits; digits; blanks
abbrev pub letters : List (ℕ × ℕ)
letters = (65, 90) ∷ (95, 95) ∷ (97, 122) ∷ []

abbrev pub letters_digits : List (ℕ × ℕ)
letters_digits = (48, 57) ∷ (65, 90) ∷ (95, 95) ∷ (97, 122) ∷ []

abbrev pub digits : List (ℕ × ℕ)
digits = (48, 57) ∷ []

abbrev pub blanks : List (ℕ × ℕ)
blanks = (9, 10) ∷ (13, 13) ∷ (32, 32) ∷ []

-- all characters; all but newlines; all but newlines, quotes and backslashes
abbrev pub all_chars : List (ℕ × ℕ)
all_chars = (0, 0xD7FF) ∷ (0xE000, 0x10FFFF) ∷ []

abbrev pub line_chars : List (ℕ × ℕ)
line_chars = (0, 9) ∷ (11, 0xD7FF) ∷ (0xE000, 0x10FFFF) ∷ []

abbrev pub plain_chars : List (ℕ × ℕ)
plain_chars = (0, 9) ∷ (11, 33) ∷ (35, 91) ∷ (93, 0xD7FF) ∷ (0xE000, 0x10FFFF) ∷ []

-- The lexer rules, given their sets.
-- [a-zA-Z_] [a-zA-Z_0-9]*
abbrev pub id_of : List (ℕ × ℕ) → List (ℕ × ℕ) → LexerRule
id_of first others = token (codes "ID") false (LexerTerm.set first ∷ LexerTerm.star (LexerTerm.set others) ∷ [])

-- [0-9]+
abbrev pub int_of : List (ℕ × ℕ) → LexerRule
int_of set = token (codes "INT") false (LexerTerm.plus (LexerTerm.set set) ∷ [])

-- ~["\\\n] | '\\' .
abbrev pub part_of : List (ℕ × ℕ) → List (ℕ × ℕ) → LexerTerm
part_of plain every = LexerTerm.block (lexer_alts ((LexerTerm.set plain ∷ []) ∷ (LexerTerm.literal (codes "\\") ∷ LexerTerm.set every ∷ []) ∷ []))

-- '"' ( .. )* '"'
abbrev pub str_of : List (ℕ × ℕ) → List (ℕ × ℕ) → LexerRule
str_of plain every = token (codes "STR") false (LexerTerm.literal (codes "\"") ∷ LexerTerm.star (part_of plain every) ∷ LexerTerm.literal (codes "\"") ∷ [])

-- '/*' .*? '*/'
abbrev pub comment_of : List (ℕ × ℕ) → LexerRule
comment_of every = token (codes "COMMENT") true (LexerTerm.literal (codes "/*") ∷ LexerTerm.short every ∷ LexerTerm.literal (codes "*/") ∷ [])

-- '//' ~[\n]*
abbrev pub line_of : List (ℕ × ℕ) → LexerRule
line_of set = token (codes "LINE") true (LexerTerm.literal (codes "//") ∷ LexerTerm.star (LexerTerm.set set) ∷ [])

-- [ \t\r\n]+
abbrev pub blank_of : List (ℕ × ℕ) → LexerRule
blank_of set = token (codes "WS") true (LexerTerm.plus (LexerTerm.set set) ∷ [])

-- the parser rules, and then these rules of the lexer
abbrev pub grammar_with : List LexerRule → WrittenGrammar
grammar_with tokens =
    record {
      name = codes "Mini";
      tokens = [];
      rules = file_rule ∷ func_rule ∷ params_rule ∷ type_rule ∷ block_rule ∷ stmt_rule ∷ expr_rule ∷ map WrittenRule.lexer_rule tokens;
    }

abbrev pub id_token : LexerRule
id_token = id_of letters letters_digits

abbrev pub int_token : LexerRule
int_token = int_of digits

abbrev pub str_token : LexerRule
str_token = str_of plain_chars all_chars

abbrev pub comment_token : LexerRule
comment_token = comment_of all_chars

abbrev pub line_token : LexerRule
line_token = line_of line_chars

abbrev pub blank_token : LexerRule
blank_token = blank_of blanks

-- Mini. Its start is its first rule, `file`.
abbrev pub mini : WrittenGrammar
mini = grammar_with (id_token ∷ int_token ∷ str_token ∷ comment_token ∷ line_token ∷ blank_token ∷ [])
