-- The normal forms of small grammars, worked by hand.
use Rattle.std.proofs.Common.{◌≡◌, ℕ, true, false, List, [], ◌∷◌, Some, slice_get, refl, arith}
use Rattle.std.specs.Prelude.{codes, map}
use Rattle.std.specs.Fmt as fmt
use Rattle.grammar_tree.specs.Written.{Reference, WrittenTerm, LexerTerm, LexerSeq, LexerAlts, WrittenAlts, WrittenRule, WrittenGrammar, written_alts}
use Rattle.grammar_tree.specs.Kinds.{kinds_of}
use Rattle.normal_form.specs.declared.normal.Sym.TheVariants.{Kind, Rule}
use Rattle.normal_form.specs.Form.{RuleForm, NormalForm}
use Rattle.normal_form.specs.FormLaws.{IsNormalCorner}
use Rattle.normal_form.specs.NormalDerives.{NormalDerives, of_done, of_end, of_next, of_regular, of_star}
use Rattle.normal_form.specs.NormalOf.{normal_of}
use Rattle.normal_form_print.specs.Print.{printed}
use Rattle.normal_form.specs.Symbols.{IsSymbolOf}
use Rattle.normal_form.proofs.Lent.{Contains-here}

abbrev literal : List ℕ → WrittenTerm
literal t = WrittenTerm.literal t

abbrev name : List ℕ → WrittenTerm
name n = WrittenTerm.name n

abbrev block : List (List WrittenTerm) → WrittenTerm
block alts = WrittenTerm.block (written_alts alts)

abbrev rule : List ℕ → List (List WrittenTerm) → WrittenRule
rule n alts = WrittenRule.parser_rule (record { name = n; alts = written_alts alts })

-- a lexer rule with one character; whether it is skipped is given
abbrev token : List ℕ → ℕ → WrittenRule
token n c =
    WrittenRule.lexer_rule
    (record { name = n; fragment = false; gap = false; alts = LexerAlts.or (LexerSeq.next (LexerTerm.set ((c, c) ∷ [])) LexerSeq.done) LexerAlts.none })

abbrev skipped : List ℕ → WrittenRule
skipped n =
    WrittenRule.lexer_rule
    (record { name = n; fragment = false; gap = true; alts = LexerAlts.or (LexerSeq.next (LexerTerm.set ((32, 32) ∷ [])) LexerSeq.done) LexerAlts.none })

abbrev grammar : List WrittenRule → WrittenGrammar
grammar rules = record { name = codes "G"; tokens = []; rules = rules }

abbrev text_of : WrittenGrammar → List ℕ
text_of G = printed (kinds_of G) (normal_of (record { grammar = G; kinds = kinds_of G; start = 0 }))

-- file : stmt* EOF ; stmt : ID '=' expr ';' | '{' stmt* '}' ; expr : expr '+' expr | '('
-- expr ')' | ID | INT ; ID : [a-z]+ ; INT : [0-9]+ ; WS : [ \n]+ -> skip ;
abbrev E : WrittenGrammar
E =
    grammar (
    rule (codes "file") ((WrittenTerm.star (name (codes "stmt")) ∷ WrittenTerm.eof ∷ []) ∷ [])
    ∷ rule (codes "stmt") (
    (name (codes "ID") ∷ literal (codes "=") ∷ name (codes "expr") ∷ literal (codes ";") ∷ [])
    ∷ (literal (codes "{") ∷ WrittenTerm.star (name (codes "stmt")) ∷ literal (codes "}") ∷ [])
    ∷ []
    )
    ∷ rule (codes "expr") (
    (name (codes "expr") ∷ literal (codes "+") ∷ name (codes "expr") ∷ [])
    ∷ (literal (codes "(") ∷ name (codes "expr") ∷ literal (codes ")") ∷ [])
    ∷ (name (codes "ID") ∷ [])
    ∷ (name (codes "INT") ∷ [])
    ∷ []
    )
    ∷ token (codes "ID") 97
    ∷ token (codes "INT") 48
    ∷ skipped (codes "WS")
    ∷ []
    )

E_prints : text_of E
    ≡ codes
    "file : file#1 ;\nfile#1 : stmt* ;\nstmt : ID '=' expr ';' | '{' stmt#1 '}' ;\nstmt#1 : stmt* ;\nexpr : expr#1 expr#2 ;\nexpr#1 : '(' expr ')' | ID | INT ;\nexpr#2 : expr#3* ;\nexpr#3 : '+' expr ;\n"
unfolding kinds_of normal_of printed fmt.digits
E_prints = refl

-- a : ((A? B)* C)+ ;
nested_prints : text_of (grammar (
    rule (codes "a")
    ((WrittenTerm.plus (block ((WrittenTerm.star (block ((WrittenTerm.opt (name (codes "A")) ∷ name (codes "B") ∷ []) ∷ [])) ∷ name (codes "C") ∷ []) ∷ []))
    ∷ []) ∷ [])
    ∷ token (codes "A") 97
    ∷ token (codes "B") 98
    ∷ token (codes "C") 99
    ∷ []
    )) ≡ codes "a : a#1 ;\na#1 : a#2+ ;\na#2 : a#3 C ;\na#3 : a#4* ;\na#4 : a#5 B ;\na#5 : A? ;\n"
unfolding kinds_of normal_of printed fmt.digits
nested_prints = refl

-- e : e ('+' e)+ | 'x'? 'y' | e 'z' | ;
recursive_prints : text_of (grammar (
    rule (codes "e") (
    (name (codes "e") ∷ WrittenTerm.plus (block ((literal (codes "+") ∷ name (codes "e") ∷ []) ∷ [])) ∷ [])
    ∷ (WrittenTerm.opt (literal (codes "x")) ∷ literal (codes "y") ∷ [])
    ∷ (name (codes "e") ∷ literal (codes "z") ∷ [])
    ∷ []
    ∷ []
    )
    ∷ []
    )) ≡ codes "e : e#1 e#2 ;\ne#1 : e#6 'y' |  ;\ne#2 : e#3* ;\ne#3 : e#4 | 'z' ;\ne#4 : e#5+ ;\ne#5 : '+' e ;\ne#6 : 'x'? ;\n"
unfolding kinds_of normal_of printed fmt.digits
recursive_prints = refl

-- a : ~A . ~(A | B) ~WS ~A ; with the sets in the order in which they first occur, and b : ; after it
sets_print : text_of (grammar (
    rule (codes "a") (
    (WrittenTerm.but (Reference.name (codes "A") ∷ []) ∷ WrittenTerm.any ∷ WrittenTerm.but
    (Reference.name (codes "A") ∷ Reference.name (codes "B") ∷ []) ∷ WrittenTerm.but (Reference.name (codes "WS") ∷ []) ∷ WrittenTerm.but
    (Reference.name (codes "A") ∷ []) ∷ [])
    ∷ []
    )
    ∷ rule (codes "b") ([] ∷ [])
    ∷ token (codes "A") 97
    ∷ token (codes "B") 98
    ∷ token (codes "C") 99
    ∷ skipped (codes "WS")
    ∷ []
    )) ≡ codes "a : ~A . ~(A|B) . ~A ;\nb :  ;\n"
unfolding kinds_of normal_of printed fmt.digits
sets_print = refl

-- a : '\'\\' '\n\r\t' '~é\u{1F600}' ;
escapes_print : text_of (grammar (rule (codes "a") ((literal (39 ∷ 92 ∷ []) ∷ literal (10 ∷ 13 ∷ 9 ∷ []) ∷ literal (126 ∷ 233 ∷ 0x1F600 ∷ []) ∷ []) ∷ []) ∷ []))
    ≡ codes "a : '\\'\\\\' '\\n\\r\\t' '~\\u{E9}\\u{1F600}' ;\n"
unfolding kinds_of normal_of printed fmt.digits
escapes_print = refl

-- a small language like C; its lexer rules, which are no part of a normal form, have one character each
abbrev C : WrittenGrammar
C =
    grammar (
    rule (codes "file") ((WrittenTerm.star (name (codes "func")) ∷ WrittenTerm.eof ∷ []) ∷ [])
    ∷ rule (codes "func")
    ((name (codes "type") ∷ name (codes "ID") ∷ literal (codes "(") ∷ WrittenTerm.opt (name (codes "params")) ∷ literal (codes ")") ∷ name (codes "block") ∷ [])
    ∷ [])
    ∷ rule (codes "params")
    ((name (codes "type") ∷ name (codes "ID") ∷ WrittenTerm.star (block ((literal (codes ",") ∷ name (codes "type") ∷ name (codes "ID") ∷ []) ∷ [])) ∷ []) ∷ [])
    ∷ rule (codes "type") (
    (literal (codes "int") ∷ [])
    ∷ (literal (codes "char") ∷ [])
    ∷ []
    )
    ∷ rule (codes "block") ((literal (codes "{") ∷ WrittenTerm.star (name (codes "stmt")) ∷ literal (codes "}") ∷ []) ∷ [])
    ∷ rule (codes "stmt") (
    (name (codes "type") ∷ name (codes "ID") ∷ WrittenTerm.opt (block ((literal (codes "=") ∷ name (codes "expr") ∷ []) ∷ [])) ∷ literal (codes ";") ∷ [])
    ∷ (name (codes "ID") ∷ literal (codes "=") ∷ name (codes "expr") ∷ literal (codes ";") ∷ [])
    ∷ (literal (codes "if") ∷ literal (codes "(") ∷ name (codes "expr") ∷ literal (codes ")") ∷ name (codes "block") ∷ WrittenTerm.opt
    (block ((literal (codes "else") ∷ name (codes "block") ∷ []) ∷ [])) ∷ [])
    ∷ (literal (codes "while") ∷ literal (codes "(") ∷ name (codes "expr") ∷ literal (codes ")") ∷ name (codes "block") ∷ [])
    ∷ (literal (codes "return") ∷ WrittenTerm.opt (name (codes "expr")) ∷ literal (codes ";") ∷ [])
    ∷ (name (codes "block") ∷ [])
    ∷ []
    )
    ∷ rule (codes "expr") (
    (name (codes "expr") ∷ block ((literal (codes "*") ∷ []) ∷ (literal (codes "/") ∷ []) ∷ []) ∷ name (codes "expr") ∷ [])
    ∷ (name (codes "expr") ∷ block ((literal (codes "+") ∷ []) ∷ (literal (codes "-") ∷ []) ∷ []) ∷ name (codes "expr") ∷ [])
    ∷ (name (codes "ID") ∷ literal (codes "(") ∷ WrittenTerm.opt
    (block ((name (codes "expr") ∷ WrittenTerm.star (block ((literal (codes ",") ∷ name (codes "expr") ∷ []) ∷ [])) ∷ []) ∷ [])) ∷ literal (codes ")") ∷ [])
    ∷ (literal (codes "(") ∷ name (codes "expr") ∷ literal (codes ")") ∷ [])
    ∷ (name (codes "ID") ∷ [])
    ∷ (name (codes "INT") ∷ [])
    ∷ (name (codes "STR") ∷ [])
    ∷ []
    )
    ∷ token (codes "ID") 97
    ∷ token (codes "INT") 48
    ∷ token (codes "STR") 34
    ∷ skipped (codes "COMMENT")
    ∷ skipped (codes "LINE")
    ∷ skipped (codes "WS")
    ∷ []
    )

C_kinds : map (λ kind. kind.name) (kinds_of C)
    ≡ codes "(" ∷ codes ")" ∷ codes "," ∷ codes "int" ∷ codes "char" ∷ codes "{" ∷ codes "}" ∷ codes "=" ∷ codes ";" ∷ codes "if" ∷ codes "else" ∷ codes "while"
    ∷ codes "return" ∷ codes "*" ∷ codes "/" ∷ codes "+" ∷ codes "-" ∷ codes "ID" ∷ codes "INT" ∷ codes "STR" ∷ codes "COMMENT" ∷ codes "LINE" ∷ codes "WS" ∷ []
unfolding kinds_of
C_kinds = refl

C_prints : text_of C
    ≡ codes
    "file : file#1 ;\nfile#1 : func* ;\nfunc : type ID '(' func#1 ')' block ;\nfunc#1 : params? ;\nparams : type ID params#1 ;\nparams#1 : params#2* ;\nparams#2 : ',' type ID ;\ntype : 'int' | 'char' ;\nblock : '{' block#1 '}' ;\nblock#1 : stmt* ;\nstmt : type ID stmt#1 ';' | ID '=' expr ';' | 'if' '(' expr ')' block stmt#3 | 'while' '(' expr ')' block | 'return' stmt#5 ';' | block ;\nstmt#1 : stmt#2? ;\nstmt#2 : '=' expr ;\nstmt#3 : stmt#4? ;\nstmt#4 : 'else' block ;\nstmt#5 : expr? ;\nexpr : expr#1 expr#2 ;\nexpr#1 : ID '(' expr#6 ')' | '(' expr ')' | ID | INT | STR ;\nexpr#2 : expr#3* ;\nexpr#3 : expr#4 expr | expr#5 expr ;\nexpr#4 : '*' | '/' ;\nexpr#5 : '+' | '-' ;\nexpr#6 : expr#7? ;\nexpr#7 : expr expr#8 ;\nexpr#8 : expr#9* ;\nexpr#9 : ',' expr ;\n"
unfolding kinds_of normal_of printed fmt.digits
C_prints = refl

-- the rules of the form of E by their numbers: 0 is `file`, 4 is `expr`, 5 its bases, 6 any number of its rests, 7 a rest
abbrev form_of_E : NormalForm
form_of_E = normal_of (record { grammar = E; kinds = kinds_of E; start = 0 })

-- `expr` begins with a base, and a base with a kind; what comes after a base is no left corner unless the base can be empty
bases_come_first : IsNormalCorner form_of_E 4 5
unfolding kinds_of normal_of
bases_come_first = (RuleForm.regular ((Rule 5 ∷ Rule 6 ∷ []) ∷ []), refl, ([], Rule 6 ∷ [], Contains-here (Rule 5 ∷ Rule 6 ∷ []) [], of_done))

rests_come_first : IsNormalCorner form_of_E 6 7
unfolding kinds_of normal_of
rests_come_first = (RuleForm.star (Rule 7), refl, refl)

-- the rule of the rests is `'+' expr`, whose symbols are the kind 4 and the rule 4
rest_has_expr : (slice_get form_of_E.rules 7 ≡ Some (RuleForm.regular ((Kind 4 ∷ Rule 4 ∷ []) ∷ []))) × IsSymbolOf form_of_E (Rule 4)
unfolding kinds_of normal_of
rest_has_expr = (refl, omega arith)

-- an empty file
nothing_is_a_file : NormalDerives form_of_E (Rule 0) []
unfolding kinds_of normal_of
nothing_is_a_file =
    of_regular 0 ((Rule 1 ∷ []) ∷ []) (Rule 1 ∷ []) [] refl (Contains-here (Rule 1 ∷ []) [])
    (of_next (Rule 1) [] [] [] (of_star 1 (Rule 2) [] refl (of_end (Rule 2))) of_done)

-- A block without alternatives, which no text of a grammar has, gives a regular rule without alternatives.
abbrev no_alternatives : WrittenGrammar
no_alternatives = grammar (rule (codes "a") ((WrittenTerm.block WrittenAlts.none ∷ []) ∷ []) ∷ [])

empty_block : (normal_of (record { grammar = no_alternatives; kinds = kinds_of no_alternatives; start = 0 })).rules ≡ RuleForm.regular
    ((Rule 1 ∷ []) ∷ []) ∷ RuleForm.regular [] ∷ []
unfolding kinds_of normal_of
empty_block = refl
