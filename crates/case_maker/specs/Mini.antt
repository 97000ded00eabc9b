-- The grammar of the generated programs, as text.
use Rattle.std.specs.Prelude.{ℕ, List, ◌++◌, codes}

-- Mini: a small language with functions, statements, operators and comments
abbrev pub mini_text : List ℕ
mini_text =
    codes "grammar Mini;\n"
    ++ (codes "file : func* EOF ;\n"
    ++ (codes "func : type ID '(' params? ')' block ;\n"
    ++ (codes "params : type ID (',' type ID)* ;\n"
    ++ (codes "type : 'int' | 'char' ;\n"
    ++ (codes "block : '{' stmt* '}' ;\n"
    ++ (codes "stmt : type ID ('=' expr)? ';'\n"
    ++ (codes "     | ID '=' expr ';'\n"
    ++ (codes "     | 'if' '(' expr ')' block ('else' block)?\n"
    ++ (codes "     | 'while' '(' expr ')' block\n"
    ++ (codes "     | 'return' expr? ';'\n"
    ++ (codes "     | block\n"
    ++ (codes "     ;\n"
    ++ (codes "expr : expr ('*' | '/') expr\n"
    ++ (codes "     | expr ('+' | '-') expr\n"
    ++ (codes "     | ID '(' (expr (',' expr)*)? ')'\n"
    ++ (codes "     | '(' expr ')'\n"
    ++ (codes "     | ID\n"
    ++ (codes "     | INT\n"
    ++ (codes "     | STR\n"
    ++ (codes "     ;\n"
    ++ (codes "ID : [a-zA-Z_] [a-zA-Z_0-9]* ;\n"
    ++ (codes "INT : [0-9]+ ;\n"
    ++ (codes "STR : '\"' (~[\"\\\\\\n] | '\\\\' .)* '\"' ;\n"
    ++ (codes "COMMENT : '/*' .*? '*/' -> skip ;\n"
    ++ (codes "LINE : '//' ~[\\n]* -> channel(HIDDEN) ;\n"
    ++ codes "WS : [ \\t\\r\\n]+ -> skip ;\n")))))))))))))))))))))))))
