-- What is printed of answers.
use Rattle.std.specs.Prelude.{ℕ, List, [], ◌++◌, Result, Ok, Err, codes, decimal, encode_utf8_all, if◌then◌else◌}
use Rattle.std.specs.List.{flat_map}
use Rattle.grammar_tree.specs.Written.{CheckedGrammar}
use Rattle.grammar_tree.specs.declared.rule.Grammar.{Grammar}
use Rattle.grammar_tree.specs.declared.rule.Kind.{Kind}
use Rattle.grammar_tree.specs.declared.rule.KindSource.{KindSource}
use Rattle.grammar_tree.specs.declared.rule.KindSource.TheVariants.{Implicit, Written, Declared}
use Rattle.grammar_reader_notation.specs.FaultText.{read_fault_text}
use Rattle.grammar_reader_notation.specs.declared.fault.ReadFault.{ReadFault}
use Rattle.lexer.specs.declared.token.Token.{Token}
use Rattle.grammar_load.specs.Message.{grammar_fault_text}
use Rattle.test_grammars.specs.declared.reading.Refused.{Refused}
use Rattle.test_grammars.specs.declared.reading.Refused.TheVariants.{TooLong, Faulty}

-- a token: its kind, and where it begins and ends
abbrev pub token_text : ℕ → ℕ → ℕ → List ℕ
token_text kind start end = decimal kind ++ codes "@" ++ decimal start ++ codes "-" ++ decimal end ++ codes " "

abbrev pub tokens_text : List Token → List ℕ
tokens_text tokens = flat_map (λ (t : Token). token_text t.kind t.start t.end) tokens

-- where a kind comes from
abbrev pub source_text : KindSource → List ℕ
source_text Implicit = codes " implicit"
source_text (Written index) = codes " at " ++ decimal index
source_text Declared = codes " declared"

-- a kind: its name, whether it is one of gap text, and where it comes from
abbrev pub kind_text : Kind → List ℕ
kind_text kind = encode_utf8_all kind.name ++ (if kind.gap then codes " gap" else []) ++ source_text kind.source ++ codes "; "

-- what reading a text answers
abbrev pub reading_text : Result Grammar ReadFault → List ℕ
reading_text (Ok grammar) = codes "read"
reading_text (Err fault) = read_fault_text fault

-- what reading and checking a text answers
abbrev pub checked_text : Result CheckedGrammar Refused → List ℕ
checked_text (Ok grammar) = codes "no fault"
checked_text (Err (Faulty fault)) = grammar_fault_text fault
checked_text (Err TooLong) = codes "too long"
