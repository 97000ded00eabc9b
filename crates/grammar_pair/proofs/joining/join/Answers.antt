use Rattle.std.proofs.Common.{◌∙◌}
use Rattle.grammar_tree.specs.GrammarView.{grammar_of}
use Rattle.grammar_pair.specs.Joined.{IsPairFault}
use Rattle.grammar_pair.proofs.Pairs.{alone, faulty, own_kinds, own_lexing, own_rules, small, whole}
use Rattle.grammar_pair.proofs.joining.join.Goals as goal

pub returns-in-Err-clause-only : goal.returns-in-Err-clause-only
returns-in-Err-clause-only c = λ G j. c.in-Err.ensures.only j.lexer_grammar j.lexer_text

pub returns-in-Err-clause-fault : goal.returns-in-Err-clause-fault
returns-in-Err-clause-fault c = IsPairFault.of_lexer c.in-Err.ensures.fault

pub returns-in-Err-read_parser-clause-only : goal.returns-in-Err-read_parser-clause-only
returns-in-Err-read_parser-clause-only c = λ G j. c.in-Err-read_parser.ensures.only j.parser_grammar j.parser_text

pub returns-in-Err-read_parser-clause-fault : goal.returns-in-Err-read_parser-clause-fault
returns-in-Err-read_parser-clause-fault c =
    IsPairFault.of_parser (record { text = c.in-Ok.ensures.ok; only = c.in-Ok.ensures.only }) c.in-Err-read_parser.ensures.fault

pub returns-clause-ok : goal.returns-clause-ok
returns-clause-ok c =
    whole c.args.lexer.now c.args.parser.now (grammar_of c.in-Ok.grammar)
    (grammar_of c.in-Ok-read_parser.read.0) c.in-Ok.ensures.ok c.in-Ok-read_parser.ensures.ok c.in-Ok.ensures.only c.in-Ok-read_parser.ensures.only
    c.deref.result.now (c.deref.ensures.value ∙ c.in-Ok-read_parser.ensures.names) c.join_read.result c.join_read.ensures.ok c.join_read.ensures.fault

pub returns-clause-few : goal.returns-clause-few
returns-clause-few c =
    small c.args.lexer.now c.args.parser.now (grammar_of c.in-Ok.grammar)
    (grammar_of c.in-Ok-read_parser.read.0) c.in-Ok.ensures.ok c.in-Ok-read_parser.ensures.ok c.in-Ok.ensures.only c.in-Ok-read_parser.ensures.only
    c.deref.result.now (c.deref.ensures.value ∙ c.in-Ok-read_parser.ensures.names) c.join_read.result c.join_read.ensures.ok c.join_read.ensures.fault _ _
    c.in-Ok.ensures.few c.in-Ok-read_parser.ensures.few

pub returns-clause-only : goal.returns-clause-only
returns-clause-only c =
    alone c.args.lexer.now c.args.parser.now (grammar_of c.in-Ok.grammar)
    (grammar_of c.in-Ok-read_parser.read.0) c.in-Ok.ensures.ok c.in-Ok-read_parser.ensures.ok c.in-Ok.ensures.only c.in-Ok-read_parser.ensures.only
    c.deref.result.now (c.deref.ensures.value ∙ c.in-Ok-read_parser.ensures.names) c.join_read.result c.join_read.ensures.ok c.join_read.ensures.fault

pub returns-clause-fault : goal.returns-clause-fault
returns-clause-fault c =
    faulty c.args.lexer.now c.args.parser.now (grammar_of c.in-Ok.grammar)
    (grammar_of c.in-Ok-read_parser.read.0) c.in-Ok.ensures.ok c.in-Ok-read_parser.ensures.ok c.in-Ok.ensures.only c.in-Ok-read_parser.ensures.only
    c.deref.result.now (c.deref.ensures.value ∙ c.in-Ok-read_parser.ensures.names) c.join_read.result c.join_read.ensures.ok c.join_read.ensures.fault

pub returns-clause-kinds : goal.returns-clause-kinds
returns-clause-kinds c =
    own_kinds c.args.lexer.now c.args.parser.now (grammar_of c.in-Ok.grammar)
    (grammar_of c.in-Ok-read_parser.read.0) c.in-Ok.ensures.ok c.in-Ok-read_parser.ensures.ok c.in-Ok.ensures.only c.in-Ok-read_parser.ensures.only
    c.deref.result.now (c.deref.ensures.value ∙ c.in-Ok-read_parser.ensures.names) c.join_read.result c.join_read.ensures.ok c.join_read.ensures.fault

pub returns-clause-lexing : goal.returns-clause-lexing
returns-clause-lexing c =
    own_lexing c.args.lexer.now c.args.parser.now (grammar_of c.in-Ok.grammar)
    (grammar_of c.in-Ok-read_parser.read.0) c.in-Ok.ensures.ok c.in-Ok-read_parser.ensures.ok c.in-Ok.ensures.only c.in-Ok-read_parser.ensures.only
    c.deref.result.now (c.deref.ensures.value ∙ c.in-Ok-read_parser.ensures.names) c.join_read.result c.join_read.ensures.ok c.join_read.ensures.fault

pub returns-clause-rules : goal.returns-clause-rules
returns-clause-rules c =
    own_rules c.args.lexer.now c.args.parser.now (grammar_of c.in-Ok.grammar)
    (grammar_of c.in-Ok-read_parser.read.0) c.in-Ok.ensures.ok c.in-Ok-read_parser.ensures.ok c.in-Ok.ensures.only c.in-Ok-read_parser.ensures.only
    c.deref.result.now (c.deref.ensures.value ∙ c.in-Ok-read_parser.ensures.names) c.join_read.result c.join_read.ensures.ok c.join_read.ensures.fault
