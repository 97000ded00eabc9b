use Rattle.std.proofs.Common.{◌≢◌, rules}
use Rattle.faults.specs.Memory.{ran_out}
use Rattle.grammar_tree.specs.GrammarView.{grammar_of}
use Rattle.grammar_reader_notation.specs.declared.fault.ReadFault.TheVariants as read
use Rattle.grammar_pair.specs.Joined.{IsParserFault}
use Rattle.grammar_pair.proofs.Bodies.{parser_fault, parser_read, memory_gives, names_read, never_parser, not_parser, parser_text}
use Rattle.grammar_pair.proofs.reading.read_parser.Goals as goal

pub returns-in_err-body-clause-fault : goal.returns-in_err-body-clause-fault
returns-in_err-body-clause-fault c =
    memory_gives (λ fault. IsParserFault c.args.bytes.now fault) IsParserFault.memory c.from_residual.result c.from_residual.ensures.1

pub returns-in-Ok-clause-ok : goal.returns-in-Ok-clause-ok
returns-in-Ok-clause-ok c = parser_text c.deref.ensures.value c.in_ok-body.ensures (grammar_of c.in-Ok.grammar) c.if-is_parser.true c.in-Ok.ensures.ok

pub returns-in-Ok-clause-names : goal.returns-in-Ok-clause-names
returns-in-Ok-clause-names c = names_read c.deref.ensures.value c.in_ok-body.ensures (grammar_of c.in-Ok.grammar) c.in-Ok.ensures.ok

pub returns-in-Ok-2-clause-only : goal.returns-in-Ok-2-clause-only
returns-in-Ok-2-clause-only c = λ P text. absurd (never_parser c.deref.ensures.value c.in_ok-body.ensures P c.if-is_parser.false text)

pub returns-in-Ok-2-clause-fault : goal.returns-in-Ok-2-clause-fault
returns-in-Ok-2-clause-fault c = not_parser c.deref.ensures.value c.in_ok-body.ensures (grammar_of c.in-Ok-2.field-0) c.if-is_parser.false c.in-Ok-2.ensures.ok

pub returns-in-Err-Memory-clause-fault : goal.returns-in-Err-Memory-clause-fault
returns-in-Err-Memory-clause-fault c = IsParserFault.memory

pub returns : goal.returns
returns c =
    let caused : c.in-Err.fault ≢ read.Memory ran_out = search rules in
    record {
      ok = tt;
      names = tt;
      few = tt;
      only = λ P text. absurd (caused (c.in-Err.ensures.only P (parser_read c.deref.ensures.value c.in_ok-body.ensures P text)));
      fault = parser_fault c.deref.ensures.value c.in_ok-body.ensures c.in-Err.fault caused c.in-Err.ensures.fault;
    }
