use Rattle.std.proofs.Common.{◌≢◌, rules}
use Rattle.faults.specs.Memory.{ran_out}
use Rattle.grammar_tree.specs.GrammarView.{grammar_of}
use Rattle.grammar_reader_notation.specs.declared.fault.ReadFault.TheVariants as read
use Rattle.grammar_pair.specs.Joined.{IsLexerFault}
use Rattle.grammar_pair.proofs.Bodies.{lexer_fault, lexer_read, memory_gives, never_lexer, not_lexer}
use Rattle.grammar_pair.proofs.reading.read_lexer.Goals as goal

pub returns-in_err-body-clause-fault : goal.returns-in_err-body-clause-fault
returns-in_err-body-clause-fault c =
    memory_gives (λ fault. IsLexerFault c.args.bytes.now fault) IsLexerFault.memory c.from_residual.result c.from_residual.ensures.1

pub returns-in-Ok-2-clause-only : goal.returns-in-Ok-2-clause-only
returns-in-Ok-2-clause-only c = λ L text. absurd (never_lexer c.deref.ensures.value c.in_ok-body.ensures L c.if-is_lexer.false text)

pub returns-in-Ok-2-clause-fault : goal.returns-in-Ok-2-clause-fault
returns-in-Ok-2-clause-fault c = not_lexer c.deref.ensures.value c.in_ok-body.ensures (grammar_of c.in-Ok-2.field-0) c.if-is_lexer.false c.in-Ok-2.ensures.ok

pub returns-in-Err-Memory-clause-fault : goal.returns-in-Err-Memory-clause-fault
returns-in-Err-Memory-clause-fault c = IsLexerFault.memory

pub returns : goal.returns
returns c =
    let caused : c.in-Err.fault ≢ read.Memory ran_out = search rules in
    record {
      ok = tt;
      few = tt;
      only = λ L text. absurd (caused (c.in-Err.ensures.only L (lexer_read c.deref.ensures.value c.in_ok-body.ensures L text)));
      fault = lexer_fault c.deref.ensures.value c.in_ok-body.ensures c.in-Err.fault caused c.in-Err.ensures.fault;
    }
