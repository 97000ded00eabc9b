use Rattle.std.proofs.Common.{◌≢◌, refl, rules}
use Rattle.faults.specs.Memory.{ran_out}
use Rattle.grammar_load.specs.PairMessage.{pair_grammar_fault_text}
use Rattle.grammar_load.specs.declared.pair_fault.PairGrammarFault.TheVariants as fault
use Rattle.command_words.specs.Lines.{grammar_read}
use Rattle.command_grammar.specs.Texts.{GrammarTexts}
use Rattle.command_grammar.proofs.GrammarLemmas.{has_fault, pair_small, spells_named}
use Rattle.command_grammar.proofs.grammar.grammar_of_pair.Goals as goal

pub returns-in-Ok-clause-ok : goal.returns-in-Ok-clause-ok
returns-in-Ok-clause-ok c =
    spells_named (grammar_read c.args.grammar) _
    (GrammarTexts.pair c.args.lexer.now c.args.parser.now) c.in-Ok.checked c.named_start.ensures c.in-Ok.ensures.ok c.in-Ok.ensures.only

pub returns-in-Err-clause-refused : goal.returns-in-Err-clause-refused
returns-in-Err-clause-refused c =
    let caused : c.in-Err.fault ≢ fault.Memory ran_out = search rules in
    has_fault (grammar_read c.args.grammar) _ (GrammarTexts.pair c.args.lexer.now c.args.parser.now)
    (pair_grammar_fault_text c.in-Err.fault) c.named_start.ensures
    (pair_small c.args.lexer.now c.args.parser.now c.requires.lexer c.requires.parser) (c.in-Err.fault, caused, c.in-Err.ensures.fault, refl)
    (λ it spelled. caused (c.in-Err.ensures.only it spelled)) c.pair_refusal.result c.pair_refusal.ensures
