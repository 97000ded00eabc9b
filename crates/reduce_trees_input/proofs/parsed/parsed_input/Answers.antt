use Rattle.reduce_trees_input.proofs.Inputs.{input_made, language_of, memory_alone}
use Rattle.reduce_trees_input.proofs.parsed.parsed_input.Goals as goal

pub returns-clause-input : goal.returns-clause-input
returns-clause-input c =
    input_made c.preferred_trees_are_valid.ensures c.args.grammar.now c.args.bytes.now c.is_checked.ensures c.found_in.result c.found_in.ensures.parsed

pub returns-clause-language : goal.returns-clause-language
returns-clause-language c = language_of c.args.grammar.now c.args.bytes.now c.found_in.result c.found_in.ensures.parsed

pub returns-clause-only : goal.returns-clause-only
returns-clause-only c =
    λ of. memory_alone c.args.grammar.now c.args.bytes.now
    (c.input_fault_once.ensures c.args.grammar.now c.args.bytes.now) c.found_in.result c.found_in.ensures.fault of
