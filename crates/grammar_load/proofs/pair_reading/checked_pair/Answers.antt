use Rattle.std.proofs.Common.{◌≢◌, Bor, ℕ, List, Option, rules}
use Rattle.std.specs.Prelude.{chars, option_map}
use Rattle.faults.specs.Memory.{ran_out}
use Rattle.grammar_tree.specs.GrammarView.{grammar_of}
use Rattle.grammar_check.specs.declared.fault.CheckFault.TheVariants as check
use Rattle.grammar_load.proofs.PairAnswerLemmas.{no_text, only_checked}
use Rattle.grammar_load.proofs.pair_reading.checked_pair.Goals as goal

abbrev wanted_in : Option (Bor (List ℕ)) → Option (List ℕ)
wanted_in start = option_map (λ (s : Bor (List ℕ)). chars s.now) start

pub returns-in-Err-clause-only : goal.returns-in-Err-clause-only
returns-in-Err-clause-only c = λ it is. c.in-Err.ensures.only it.grammar is.text

pub returns-in-Err-clause-fault : goal.returns-in-Err-clause-fault
returns-in-Err-clause-fault c = c.in-Err.ensures.fault (wanted_in c.args.start)

pub returns-in-Ok-check-clause-only : goal.returns-in-Ok-check-clause-only
returns-in-Ok-check-clause-only c =
    only_checked c.args.lexer.now c.args.parser.now (wanted_in c.args.start) (grammar_of c.in-Ok.grammar) c.in-Ok.ensures.only c.in-Ok-check.checked
    c.in-Ok-check.ensures.0 c.in-Ok-check.ensures.1 c.is_checked.ensures

pub returns-in-Err-check : goal.returns-in-Err-check
returns-in-Err-check c =
    let G = grammar_of c.in-Ok.grammar in
    let caused : c.in-Err-check.fault ≢ check.Memory ran_out = search rules in
    let first = c.in-Err-check.ensures caused in
    record {
      ok = tt;
      only = λ it is. absurd (no_text c.args.lexer.now c.args.parser.now (wanted_in c.args.start) G c.in-Ok.ensures.only c.in-Err-check.fault first it is);
      fault = (G, record { text = c.in-Ok.ensures.ok; only = c.in-Ok.ensures.only }, first);
    }
