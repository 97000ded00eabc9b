use Rattle.std.proofs.Common.{◌||◌, Bool, sym, ap, ◌∙◌}
use Rattle.grammar_reader_machine.specs.View.{state_of}
use Rattle.grammar_reader.specs.Positions.{after_last}
use Rattle.grammar_reader.proofs.naming.of_loop.Goals as goal

pub returns-else-after_loop : goal.returns-else-after_loop
returns-else-after_loop c =
    c.after_last.ensures
    ∙ ap (λ (b : Bool). b || after_last (state_of c.args.state.now)) (sym (sym c.after_loop.ensures ∙ c.if-after_loop.false))
