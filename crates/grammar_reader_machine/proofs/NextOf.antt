-- A state in memory and the machine's state that is seen of it.
use Rattle.std.proofs.Common.{◌≡◌, sym, Option, Some, None, Ok}
use Rattle.grammar_reader_machine.specs.declared.state.State.{State}
use Rattle.grammar_reader_machine.specs.Machine as m
use Rattle.grammar_reader_machine.specs.View.{Gives}
use Rattle.grammar_reader_machine.specs.NextState.{next_of}

pub gives_as : (r : Option State) (o : Option m.State) → next_of r ≡ o → Gives (Ok r) o
gives_as (Some s) o h = sym h
gives_as None o h = sym h
