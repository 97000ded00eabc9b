-- The machine's state after a word, of the state in memory.
use Rattle.std.specs.Prelude.{◌≡◌, Option, Some, None, Result, Ok, Err}
use Rattle.faults.specs.declared.Memory.{Memory}
use Rattle.grammar_reader_machine.specs.declared.state.State.{State}
use Rattle.grammar_reader_machine.specs.Machine as m
use Rattle.grammar_reader_machine.specs.View.{state_of}

abbrev pub next_of : Option State → Option m.State
next_of (Some s) = Some (state_of s)
next_of None = None

-- the next state, or none, unless memory ran out
abbrev pub NextIs : Result (Option m.State) Memory → Option m.State → Type 0
NextIs (Ok n) o = n ≡ o
NextIs (Err e) o = Unit {0}
