-- What is printed of a fault. Bytes are counted from 0.
use Rattle.std.specs.Prelude.{ℕ, List, ◌++◌, codes}
use Rattle.std.specs.Fmt.{decimal}
use Rattle.reduce_trees_input.specs.declared.fault.InputFault.{InputFault}
use Rattle.reduce_trees_input.specs.declared.fault.InputFault.TheVariants.{NotUtf8, NoToken, NoParse, Memory}

abbrev pub input_fault_text : InputFault → List ℕ
input_fault_text (NotUtf8 offset) = codes "input is not UTF-8 at byte " ++ decimal offset
input_fault_text (NoToken offset) = codes "no token at byte " ++ decimal offset
input_fault_text NoParse = codes "input does not parse"
input_fault_text (Memory _) = codes "out of memory"
