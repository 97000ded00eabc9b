-- What is printed of a fault. Bytes are counted from 0.
use Rattle.std.specs.Prelude.{ℕ, List, ◌++◌, codes}
use Rattle.std.specs.Fmt.{decimal}
use Rattle.grammar_reader_notation.specs.Printed.{name_of}
use Rattle.grammar_reader_notation.specs.declared.fault.ReadFault.{ReadFault}
use Rattle.grammar_reader_notation.specs.declared.fault.ReadFault.TheVariants as f

abbrev pub read_fault_text : ReadFault → List ℕ
read_fault_text (f.NotUtf8 offset) = codes "not UTF-8 at byte " ++ decimal offset
read_fault_text (f.Syntax offset) = codes "syntax at byte " ++ decimal offset
read_fault_text (f.Unsupported what offset) = codes "unsupported " ++ (name_of what ++ (codes " at byte " ++ decimal offset))
read_fault_text (f.NestedTooDeep offset) = codes "nested too deep at byte " ++ decimal offset
read_fault_text (f.Memory _) = codes "out of memory"
