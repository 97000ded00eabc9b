-- What is printed of a fault. Bytes are counted from 0.
use Rattle.std.specs.Prelude.{ℕ, List, ◌++◌, codes}
use Rattle.std.specs.Fmt.{decimal}
use Rattle.lexer.specs.declared.token.LexFault.{LexFault}

abbrev pub fault_text : LexFault → List ℕ
fault_text (LexFault.NoToken offset) = codes "no token at byte " ++ decimal offset
fault_text (LexFault.Memory _) = codes "out of memory"
