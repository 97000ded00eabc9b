-- Out of memory.
use Rattle.std.specs.Prelude.{◌≡◌, None}
use Rattle.std.specs.IoError.{error_kind, raw_os_error}
use Rattle.std.specs.declared.io.Error.{Error}
use Rattle.std.specs.declared.io.ErrorKind.TheVariants.{OutOfMemory}
use Rattle.faults.specs.declared.Memory.{Memory}

-- memory ran out: it is the one value, since contracts don't see what made it
abbrev pub ran_out : Memory
ran_out = record { 0 = tt }

-- the program itself had no memory: an error of the machine has a number
abbrev pub IsOutOfMemory : Error → Type 0
IsOutOfMemory error = (error_kind error ≡ OutOfMemory) × (raw_os_error error ≡ None)
