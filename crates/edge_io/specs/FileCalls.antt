-- The calls of files, in their order.
use Rattle.std.specs.Prelude.{◌≡◌, ℕ, List, [], ◌∷◌, ◌++◌, Bool, true, false, Option, option_map, Result, Ok, Err}
use Rattle.edge_io.specs.declared.file_call.FileAction.{FileAction}
use Rattle.edge_io.specs.declared.file_call.FileAction.TheVariants.{Read, Write}
use Rattle.edge_io.specs.declared.files.FileFault.{FileFault}
use Rattle.edge_io.specs.declared.files.FileFault.TheVariants as read_fault
use Rattle.edge_io.specs.declared.files.WriteFault.{WriteFault}
use Rattle.edge_io.specs.declared.files.WriteFault.TheVariants as write_fault

-- a call: the file's name, what was asked of it, and whether the call failed; the limit of a read isn't kept
pub record FileCall : Type 0 where
  pub name : List ℕ
  pub action : FileAction
  pub failed : Bool

-- a call of this file that didn't fail, and one that did
abbrev pub good_call : FileAction → List ℕ → FileCall
good_call action name = record { name = name; action = action; failed = false }

abbrev pub failed_call : FileAction → List ℕ → FileCall
failed_call action name = record { name = name; action = action; failed = true }

-- the calls that a read of this file adds, and a write, by what came of it: one, or none where memory ran out
abbrev pub read_adds : {A : Type 0} → List ℕ → Result A FileFault → List FileCall
read_adds name (Ok bytes) = good_call Read name ∷ []
read_adds name (Err read_fault.Failed) = failed_call Read name ∷ []
read_adds name (Err read_fault.TooLong) = good_call Read name ∷ []
read_adds name (Err (read_fault.Memory _)) = []

abbrev pub write_adds : {A : Type 0} → List ℕ → Result A WriteFault → List FileCall
write_adds name (Ok done) = good_call Write name ∷ []
write_adds name (Err write_fault.Failed) = failed_call Write name ∷ []
write_adds name (Err (write_fault.Memory _)) = []

-- where they are visible, these calls were made since, in this order, and no others
abbrev pub WereMade : List FileCall → Option (List FileCall) → Option (List FileCall) → Type 0
WereMade made old new = new ≡ option_map (λ before. before ++ made) old

-- files that keep their calls: the files, and the calls in their order
pub record Logged (F : Type 0) : Type 0 where
  pub files : F
  pub calls : List FileCall
