-- Why a keep text isn't held.
use Rattle.std.proofs.Common.{◌≡◌, ℕ, ◌+◌, List, Some}
use Rattle.keep_guard.specs.Keep.{first_missing}
use Rattle.command_ends.specs.declared.status.Refusal.{Refusal}
use Rattle.command_ends.specs.declared.status.Refusal.TheVariants.{Memory, KeepMissing}
use Rattle.command_ends.specs.Status.{IsKeepRefusal, KeepsFail}

-- the refusal that names the first keep text that is missing
pub keep_fails : (keeps : List (List ℕ)) (start : List ℕ) (index : ℕ) (refusal : Refusal) → first_missing keeps start ≡ Some index
    → IsKeepRefusal (index + 1) refusal → KeepsFail keeps start refusal
keep_fails keeps start index (Memory _) missing is = tt
keep_fails keeps start index (KeepMissing line) missing is = (index, missing, is)
keep_fails keeps start index _ missing is = absurd is
