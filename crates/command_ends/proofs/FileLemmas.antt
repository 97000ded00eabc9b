-- What is visible of a file can't be at odds with what was read.
use Rattle.std.proofs.Common.{◌≡◌, ◌≤◌, ℕ, List, length, Option, Some, None, arith, ap, ◌∙◌, subst}
use Rattle.std.proofs.lemmas.Option.{same_Some}
use Rattle.std.proofs.Math.Path.{fun_ext}
use Rattle.edge_io.specs.Files.{FileContent, Holds, IsLonger, SameFiles}
use Rattle.command_ends.specs.World.{IsOver, IsQuiet, IsShownWithin, SeenFiles, WasRead}

-- a file that was read within a limit isn't over it
pub not_over : (limit : ℕ) (content : Option FileContent) (bytes : List ℕ) → Holds bytes content → length bytes ≤ limit → IsOver limit content → ⊥
not_over limit None bytes here within over = over
not_over limit (Some None) bytes here within over = over
not_over limit (Some (Some held)) bytes here within over = let same : length held ≡ length bytes =
    ap length (same_Some held bytes here) in omega (arith, same, within, over)

pub read_not_over : {limit : ℕ} {content : Option FileContent} {P : List ℕ → Type 0} → WasRead limit content P → IsOver limit content → ⊥
read_not_over {limit = limit} {content = content} read = not_over limit content read.bytes read.read read.within

-- what is visible of a file within a limit isn't at odds with its bytes
pub not_both : (limit : ℕ) (P Q : List ℕ → Type 0) → ((bytes : List ℕ) → P bytes → Q bytes → ⊥) → (content : Option FileContent) → IsShownWithin limit content P
    → (bytes : List ℕ) → Holds bytes content → Q bytes → ⊥
not_both limit P Q never None holds bytes here is = holds
not_both limit P Q never (Some None) holds bytes here is = holds
not_both limit P Q never (Some (Some held)) holds bytes here is = never bytes (subst P (same_Some held bytes here) holds.1) is

-- a file within a limit isn't longer
pub not_longer : (limit : ℕ) (P : List ℕ → Type 0) (content : Option FileContent) → IsShownWithin limit content P → IsLonger limit content → ⊥
not_longer limit P None within longer = within
not_longer limit P (Some None) within longer = within
not_longer limit P (Some (Some held)) within longer = let same : length held ≡ length longer.0 =
    ap length (same_Some held longer.0 longer.1) in omega (arith, same, within.0, longer.2)

-- a file that was read, or is longer than a limit, is there
pub not_missing : (content : Option FileContent) (bytes : List ℕ) → Holds bytes content → content ≡ Some None → ⊥
not_missing None bytes here is = absurd (cc is)
not_missing (Some None) bytes here is = absurd (cc here)
not_missing (Some (Some held)) bytes here is = absurd (cc is)

pub read_not_missing : {limit : ℕ} {content : Option FileContent} {P : List ℕ → Type 0} → WasRead limit content P → content ≡ Some None → ⊥
read_not_missing {content = content} read = not_missing content read.bytes read.read

pub longer_not_missing : (limit : ℕ) (content : Option FileContent) → IsLonger limit content → content ≡ Some None → ⊥
longer_not_missing limit None longer is = absurd (cc is)
longer_not_missing limit (Some None) longer is = absurd (cc longer.1)
longer_not_missing limit (Some (Some held)) longer is = absurd (cc is)

-- files that are as before, without a failed call, are seen as before
pub same_seen : (files files' : SeenFiles) → SameFiles files.shown files'.shown → IsQuiet files files' → files' ≡ files
same_seen files files' same quiet =
    ap (λ (shown : List ℕ → Option FileContent). record { shown = shown; faults = files'.faults }) (fun_ext same)
    ∙ ap (λ (faults : ℕ). record { shown = files.shown; faults = faults }) quiet
