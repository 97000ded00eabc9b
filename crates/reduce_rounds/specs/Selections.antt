-- Which keep lists a list step may try, and which elements may remain at its end.
use Rattle.std.specs.Prelude.{◌≡◌, ◌<◌, ◌⊎◌, ℕ, Bool, true, false, List, length, replicate}
use Rattle.list_ddmin.specs.ListStep.{kept_count}

-- some of so many elements, but not all of them; and where they may not all go, at least one
pub record IsSelection (len : ℕ) (may_be_empty : Bool) (keep : List Bool) : Type 0 where
  pub length : length keep ≡ len
  pub fewer : kept_count keep < len
  pub some : may_be_empty ≡ false → 0 < kept_count keep

-- all of so many elements, or a selection of them
abbrev pub IsRemainder : ℕ → Bool → List Bool → Type 0
IsRemainder len may_be_empty keep = (keep ≡ replicate len true) ⊎ IsSelection len may_be_empty keep
