-- What was put into a sink, where that is visible.
use Rattle.std.specs.Prelude.{◌≡◌, ℕ, List, [], ◌++◌, Option, option_map, take}

-- the bytes that were put since the last opening, and the name of that opening
pub record Put : Type 0 where
  pub bytes : List ℕ
  pub name : List ℕ

-- nothing was put since the opening of this name
abbrev pub empty_put : List ℕ → Put
empty_put name = record { bytes = []; name = name }

-- the piece was put after what was there; the name stays
abbrev pub with_piece : List ℕ → Put → Put
with_piece piece put = record put { bytes = put.bytes ++ piece }

-- where it is visible, some prefix of the piece was put, and no more; the name stays
abbrev pub GrewByPrefix : List ℕ → Option Put → Option Put → Type 0
GrewByPrefix piece old new = (count : ℕ) × (new ≡ option_map (with_piece (take count piece)) old)
