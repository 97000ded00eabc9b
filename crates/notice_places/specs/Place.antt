-- Where a byte of a text is: its line, and its column in characters, both from 1.
use Rattle.std.specs.Prelude.{ℕ, List, ◌==◌, ◌&&◌, nat_le, fold, Bool, if◌then◌else◌}
use Rattle.faults.specs.Count.{one_more}
use Rattle.notice_places.specs.declared.place.Place.{Place}

-- the byte ends a line
abbrev pub is_newline : ℕ → Bool
is_newline byte = byte == 10

-- the byte goes on with a character of UTF-8 that an earlier byte began
abbrev pub is_continuation : ℕ → Bool
is_continuation byte = nat_le 128 byte && nat_le byte 191

-- the first line and column
abbrev pub first_place : Place
first_place = record { line = 1; column = 1 }

-- where the byte after this byte is
abbrev pub after_byte : Place → ℕ → Place
after_byte place byte =
    if is_newline byte then record { line = one_more place.line; column = 1 }
    else (if is_continuation byte then place else record place { column = one_more place.column })

-- where the byte after these bytes is
abbrev pub place_after : List ℕ → Place
place_after bytes = fold after_byte first_place bytes
