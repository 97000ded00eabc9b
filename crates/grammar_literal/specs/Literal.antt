-- How the literal of a token prints.
use Rattle.std.specs.Prelude.{ℕ, true, ◌&&◌, ◌==◌, nat_le, List, [], ◌∷◌, ◌++◌, if◌then◌else◌, codes, encode_utf8_all}
use Rattle.std.specs.List.{flat_map}
use Rattle.std.specs.Fmt.{radix_digits}

-- a character by its number, in upper-case hexadecimal
abbrev pub code_of : ℕ → List ℕ
code_of c = codes "\\u{" ++ (radix_digits 16 true c ++ codes "}")

-- A character in a literal: those from the space to `~` as themselves, but for `\'` and `\\`; a
-- newline, return and tab as `\n`, `\r` and `\t`; all others by their number.
abbrev pub escaped : ℕ → List ℕ
escaped c =
    if c == 39 then codes "\\'"
    else if c == 92 then codes "\\\\"
    else if c == 10 then codes "\\n"
    else if c == 13 then codes "\\r"
    else if c == 9 then codes "\\t"
    else if nat_le 32 c && nat_le c 126 then c ∷ []
    else code_of c

-- the characters of a literal
abbrev pub content : List ℕ → List ℕ
content literal = flat_map escaped literal

-- the bytes of the literal in quotes
abbrev pub literal_bytes : List ℕ → List ℕ
literal_bytes literal = codes "'" ++ (encode_utf8_all (content literal) ++ codes "'")
