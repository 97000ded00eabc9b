-- Literals and sets. What is between their quotes or brackets is read piece by piece: a piece is one character or one escape.
use Rattle.std.specs.Prelude.{ℕ, zero, suc, ◌+◌, ◌-◌, ◌*◌, Bool, true, false, ◌&&◌, ◌==◌, cond, nat_le, nat_lt}
use Rattle.std.specs.Prelude.{List, [], ◌∷◌, Option, Some, None, length, take, drop}
use Rattle.std.specs.List.{prefix_len}
use Rattle.std.specs.Char.{digit_value, is_ascii_hexdigit, is_ascii_alphabetic}
use lib.Utf8.{scalar}
use Rattle.grammar_reader_words.specs.Names.{is_part}
use Rattle.grammar_reader_words.specs.declared.quoted.Mark.{Mark}
use Rattle.grammar_reader_words.specs.declared.quoted.Mark.TheVariants.{Code, Dash, Property}

-- the first character passes the test
abbrev pub begins : (ℕ → Bool) → List ℕ → Bool
begins p [] = false
begins p (c ∷ cs) = p c

-- what a hexadecimal digit is worth
abbrev pub hex_digit : ℕ → ℕ
hex_digit c = cond (nat_lt (digit_value c) 16) (digit_value c) 0

-- the number that hexadecimal digits write after those that wrote `v`
abbrev pub hex_after : ℕ → List ℕ → ℕ
hex_after v [] = v
hex_after v (c ∷ cs) = hex_after (v * 16 + hex_digit c) cs

-- `X}` of an escape `\u{X}`: one to six digits; the number and what follows
abbrev pub braced_hex : List ℕ → Option (ℕ × List ℕ)
braced_hex cs =
    let n = prefix_len is_ascii_hexdigit cs in
    cond ((nat_le 1 n && nat_le n 6) && begins (λ c. c == 125) (drop n cs)) (Some (hex_after 0 (take n cs), drop (n + 1) cs)) None

-- `XXXX` of an escape `\uXXXX`
abbrev pub plain_hex : List ℕ → Option (ℕ × List ℕ)
plain_hex cs = cond (nat_le 4 (prefix_len is_ascii_hexdigit cs)) (Some (hex_after 0 (take 4 cs), drop 4 cs)) None

abbrev pub hex_escape : List ℕ → Option (ℕ × List ℕ)
hex_escape [] = None
hex_escape (c ∷ cs) = cond (c == 123) (braced_hex cs) (plain_hex (c ∷ cs))

-- the escapes that literals and sets share, by the character after the `\`: the number that is named and what follows
abbrev pub escape_by : ℕ → List ℕ → Option (ℕ × List ℕ)
escape_by c cs =
    cond (c == 110) (Some (10, cs)) (
    cond (c == 114) (Some (13, cs)) (
    cond (c == 116) (Some (9, cs)) (
    cond (c == 98) (Some (8, cs)) (
    cond (c == 102) (Some (12, cs)) (
    cond (c == 92) (Some (92, cs)) (
    cond (c == 39) (Some (39, cs)) (
    cond (c == 117) (hex_escape cs) None)))))))

abbrev pub escape : List ℕ → Option (ℕ × List ℕ)
escape [] = None
escape (c ∷ cs) = escape_by c cs

-- one piece and what follows it; no piece at the closing sign; nothing where neither can be there
abbrev pub Piece : Type 0 → Type 0
Piece A = Option (Option A × List ℕ)

-- an escape that names a character
abbrev pub as_character : Option (ℕ × List ℕ) → Piece ℕ
as_character None = None
as_character (Some (v, rest)) = cond (scalar v) (Some (Some v, rest)) None

-- in a literal
abbrev pub literal_piece : ℕ → List ℕ → Piece ℕ
literal_piece c cs =
    cond (c == 39) (Some (None, cs)) (
    cond (c == 10) None (
    cond (c == 92) (as_character (escape cs)) (
    Some (Some c, cs))))

-- an escape that names a code unit: a surrogate may be in a set
abbrev pub as_code : Option (ℕ × List ℕ) → Piece Mark
as_code None = None
as_code (Some (v, rest)) = cond (nat_le v 0x10FFFF) (Some (Some (Code v), rest)) None

-- `name}` of a property
abbrev pub property_name : List ℕ → Piece Mark
property_name cs =
    let n = prefix_len is_part cs in
    cond (begins is_ascii_alphabetic cs && begins (λ c. c == 125) (drop n cs)) (Some (Some Property, drop 1 (drop n cs))) None

-- `{name}`
abbrev pub property : List ℕ → Piece Mark
property [] = None
property (c ∷ cs) = cond (c == 123) (property_name cs) None

abbrev pub set_escape_by : ℕ → List ℕ → Piece Mark
set_escape_by c cs =
    cond (c == 93) (Some (Some (Code 93), cs)) (
    cond (c == 45) (Some (Some (Code 45), cs)) (
    cond (c == 112) (property cs) (
    cond (c == 80) (property cs) (
    as_code (escape_by c cs)))))

abbrev pub set_escape : List ℕ → Piece Mark
set_escape [] = None
set_escape (c ∷ cs) = set_escape_by c cs

-- in a set
abbrev pub set_piece : ℕ → List ℕ → Piece Mark
set_piece c cs =
    cond (c == 93) (Some (None, cs)) (
    cond (c == 10) None (
    cond (c == 92) (set_escape cs) (
    cond (c == 45) (Some (Some Dash, cs)) (
    Some (Some (Code c), cs)))))

-- the pieces up to the closing sign, and what follows it
abbrev pub Pieces : Type 0 → Type 0
Pieces A = Option (List A × List ℕ)

abbrev pub put : {A : Type 0} → A → Pieces A → Pieces A
put a None = None
put a (Some (as', rest)) = Some (a ∷ as', rest)

abbrev pub gathered : {A : Type 0} → Piece A → (List ℕ → Pieces A) → Pieces A
gathered None go = None
gathered (Some (None, rest)) go = Some ([], rest)
gathered (Some (Some a, rest)) go = put a (go rest)

-- The number counts the characters that belong to the piece before.
abbrev pub pieces_from : {A : Type 0} → (ℕ → List ℕ → Piece A) → ℕ → List ℕ → Pieces A
pieces_from piece skip [] = None
pieces_from piece (suc skip) (c ∷ cs) = pieces_from piece skip cs
pieces_from piece zero (c ∷ cs) = gathered (piece c cs) (λ rest. pieces_from piece (length cs - length rest) cs)

abbrev pub plain : Mark → Mark
plain Dash = Code 45
plain m = m

abbrev pub first_plain : List Mark → List Mark
first_plain [] = []
first_plain (m ∷ ms) = plain m ∷ ms

abbrev pub last_plain : List Mark → List Mark
last_plain [] = []
last_plain (m ∷ []) = plain m ∷ []
last_plain (m ∷ (n ∷ ms)) = m ∷ last_plain (n ∷ ms)

-- A `-` that is first or last in a set is itself.
abbrev pub outer_dashes_plain : List Mark → List Mark
outer_dashes_plain ms = last_plain (first_plain ms)

abbrev pub with_range : ℕ × ℕ → Option (List (ℕ × ℕ)) → Option (List (ℕ × ℕ))
with_range r None = None
with_range r (Some rs) = Some (r ∷ rs)

-- The ranges that the marks write, in their order; a single character is a range of one. Nothing
-- where a `-` is no sign of a range, or a range's first end is above its last.
abbrev pub ranges_of : List Mark → Option (List (ℕ × ℕ))
ranges_of [] = Some []
ranges_of (Dash ∷ ms) = None
ranges_of (Property ∷ ms) = ranges_of ms
ranges_of (Code a ∷ Dash ∷ Code b ∷ ms) = cond (nat_le a b) (with_range (a, b) (ranges_of ms)) None
ranges_of (Code a ∷ ms) = with_range (a, a) (ranges_of ms)

abbrev pub has_property : List Mark → Bool
has_property [] = false
has_property (Property ∷ ms) = true
has_property (m ∷ ms) = has_property ms
