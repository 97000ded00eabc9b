-- What follows a piece is the end of what stood there.
use Rattle.std.proofs.Common.{◌≡◌, ℕ, zero, suc, ◌+◌, ◌-◌, ◌≤◌, ◌<◌, Bool, true, false, cond, ◌&&◌, ◌==◌, nat_le, List, [], ◌∷◌}
use Rattle.std.proofs.Common.{Option, Some, None, length, take, drop, refl, ap, sym, subst, ◌∙◌, arith, length-drop}
use Rattle.std.proofs.lemmas.List.{drop-drop}
use Rattle.std.specs.List.{prefix_len}
use Rattle.std.specs.Char.{is_ascii_hexdigit, is_ascii_alphabetic}
use lib.Utf8.{scalar}
use Rattle.grammar_reader_words.specs.Cursor.{uncons}
use Rattle.grammar_reader_words.specs.Names.{is_part}
use Rattle.grammar_reader_words.specs.Quoted.{begins, hex_after, braced_hex, plain_hex, hex_escape, escape_by, escape, Piece, as_character, literal_piece}
use Rattle.grammar_reader_words.specs.Quoted.{as_code, property_name, property, set_escape_by, set_escape, set_piece, Pieces, put, gathered, pieces_from}
use Rattle.grammar_reader_words.specs.declared.quoted.Mark.TheVariants.{Code, Dash, Property}

-- the last characters of `cs`
pub record Ends (cs rest : List ℕ) : Type 0 where
  pub passed : ℕ
  pub cut : rest ≡ drop passed cs
  pub fits : passed ≤ length cs

abbrev pub EndsIn : {A : Type 0} → List ℕ → Option (A × List ℕ) → Type 0
EndsIn cs None = Unit {0}
EndsIn cs (Some (a, rest)) = Ends cs rest

abbrev pub RestEnds : List ℕ → Option (List ℕ) → Type 0
RestEnds cs None = Unit {0}
RestEnds cs (Some rest) = Ends cs rest

pub choose : {A : Type 0} (P : A → Type 0) (b : Bool) {x y : A} → P x → P y → P (cond b x y)
choose P true p q = p
choose P false p q = q

pub whole : (cs : List ℕ) → Ends cs cs
whole cs = record { passed = 0; cut = refl; fits = omega arith }

-- at most all are passed
pub least : (n : ℕ) (cs : List ℕ) → Ends cs (drop n cs)
least zero cs = whole cs
least (suc n) [] = record { passed = 0; cut = refl; fits = omega arith }
least (suc n) (c ∷ cs) =
    let e : Ends cs (drop n cs) = least n cs in
    record { passed = suc e.passed; cut = e.cut; fits = omega (arith, e.fits) }

pub one_more : (c : ℕ) {cs rest : List ℕ} → Ends cs rest → Ends (c ∷ cs) rest
one_more c e = record { passed = suc e.passed; cut = e.cut; fits = omega (arith, e.fits) }

pub over : {cs mid rest : List ℕ} → Ends cs mid → Ends mid rest → Ends cs rest
over {cs} {mid} {rest} e f =
    let len : length mid ≡ length cs - e.passed = ap length e.cut ∙ length-drop e.passed cs in
    record {
      passed = e.passed + f.passed;
      cut = f.cut ∙ ap (drop f.passed) e.cut ∙ drop-drop f.passed e.passed cs;
      fits = omega (arith, e.fits, f.fits);
    }

braced_ends : (cs : List ℕ) → EndsIn cs (braced_hex cs)
braced_ends cs =
    let n : ℕ = prefix_len is_ascii_hexdigit cs in
    choose (EndsIn cs) ((nat_le 1 n && nat_le n 6) && begins (λ c. c == 125) (drop n cs)) {x = Some (hex_after 0 (take n cs), drop (n + 1) cs)} {y = None}
    (least (n + 1) cs) tt

plain_ends : (cs : List ℕ) → EndsIn cs (plain_hex cs)
plain_ends cs = choose (EndsIn cs) (nat_le 4 (prefix_len is_ascii_hexdigit cs)) {x = Some (hex_after 0 (take 4 cs), drop 4 cs)} {y = None} (least 4 cs) tt

more : {A : Type 0} (c : ℕ) (cs : List ℕ) (o : Option (A × List ℕ)) → EndsIn cs o → EndsIn (c ∷ cs) o
more c cs None e = tt
more c cs (Some (a, rest)) e = one_more c e

hex_ends : (cs : List ℕ) → EndsIn cs (hex_escape cs)
hex_ends [] = tt
hex_ends (c ∷ cs) =
    choose (EndsIn (c ∷ cs)) (c == 123) {x = braced_hex cs} {y = plain_hex (c ∷ cs)} (more c cs (braced_hex cs) (braced_ends cs)) (plain_ends (c ∷ cs))

escape_by_ends : (c : ℕ) (cs : List ℕ) → EndsIn cs (escape_by c cs)
escape_by_ends c cs =
    choose (EndsIn cs) (c == 110) (whole cs) (
    choose (EndsIn cs) (c == 114) (whole cs) (
    choose (EndsIn cs) (c == 116) (whole cs) (
    choose (EndsIn cs) (c == 98) (whole cs) (
    choose (EndsIn cs) (c == 102) (whole cs) (
    choose (EndsIn cs) (c == 92) (whole cs) (
    choose (EndsIn cs) (c == 39) (whole cs) (
    choose (EndsIn cs) (c == 117) {x = hex_escape cs} {y = None} (hex_ends cs) tt)))))))

escape_ends : (cs : List ℕ) → EndsIn cs (escape cs)
escape_ends [] = tt
escape_ends (c ∷ cs) = more c cs (escape_by c cs) (escape_by_ends c cs)

character_ends : (cs : List ℕ) (o : Option (ℕ × List ℕ)) → EndsIn cs o → EndsIn cs (as_character o)
character_ends cs None e = tt
character_ends cs (Some (v, rest)) e = choose (EndsIn cs) (scalar v) {x = Some (Some v, rest)} {y = None} e tt

pub literal_piece_ends : (c : ℕ) (cs : List ℕ) → EndsIn cs (literal_piece c cs)
literal_piece_ends c cs =
    choose (EndsIn cs) (c == 39) {x = Some (None, cs)} (whole cs) (
    choose (EndsIn cs) (c == 10) {x = None} tt (
    choose (EndsIn cs) (c == 92) {x = as_character (escape cs)} {y = Some (Some c, cs)} (character_ends cs (escape cs) (escape_ends cs)) (whole cs)))

code_ends : (cs : List ℕ) (o : Option (ℕ × List ℕ)) → EndsIn cs o → EndsIn cs (as_code o)
code_ends cs None e = tt
code_ends cs (Some (v, rest)) e = choose (EndsIn cs) (nat_le v 0x10FFFF) {x = Some (Some (Code v), rest)} {y = None} e tt

property_name_ends : (cs : List ℕ) → EndsIn cs (property_name cs)
property_name_ends cs =
    let n : ℕ = prefix_len is_part cs in
    choose (EndsIn cs) (begins is_ascii_alphabetic cs && begins (λ c. c == 125) (drop n cs)) {x = Some (Some Property, drop 1 (drop n cs))} {y = None}
    (over (least n cs) (least 1 (drop n cs))) tt

property_ends : (cs : List ℕ) → EndsIn cs (property cs)
property_ends [] = tt
property_ends (c ∷ cs) = choose (EndsIn (c ∷ cs)) (c == 123) {x = property_name cs} {y = None} (more c cs (property_name cs) (property_name_ends cs)) tt

set_escape_by_ends : (c : ℕ) (cs : List ℕ) → EndsIn cs (set_escape_by c cs)
set_escape_by_ends c cs =
    choose (EndsIn cs) (c == 93) {x = Some (Some (Code 93), cs)} (whole cs) (
    choose (EndsIn cs) (c == 45) {x = Some (Some (Code 45), cs)} (whole cs) (
    choose (EndsIn cs) (c == 112) {x = property cs} (property_ends cs) (
    choose (EndsIn cs) (c == 80) {x = property cs} {y = as_code (escape_by c cs)} (property_ends cs) (code_ends cs (escape_by c cs) (escape_by_ends c cs)))))

set_escape_ends : (cs : List ℕ) → EndsIn cs (set_escape cs)
set_escape_ends [] = tt
set_escape_ends (c ∷ cs) = more c cs (set_escape_by c cs) (set_escape_by_ends c cs)

pub set_piece_ends : (c : ℕ) (cs : List ℕ) → EndsIn cs (set_piece c cs)
set_piece_ends c cs =
    choose (EndsIn cs) (c == 93) {x = Some (None, cs)} (whole cs) (
    choose (EndsIn cs) (c == 10) {x = None} tt (
    choose (EndsIn cs) (c == 92) {x = set_escape cs} (set_escape_ends cs) (
    choose (EndsIn cs) (c == 45) {x = Some (Some Dash, cs)} {y = Some (Some (Code c), cs)} (whole cs) (whole cs))))

-- how many characters were passed
pub passed_len : (cs rest : List ℕ) → Ends cs rest → (k : ℕ) → k ≡ length cs - length rest → drop k cs ≡ rest
passed_len cs rest e k h =
    let len : length rest ≡ length cs - e.passed = ap length e.cut ∙ length-drop e.passed cs in
    let same : k ≡ e.passed = omega (arith, e.fits) in
    ap (λ n. drop n cs) same ∙ sym e.cut

module _ {A : Type 0} (piece : ℕ → List ℕ → Piece A) where
  pieces_skip : (k : ℕ) (cs : List ℕ) → pieces_from piece k cs ≡ pieces_from piece 0 (drop k cs)
  pieces_skip zero cs = refl
  pieces_skip (suc k) [] = refl
  pieces_skip (suc k) (c ∷ cs) = pieces_skip k cs

  -- one piece more
  pub pieces_more : (c : ℕ) (cs : List ℕ) (a : A) (rest : List ℕ) → piece c cs ≡ Some (Some a, rest) → Ends cs rest
      → pieces_from piece 0 (c ∷ cs) ≡ put a (pieces_from piece 0 rest)
  pieces_more c cs a rest e t =
      ap (λ o. gathered o (λ rest. pieces_from piece (length cs - length rest) cs)) e
      ∙ ap (put a) (pieces_skip (length cs - length rest) cs ∙ ap (pieces_from piece 0) (passed_len cs rest t (length cs - length rest) refl))

  put_ends : (cs : List ℕ) (a : A) (o : Pieces A) → EndsIn cs o → EndsIn cs (put a o)
  put_ends cs a None e = tt
  put_ends cs a (Some (as', rest)) e = e

  gathered_ends : (cs : List ℕ) (o : Piece A) → EndsIn cs o → (go : List ℕ → Pieces A) → ((rest : List ℕ) → EndsIn cs (go rest)) → EndsIn cs (gathered o go)
  gathered_ends cs None e go h = tt
  gathered_ends cs (Some (None, rest)) e go h = e
  gathered_ends cs (Some (Some a, rest)) e go h = put_ends cs a (go rest) (h rest)

  pub pieces_ends : ((c : ℕ) (cs : List ℕ) → EndsIn cs (piece c cs)) → (k : ℕ) (cs : List ℕ) → EndsIn cs (pieces_from piece k cs)
  pieces_ends h k [] = tt
  pieces_ends h (suc k) (c ∷ cs) = more c cs (pieces_from piece k cs) (pieces_ends h k cs)
  pieces_ends h zero (c ∷ cs) =
      more c cs (pieces_from piece zero (c ∷ cs))
      (gathered_ends cs (piece c cs) (h c cs) (λ rest. pieces_from piece (length cs - length rest) cs) (λ rest. pieces_ends h (length cs - length rest) cs))

  module _ (c : ℕ) (cs : List ℕ) where
    pub at_closed : (all rest : List ℕ) → Some (c, cs) ≡ uncons all → Some (None, rest) ≡ piece c cs → pieces_from piece 0 all ≡ Some ([], rest)
    at_closed [] rest e h = absurd (cc e)
    at_closed (x ∷ xs) rest e h =
        let pair : ◌≡◌ {A = ℕ × List ℕ} (c, cs) (x, xs) = cc in
        let same : piece x xs ≡ Some (None, rest) = ap (λ p. piece p.0 p.1) (sym pair) ∙ sym h in
        ap (λ o. gathered o (λ rest. pieces_from piece (length xs - length rest) xs)) same

    pub at_one : ((c : ℕ) (cs : List ℕ) → EndsIn cs (piece c cs)) → (all rest : List ℕ) (a : A) → Some (c, cs) ≡ uncons all → Some (Some a, rest) ≡ piece c cs →
        (pieces_from piece 0 all ≡ put a (pieces_from piece 0 rest)) × (length rest < length all)
    at_one ends [] rest a e h = absurd (cc e)
    at_one ends (x ∷ xs) rest a e h =
        let pair : ◌≡◌ {A = ℕ × List ℕ} (c, cs) (x, xs) = cc in
        let same : piece x xs ≡ Some (Some a, rest) = ap (λ p. piece p.0 p.1) (sym pair) ∙ sym h in
        let tail : Ends xs rest = subst (EndsIn xs) same (ends x xs) in
        let len : length rest ≡ length xs - tail.passed = ap length tail.cut ∙ length-drop tail.passed xs in
        (pieces_more x xs a rest same tail, omega arith)
