-- The pieces of the programs' lines, and how they are read.
use Rattle.std.proofs.Common.{◌≡◌, ◌≢◌, ℕ, zero, suc, Bool, true, false, ◌&&◌, cond, nat_eq, List, [], ◌∷◌, ◌++◌, Option}
use Rattle.std.proofs.Common.{Some, None, slice_get, codes, refl, sym, subst, append_assoc, true≢false}
use Rattle.std.proofs.lemmas.Bool.{and_parts, eqb-true}
use Rattle.std.proofs.lemmas.Slice.Eq.{bytes_eq-Decides}
use Rattle.regex_class.specs.Ranges.{in_range, in_ranges}
use Rattle.grammar_tree.specs.Written.{LexerSeq}
use Rattle.grammar_tree.specs.Lexes.{IsNext, KindMatches, LexesTo, Piece}
use Rattle.case_reduction.specs.Mini.{mini}
use Rattle.case_reduction.proofs.Scan.{all_end, ends_all, ends_but, next_before, next_last, none_below, others_end, states}
use Rattle.case_reduction.proofs.MiniKinds.{kinds_mini, literals, mini_kinds, mini_nameless}
use Rattle.case_reduction.proofs.Spelled.{note_ends, spelled, spelled_matches}

-- a piece of this kind
abbrev pub of_kind : ℕ → List ℕ → Piece
of_kind k w = record { kind = k; text = w }

-- the texts of pieces, one after another
abbrev pub texts : List Piece → List ℕ
texts [] = []
texts (q ∷ ps) = q.text ++ texts ps

abbrev literal_at : Option (List ℕ) → List ℕ
literal_at None = []
literal_at (Some w) = w

-- a literal, an ID, an INT, a space, and a newline with two spaces
abbrev literal : ℕ → Piece
literal k = of_kind k (literal_at (slice_get literals k))

abbrev id : List ℕ → Piece
id w = of_kind 17 w

abbrev int : List ℕ → Piece
int w = of_kind 18 w

abbrev space : Piece
space = of_kind 22 (codes " ")

abbrev indent : Piece
indent = of_kind 22 (codes "\n  ")

abbrev pub newline : Piece
newline = of_kind 22 (codes "\n")

-- a line of a function's body, with the newline before it: one of four forms, or the target line
pub data Line : Type 0 where
  form : ℕ → Line
  target : Line

abbrev pub line_pieces : Line → List Piece
line_pieces (Line.form zero) =
    indent ∷ literal 3 ∷ space ∷ id (codes "c") ∷ space ∷ literal 7 ∷ space ∷ id (codes "a") ∷ space ∷ literal 13 ∷ space ∷ int (codes "2") ∷ literal 8 ∷ []
line_pieces (Line.form (suc zero)) =
    indent ∷ literal 9 ∷ space ∷ literal 0 ∷ id (codes "a") ∷ literal 1 ∷ space ∷ literal 5 ∷ space ∷ id (codes "b") ∷ space ∷ literal 7 ∷ space ∷ id
    (codes "f0") ∷ literal 0 ∷ id (codes "a") ∷ literal 2 ∷ space ∷ int (codes "1") ∷ literal 1 ∷ literal 8
    ∷ space ∷ literal 6 ∷ space ∷ literal 10 ∷ space ∷ literal 5 ∷ space ∷ literal 12 ∷ space ∷ id (codes "b") ∷ literal 8 ∷ space ∷ literal 6 ∷ []
line_pieces (Line.form (suc (suc zero))) =
    indent ∷ literal 11 ∷ space ∷ literal 0 ∷ id (codes "b") ∷ space ∷ literal 16 ∷ space ∷ int (codes "1") ∷ literal 1 ∷ space ∷ literal 5 ∷ space ∷ id
    (codes "b") ∷ space ∷ literal 7 ∷ space ∷ literal 0 ∷ id (codes "a") ∷ space ∷ literal 15 ∷ space ∷ id (codes "b")
    ∷ literal 1 ∷ space ∷ literal 14 ∷ space ∷ int (codes "3") ∷ literal 8 ∷ space ∷ literal 6 ∷ space ∷ of_kind 21 (codes "// loop") ∷ []
line_pieces (Line.form (suc (suc (suc n)))) =
    indent ∷ of_kind 20 (codes "/* note */") ∷ space ∷ literal 12 ∷ space ∷ of_kind 19 (codes "\"s\"") ∷ space ∷ literal 15 ∷ space ∷ id
    (codes "a") ∷ literal 8 ∷ []
line_pieces Line.target =
    indent ∷ id (codes "Q") ∷ space ∷ literal 7 ∷ space ∷ id (codes "f0") ∷ literal 0 ∷ id (codes "a") ∷ literal 2 ∷ space ∷ literal 0 ∷ id
    (codes "b") ∷ space ∷ literal 15 ∷ space ∷ of_kind 19 (codes "\"Z\"") ∷ literal 1 ∷ literal 1 ∷ literal 8 ∷ []

-- before a function's number, and after it
abbrev pub before_name : List Piece
before_name = literal 3 ∷ space ∷ []

abbrev pub after_name : List Piece
after_name = literal 0 ∷ literal 3 ∷ space ∷ id (codes "a") ∷ literal 2 ∷ space ∷ literal 4 ∷ space ∷ id (codes "b") ∷ literal 1 ∷ space ∷ literal 5 ∷ []

-- the end of a function
abbrev pub end_pieces : List Piece
end_pieces = newline ∷ literal 6 ∷ []

abbrev first : List ℕ → ℕ → ℕ
first [] c = c
first (d ∷ w) c = d

abbrev some : List ℕ → Bool
some [] = false
some (c ∷ w) = true

some_cons : (w : List ℕ) → some w ≡ true → w ≢ []
some_cons [] h e = true≢false (sym h)
some_cons (c ∷ w) h e = cc e

-- only a note may be gone on with, as a comment is non-greedy
abbrev ends : ℕ → ℕ → List (List LexerSeq) → Bool
ends k c after = cond (nat_eq k 20) (others_end 20 c after) (all_end c after)

-- the piece is what comes next before this character
abbrev is_next : ℕ → List ℕ → ℕ → Bool
is_next k w c = some w && (spelled k w && (none_below k (states mini mini_kinds w) && ends k c (states mini mini_kinds w)))

-- each of the pieces is, where the character comes after the last one
abbrev are_next : List Piece → ℕ → Bool
are_next [] c = true
are_next (q ∷ ps) c = is_next q.kind q.text (first (texts ps) c) && are_next ps c

none_goes_on : (k : ℕ) (w : List ℕ) (c : ℕ) → spelled k w ≡ true → ends k c (states mini mini_kinds w) ≡ true → (other : ℕ) (more : List ℕ)
    → KindMatches mini other (w ++ (c ∷ more)) → ⊥
none_goes_on k w c s h other more m = pick (nat_eq k 20) refl h
  where
    pick : (b : Bool) → nat_eq k 20 ≡ b → cond b (others_end 20 c (states mini mini_kinds w)) (all_end c (states mini mini_kinds w)) ≡ true → ⊥
    pick false e h = ends_all mini mini_kinds kinds_mini mini_nameless w c h other more m
    pick true e h =
        let is : k ≡ 20 = eqb-true k 20 e in
        let note : w ≡ codes "/* note */" = (bytes_eq-Decides w (codes "/* note */")).0 (subst (λ x. spelled x w ≡ true) is s) in
        ends_but mini mini_kinds kinds_mini mini_nameless 20 w c h
        (λ more m. note_ends c more (subst (λ x. KindMatches mini 20 (x ++ (c ∷ more))) note m)) other more m

next_piece : (k : ℕ) (w : List ℕ) (c : ℕ) (more : List ℕ) → is_next k w c ≡ true → IsNext mini (w ++ (c ∷ more)) k w (c ∷ more)
next_piece k w c more h =
    let (cons, rest) = and_parts (some w) _ h in
    let (s, rest) = and_parts (spelled k w) _ rest in
    let (below, ending) = and_parts (none_below k (states mini mini_kinds w)) _ rest in
    next_before mini mini_kinds kinds_mini mini_nameless k w c more (some_cons w cons) (spelled_matches k w s) below (none_goes_on k w c s ending)

-- the same where other pieces come before the character
next_among : (k : ℕ) (w later : List ℕ) (c : ℕ) (more : List ℕ) → is_next k w (first later c) ≡ true
    → IsNext mini (w ++ (later ++ (c ∷ more))) k w (later ++ (c ∷ more))
next_among k w [] c more h = next_piece k w c more h
next_among k w (d ∷ later) c more h = next_piece k w d (later ++ (c ∷ more)) h

-- these pieces are read up to a character
pub reads : (ps : List Piece) (c : ℕ) (more : List ℕ) → are_next ps c ≡ true → LexesTo mini (texts ps ++ (c ∷ more)) ps (c ∷ more)
reads [] c more h = LexesTo.by_end (c ∷ more)
reads (q ∷ ps) c more h =
    let (one, others) = and_parts (is_next q.kind q.text (first (texts ps) c)) (are_next ps c) h in
    let P : List ℕ → Type 0 = λ x. LexesTo mini x (q ∷ ps) (c ∷ more) in
    subst P (sym (append_assoc q.text (texts ps) (c ∷ more)))
    (LexesTo.by_piece (q.text ++ (texts ps ++ (c ∷ more))) q.kind q.text (texts ps ++ (c ∷ more)) (c ∷ more) ps (next_among q.kind q.text (texts ps) c more one)
    (reads ps c more others))

-- first these pieces, then those
pub reads_on : {text between left : List ℕ} {ps qs : List Piece} → LexesTo mini text ps between → LexesTo mini between qs left
    → LexesTo mini text (ps ++ qs) left
reads_on (LexesTo.by_end text) n = n
reads_on (LexesTo.by_piece text kind piece rest left pieces next more) n = LexesTo.by_piece text kind piece rest _ _ next (reads_on more n)

first_line : are_next (line_pieces (Line.form 0)) 10 ≡ true
unfolding in_ranges in_range
first_line = refl

second_line : are_next (line_pieces (Line.form 1)) 10 ≡ true
unfolding in_ranges in_range
second_line = refl

third_line : are_next (line_pieces (Line.form 2)) 10 ≡ true
unfolding in_ranges in_range
third_line = refl

fourth_line : are_next (line_pieces (Line.form 3)) 10 ≡ true
unfolding in_ranges in_range
fourth_line = refl

target_line : are_next (line_pieces Line.target) 10 ≡ true
unfolding in_ranges in_range
target_line = refl

-- the lines, before a newline
pub line_reads : (line : Line) (more : List ℕ) → LexesTo mini (texts (line_pieces line) ++ (10 ∷ more)) (line_pieces line) (10 ∷ more)
line_reads (Line.form zero) more = reads (line_pieces (Line.form 0)) 10 more first_line
line_reads (Line.form (suc zero)) more = reads (line_pieces (Line.form 1)) 10 more second_line
line_reads (Line.form (suc (suc zero))) more = reads (line_pieces (Line.form 2)) 10 more third_line
line_reads (Line.form (suc (suc (suc n)))) more = reads (line_pieces (Line.form 3)) 10 more fourth_line
line_reads Line.target more = reads (line_pieces Line.target) 10 more target_line

name_before : are_next before_name 102 ≡ true
unfolding in_ranges in_range
name_before = refl

name_after : are_next after_name 10 ≡ true
unfolding in_ranges in_range
name_after = refl

end_is_next : are_next end_pieces 10 ≡ true
unfolding in_ranges in_range
end_is_next = refl

newline_before : are_next (newline ∷ []) 105 ≡ true
unfolding in_ranges in_range
newline_before = refl

newline_spelled : spelled 22 (10 ∷ []) ≡ true
unfolding in_ranges in_range
newline_spelled = refl

newline_least : none_below 22 (states mini mini_kinds (10 ∷ [])) ≡ true
unfolding in_ranges in_range
newline_least = refl

pub before_reads : (more : List ℕ) → LexesTo mini (texts before_name ++ (102 ∷ more)) before_name (102 ∷ more)
before_reads more = reads before_name 102 more name_before

pub after_reads : (more : List ℕ) → LexesTo mini (texts after_name ++ (10 ∷ more)) after_name (10 ∷ more)
after_reads more = reads after_name 10 more name_after

pub end_reads : (more : List ℕ) → LexesTo mini (texts end_pieces ++ (10 ∷ more)) end_pieces (10 ∷ more)
end_reads more = reads end_pieces 10 more end_is_next

-- a newline before the next function, and at the end
pub newline_reads : (more : List ℕ) → LexesTo mini (10 ∷ (105 ∷ more)) (newline ∷ []) (105 ∷ more)
newline_reads more = reads (newline ∷ []) 105 more newline_before

pub last_reads : LexesTo mini (10 ∷ []) (newline ∷ []) []
last_reads =
    LexesTo.by_piece (10 ∷ []) 22 (10 ∷ []) [] [] []
    (next_last mini mini_kinds kinds_mini mini_nameless 22 (10 ∷ []) (λ e. cc e) (spelled_matches 22 (10 ∷ []) newline_spelled) newline_least)
    (LexesTo.by_end [])
