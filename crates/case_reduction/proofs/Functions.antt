-- The pieces of a program, its text, and the kinds of its tokens.
use Rattle.std.proofs.Common.{◌≡◌, ℕ, zero, suc, ◌+◌, ◌<◌, ◌≤◌, ◌%◌, ◌^◌, Bool, true, false, cond, nat_eq, List, [], ◌∷◌, ◌++◌, map}
use Rattle.std.proofs.Common.{slice_get, codes, decimal, refl, sym, ap, ◌∙◌, subst, arith, append_assoc, append-nil}
use Rattle.std.specs.Prelude.{encode_utf8_all, length}
use Rattle.std.specs.List.{flat_map, range_with_len}
use Rattle.std.specs.Option.{option_map_or}
use Rattle.grammar_tree.specs.Written.{TokenKind}
use Rattle.grammar_tree.specs.Lexes.{LexesTo, Piece, PlacedToken, is_gap_kind, placed_tokens}
use Rattle.grammar_tree.specs.Derives.{Term, Derives, DerivesMany}
use Rattle.case_maker.specs.Cases.{case_text, form_line, function_text, target_line, target_of}
use Rattle.case_reduction.specs.Mini.{mini}
use Rattle.case_reduction.proofs.MiniKinds.{kinds_mini, mini_bodies, mini_kinds}
use Rattle.case_reduction.proofs.Derivations.{block_of, file, first_form, fourth_form, function, second_form, target, third_form}
use Rattle.case_reduction.proofs.Names.{name_reads}
use Rattle.case_reduction.proofs.Pieces.{Line, after_name, after_reads, before_name, before_reads, end_pieces, end_reads, last_reads}
use Rattle.case_reduction.proofs.Pieces.{line_pieces, line_reads, newline, newline_reads, of_kind, reads_on, texts}

texts-append : (ps qs : List Piece) → texts (ps ++ qs) ≡ texts ps ++ texts qs
texts-append [] qs = refl
texts-append (q ∷ ps) qs = ap (λ x. q.text ++ x) (texts-append ps qs) ∙ sym (append_assoc q.text (texts ps) (texts qs))

-- the pieces of some lines
abbrev lines_pieces : List Line → List Piece
lines_pieces [] = []
lines_pieces (line ∷ lines) = line_pieces line ++ lines_pieces lines

-- the pieces of a function, up to its last newline
abbrev body_pieces : List Line → List Piece
body_pieces lines = lines_pieces lines ++ end_pieces

abbrev function_pieces : ℕ → List Line → List Piece
function_pieces index lines = before_name ++ ((of_kind 17 (102 ∷ decimal index) ∷ []) ++ (after_name ++ (body_pieces lines ++ (newline ∷ []))))

-- the lines of a function
abbrev lines_of : ℕ → Bool → List Line
lines_of index is_target =
    Line.form (index % 4) ∷ Line.form ((index + 1) % 4) ∷ Line.form ((index + 2) % 4) ∷ cond is_target (Line.target ∷ []) []

abbrev line_text : Line → List ℕ
line_text (Line.form n) = form_line n
line_text Line.target = target_line

-- a line's text has its newline at its end, and its pieces have one before it
shifted : (line : Line) (w : List ℕ) → texts (line_pieces line) ++ (10 ∷ w) ≡ 10 ∷ (line_text line ++ w)
shifted (Line.form zero) w = refl
shifted (Line.form (suc zero)) w = refl
shifted (Line.form (suc (suc zero))) w = refl
shifted (Line.form (suc (suc (suc n)))) w = refl
shifted Line.target w = refl

all_shifted : (lines : List Line) (w : List ℕ) → texts (lines_pieces lines) ++ (10 ∷ w) ≡ 10 ∷ (flat_map line_text lines ++ w)
all_shifted [] w = refl
all_shifted (line ∷ lines) w =
    ap (λ x. x ++ (10 ∷ w)) (texts-append (line_pieces line) (lines_pieces lines))
    ∙ append_assoc (texts (line_pieces line)) (texts (lines_pieces lines)) (10 ∷ w)
    ∙ ap (λ x. texts (line_pieces line) ++ x) (all_shifted lines w)
    ∙ shifted line (flat_map line_text lines ++ w)
    ∙ ap (λ x. 10 ∷ x) (sym (append_assoc (line_text line) (flat_map line_text lines) w))

lines_text : (index : ℕ) (is_target : Bool) (w : List ℕ) → flat_map line_text (lines_of index is_target) ++ w
    ≡ form_line (index % 4) ++ (form_line ((index + 1) % 4) ++ (form_line ((index + 2) % 4) ++ (cond is_target target_line [] ++ w)))
lines_text index is_target w =
    let one : List ℕ = form_line (index % 4) in
    let two : List ℕ = form_line ((index + 1) % 4) in
    let three : List ℕ = form_line ((index + 2) % 4) in
    let last : List ℕ = flat_map line_text (cond is_target (Line.target ∷ []) []) in
    append_assoc one (two ++ (three ++ last)) w
    ∙ ap (λ x. one ++ x) (append_assoc two (three ++ last) w
    ∙ ap (λ x. two ++ x) (append_assoc three last w ∙ ap (λ x. three ++ x) (ap (λ x. x ++ w) (pick is_target))))
  where
    pick : (b : Bool) → flat_map line_text (cond b (Line.target ∷ []) []) ≡ cond b target_line []
    pick true = append-nil target_line
    pick false = refl

-- the pieces of a function have its text
same_text : (index : ℕ) (is_target : Bool) → texts (function_pieces index (lines_of index is_target)) ≡ function_text index is_target
same_text index is_target = whole
  where
    ending : texts (body_pieces (lines_of index is_target) ++ (newline ∷ []))
        ≡ 10 ∷ (form_line (index % 4) ++ (form_line ((index + 1) % 4) ++ (form_line ((index + 2) % 4) ++ (cond is_target target_line [] ++ codes "}\n"))))
    ending =
        texts-append (body_pieces (lines_of index is_target)) (newline ∷ [])
        ∙ ap (λ x. x ++ codes "\n") (texts-append (lines_pieces (lines_of index is_target)) end_pieces)
        ∙ append_assoc (texts (lines_pieces (lines_of index is_target))) (codes "\n}") (codes "\n")
        ∙ all_shifted (lines_of index is_target) (codes "}\n")
        ∙ ap (λ x. 10 ∷ x) (lines_text index is_target (codes "}\n"))

    after : texts (after_name ++ (body_pieces (lines_of index is_target) ++ (newline ∷ []))) ≡ codes "(int a, char b) {\n"
        ++ (form_line (index % 4) ++ (form_line ((index + 1) % 4) ++ (form_line ((index + 2) % 4) ++ (cond is_target target_line [] ++ codes "}\n"))))
    after = texts-append after_name (body_pieces (lines_of index is_target) ++ (newline ∷ [])) ∙ ap (λ x. texts after_name ++ x) ending

    whole : texts (function_pieces index (lines_of index is_target)) ≡ function_text index is_target
    whole = ap (λ x. codes "int f" ++ (decimal index ++ x)) after

-- what each function's pieces are followed by
lines_read : (lines : List Line) (more : List ℕ) → LexesTo mini (texts (lines_pieces lines) ++ (10 ∷ more)) (lines_pieces lines) (10 ∷ more)
lines_read [] more = LexesTo.by_end (10 ∷ more)
lines_read (line ∷ lines) more =
    let P : List ℕ → Type 0 = λ x. LexesTo mini x (line_pieces line ++ lines_pieces lines) (10 ∷ more) in
    let later : List ℕ = flat_map line_text lines ++ more in
    let Q : List ℕ → Type 0 = λ x. LexesTo mini x (lines_pieces lines) (10 ∷ more) in
    subst P (ap (λ x. texts (line_pieces line) ++ x) (sym (all_shifted lines more))
    ∙ sym (append_assoc (texts (line_pieces line)) (texts (lines_pieces lines)) (10 ∷ more))
    ∙ ap (λ x. x ++ (10 ∷ more)) (sym (texts-append (line_pieces line) (lines_pieces lines))))
    (reads_on (line_reads line later) (subst Q (all_shifted lines more) (lines_read lines more)))

-- from the first line on, a function's text goes on so
tail_text : (lines : List Line) (more : List ℕ) → texts (body_pieces lines ++ (newline ∷ [])) ++ more ≡ 10 ∷ (flat_map line_text lines ++ (125 ∷ 10 ∷ more))
tail_text lines more =
    ap (λ x. x ++ more) (texts-append (body_pieces lines) (newline ∷ []))
    ∙ append_assoc (texts (body_pieces lines)) (10 ∷ []) more
    ∙ ap (λ x. x ++ (10 ∷ more)) (texts-append (lines_pieces lines) end_pieces)
    ∙ append_assoc (texts (lines_pieces lines)) (10 ∷ 125 ∷ []) (10 ∷ more)
    ∙ all_shifted lines (125 ∷ 10 ∷ more)

function_reads : (index : ℕ) (lines : List Line) (more : List ℕ) → index < 2 ^ 64 → LexesTo mini (10 ∷ more) (newline ∷ []) more
    → LexesTo mini (texts (function_pieces index lines) ++ more) (function_pieces index lines) more
function_reads index lines more small last =
    let later : List ℕ = flat_map line_text lines ++ (125 ∷ 10 ∷ more) in
    let signature : List ℕ = codes "int a, char b) {" ++ (10 ∷ later) in
    let Q : List ℕ → Type 0 = λ x. LexesTo mini x (body_pieces lines ++ (newline ∷ [])) more in
    let body : LexesTo mini (10 ∷ later) (body_pieces lines ++ (newline ∷ [])) more =
    subst Q (all_shifted lines (125 ∷ 10 ∷ more)) (reads_on (reads_on (lines_read lines (125 ∷ 10 ∷ more)) (end_reads more)) last) in
    let P : List ℕ → Type 0 = λ x. LexesTo mini x (function_pieces index lines) more in
    subst P
    (ap (λ x. codes "int f" ++ (decimal index ++ (codes "(int a, char b) {" ++ x))) (sym (tail_text lines more))
    ∙ ap (λ x. codes "int f" ++ x) (sym (append_assoc (decimal index) (codes "(int a, char b) {" ++ texts (body_pieces lines ++ (newline ∷ []))) more)))
    (reads_on (before_reads (decimal index ++ (40 ∷ signature))) (reads_on (name_reads index signature small) (reads_on (after_reads later) body)))

-- the pieces of so many functions, from the one with this number on
abbrev all_pieces : (ℕ → List Line) → ℕ → ℕ → List Piece
all_pieces lines first zero = []
all_pieces lines first (suc n) = function_pieces first (lines first) ++ all_pieces lines (first + 1) n

newline_between : (lines : ℕ → List Line) (first n : ℕ) → LexesTo mini (10 ∷ texts (all_pieces lines first n)) (newline ∷ []) (texts (all_pieces lines first n))
newline_between lines first zero = last_reads
newline_between lines first (suc n) = newline_reads _

all_read : (lines : ℕ → List Line) (first n : ℕ) → first + n ≤ 2 ^ 64 → LexesTo mini (texts (all_pieces lines first n)) (all_pieces lines first n) []
all_read lines first zero small = LexesTo.by_end []
all_read lines first (suc n) small =
    let others : List Piece = all_pieces lines (first + 1) n in
    let P : List ℕ → Type 0 = λ x. LexesTo mini x (function_pieces first (lines first) ++ others) [] in
    subst P (sym (texts-append (function_pieces first (lines first)) others))
    (reads_on (function_reads first (lines first) (texts others) (omega (arith, small)) (newline_between lines (first + 1) n))
    (all_read lines (first + 1) n (omega (arith, small))))

-- the lines of the functions of a program
abbrev case_lines : ℕ → ℕ → ℕ → List Line
case_lines number size index = lines_of index (nat_eq index (target_of number size))

-- the pieces of a program
abbrev pub case_pieces : ℕ → ℕ → List Piece
case_pieces number size = all_pieces (case_lines number size) 0 size

same_texts : (number size first n : ℕ) → texts (all_pieces (case_lines number size) first n) ≡ flat_map
    (λ index. function_text index (nat_eq index (target_of number size))) (range_with_len first n)
same_texts number size first zero = refl
same_texts number size first (suc n) =
    let is_target : Bool = nat_eq first (target_of number size) in
    let others : List Piece = all_pieces (case_lines number size) (first + 1) n in
    texts-append (function_pieces first (lines_of first is_target)) others
    ∙ ap (λ x. x ++ texts others) (same_text first is_target)
    ∙ ap (λ x. function_text first is_target ++ x) (same_texts number size (first + 1) n)

pub case_reads : (number size : ℕ) → size ≤ 1500 → LexesTo mini (case_text number size) (case_pieces number size) []
unfolding case_text
case_reads number size small =
    let P : List ℕ → Type 0 = λ x. LexesTo mini x (case_pieces number size) [] in
    subst P (same_texts number size 0 size) (all_read (case_lines number size) 0 size (omega (arith, small)))

abbrev is_gap : ℕ → Bool
is_gap k = option_map_or (λ (kind : TokenKind). kind.gap) (slice_get mini_kinds k) false

-- the kinds of the tokens among pieces
abbrev seen : List Piece → List ℕ
seen [] = []
seen (q ∷ ps) = cond (is_gap q.kind) (seen ps) (q.kind ∷ seen ps)

seen-append : (ps qs : List Piece) → seen (ps ++ qs) ≡ seen ps ++ seen qs
seen-append [] qs = refl
seen-append (q ∷ ps) qs = pick (is_gap q.kind) (seen-append ps qs)
  where
    pick : (b : Bool) → seen (ps ++ qs) ≡ seen ps ++ seen qs
        → cond b (seen (ps ++ qs)) (q.kind ∷ seen (ps ++ qs)) ≡ cond b (seen ps) (q.kind ∷ seen ps) ++ seen qs
    pick true e = e
    pick false e = ap (λ x. q.kind ∷ x) e

pub placed_kinds : (at : ℕ) (ps : List Piece) → map (λ (t : PlacedToken). t.kind) (placed_tokens mini at ps) ≡ seen ps
placed_kinds at [] = refl
placed_kinds at (q ∷ ps) =
    let next : ℕ = at + length (encode_utf8_all q.text) in
    let gap : is_gap_kind mini q.kind ≡ is_gap q.kind = ap (λ l. option_map_or (λ (kind : TokenKind). kind.gap) (slice_get l q.kind) false) kinds_mini in
    pick (is_gap_kind mini q.kind) (is_gap q.kind) gap next (placed_kinds next ps)
  where
    pick : (b c : Bool) → b ≡ c → (next : ℕ) → map (λ (t : PlacedToken). t.kind) (placed_tokens mini next ps) ≡ seen ps
        → map (λ (t : PlacedToken). t.kind) (cond b (placed_tokens mini next ps)
        (record { kind = q.kind; start = at; end = next } ∷ placed_tokens mini next ps)) ≡ cond c (seen ps) (q.kind ∷ seen ps)
    pick true true same next e = e
    pick false false same next e = ap (λ x. q.kind ∷ x) e
    pick true false same next e = cc same
    pick false true same next e = cc same

line_derives : (line : Line) → Derives mini_bodies (Term.rule 5) (seen (line_pieces line))
line_derives (Line.form zero) = first_form
line_derives (Line.form (suc zero)) = second_form
line_derives (Line.form (suc (suc zero))) = third_form
line_derives (Line.form (suc (suc (suc n)))) = fourth_form
line_derives Line.target = target

lines_derive : (lines : List Line) → DerivesMany mini_bodies (Term.rule 5) (seen (lines_pieces lines))
lines_derive [] = DerivesMany.by_end (Term.rule 5)
lines_derive (line ∷ lines) =
    let P : List ℕ → Type 0 = λ x. DerivesMany mini_bodies (Term.rule 5) x in
    subst P (sym (seen-append (line_pieces line) (lines_pieces lines)))
    (DerivesMany.by_more (Term.rule 5) (seen (line_pieces line)) (seen (lines_pieces lines)) (line_derives line) (lines_derive lines))

function_derives : (index : ℕ) (lines : List Line) → Derives mini_bodies (Term.rule 1) (seen (function_pieces index lines))
function_derives index lines =
    let u : List ℕ = seen (lines_pieces lines) in
    let body : List ℕ = 5 ∷ (u ++ (6 ∷ [])) in
    let P : List ℕ → Type 0 = λ x. Derives mini_bodies (Term.rule 1) (3 ∷ 17 ∷ 0 ∷ 3 ∷ 17 ∷ 2 ∷ 4 ∷ 17 ∷ 1 ∷ x) in
    let ending : seen (body_pieces lines ++ (newline ∷ [])) ≡ u ++ (6 ∷ []) =
    seen-append (body_pieces lines) (newline ∷ []) ∙ append-nil (seen (body_pieces lines)) ∙ seen-append (lines_pieces lines) end_pieces in
    subst P (append-nil body ∙ ap (λ x. 5 ∷ x) (sym ending)) (function body (block_of u (lines_derive lines)))

all_derive : (lines : ℕ → List Line) (first n : ℕ) → DerivesMany mini_bodies (Term.rule 1) (seen (all_pieces lines first n))
all_derive lines first zero = DerivesMany.by_end (Term.rule 1)
all_derive lines first (suc n) =
    let others : List Piece = all_pieces lines (first + 1) n in
    let P : List ℕ → Type 0 = λ x. DerivesMany mini_bodies (Term.rule 1) x in
    subst P (sym (seen-append (function_pieces first (lines first)) others))
    (DerivesMany.by_more (Term.rule 1) (seen (function_pieces first (lines first))) (seen others) (function_derives first (lines first))
    (all_derive lines (first + 1) n))

pub case_derives : (number size at : ℕ) → Derives mini_bodies (Term.rule 0)
    (map (λ (t : PlacedToken). t.kind) (placed_tokens mini at (case_pieces number size)))
case_derives number size at =
    let u : List ℕ = seen (case_pieces number size) in
    let P : List ℕ → Type 0 = λ x. Derives mini_bodies (Term.rule 0) x in
    subst P (append-nil u ∙ sym (placed_kinds at (case_pieces number size))) (file u (all_derive (case_lines number size) 0 size))
