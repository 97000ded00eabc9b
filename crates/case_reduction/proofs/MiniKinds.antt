-- The kinds of Mini, and its parser rules with their names resolved.
use Rattle.std.proofs.Common.{◌≡◌, ℕ, Bool, true, false, List, [], ◌∷◌, ◌++◌, map, codes, refl}
use Rattle.grammar_tree.specs.Written.{Source, TokenKind}
use Rattle.grammar_tree.specs.Kinds.{implicit_kind, kinds_of}
use Rattle.grammar_tree.specs.Derives.{Alts, Seq, Term, bodies}
use Rattle.case_reduction.specs.Mini.{mini}
use Rattle.case_reduction.proofs.Scan.{kinds_nameless}

-- the literals, in the order of their numbers from 0
abbrev pub literals : List (List ℕ)
literals =
    codes "(" ∷ codes ")" ∷ codes "," ∷ codes "int" ∷ codes "char" ∷ codes "{" ∷ codes "}" ∷ codes "=" ∷ codes ";" ∷ codes "if"
    ∷ codes "else" ∷ codes "while" ∷ codes "return" ∷ codes "*" ∷ codes "/" ∷ codes "+" ∷ codes "-" ∷ []

abbrev rule_kind : List ℕ → Bool → ℕ → TokenKind
rule_kind name gap place = record { name = name; gap = gap; source = Source.written place }

-- ID, INT, STR, COMMENT, LINE and WS have the numbers 17 to 22
abbrev pub mini_kinds : List TokenKind
mini_kinds =
    map implicit_kind literals
    ++ (rule_kind (codes "ID") false 7 ∷ rule_kind (codes "INT") false 8 ∷ rule_kind (codes "STR") false 9
    ∷ rule_kind (codes "COMMENT") true 10 ∷ rule_kind (codes "LINE") true 11 ∷ rule_kind (codes "WS") true 12 ∷ [])

pub kinds_mini : kinds_of mini ≡ mini_kinds
unfolding kinds_of
kinds_mini = refl

pub mini_nameless : kinds_nameless mini mini_kinds ≡ true
mini_nameless = refl

abbrev seq : List Term → Seq
seq [] = Seq.done
seq (t ∷ ts) = Seq.next t (seq ts)

abbrev alts : List (List Term) → Alts
alts [] = Alts.none
alts (s ∷ ss) = Alts.or (seq s) (alts ss)

abbrev kind : ℕ → Term
kind = Term.kind

abbrev rule : ℕ → Term
rule = Term.rule

abbrev block : List (List Term) → Term
block ss = Term.block (alts ss)

-- file, func, params, type, block, stmt and expr have the numbers 0 to 6
abbrev pub file_alts : Alts
file_alts = alts ((Term.star (rule 1) ∷ Term.eof ∷ []) ∷ [])

abbrev pub func_alts : Alts
func_alts = alts ((rule 3 ∷ kind 17 ∷ kind 0 ∷ Term.opt (rule 2) ∷ kind 1 ∷ rule 4 ∷ []) ∷ [])

abbrev pub params_alts : Alts
params_alts = alts ((rule 3 ∷ kind 17 ∷ Term.star (block ((kind 2 ∷ rule 3 ∷ kind 17 ∷ []) ∷ [])) ∷ []) ∷ [])

abbrev pub type_alts : Alts
type_alts = alts ((kind 3 ∷ []) ∷ (kind 4 ∷ []) ∷ [])

abbrev pub block_alts : Alts
block_alts = alts ((kind 5 ∷ Term.star (rule 5) ∷ kind 6 ∷ []) ∷ [])

abbrev pub stmt_alts : Alts
stmt_alts =
    alts (
    (rule 3 ∷ kind 17 ∷ Term.opt (block ((kind 7 ∷ rule 6 ∷ []) ∷ [])) ∷ kind 8 ∷ [])
    ∷ (kind 17 ∷ kind 7 ∷ rule 6 ∷ kind 8 ∷ [])
    ∷ (kind 9 ∷ kind 0 ∷ rule 6 ∷ kind 1 ∷ rule 4 ∷ Term.opt (block ((kind 10 ∷ rule 4 ∷ []) ∷ [])) ∷ [])
    ∷ (kind 11 ∷ kind 0 ∷ rule 6 ∷ kind 1 ∷ rule 4 ∷ [])
    ∷ (kind 12 ∷ Term.opt (rule 6) ∷ kind 8 ∷ [])
    ∷ (rule 4 ∷ [])
    ∷ [])

abbrev pub expr_alts : Alts
expr_alts =
    alts (
    (rule 6 ∷ block ((kind 13 ∷ []) ∷ (kind 14 ∷ []) ∷ []) ∷ rule 6 ∷ [])
    ∷ (rule 6 ∷ block ((kind 15 ∷ []) ∷ (kind 16 ∷ []) ∷ []) ∷ rule 6 ∷ [])
    ∷ (kind 17 ∷ kind 0 ∷ Term.opt (block ((rule 6 ∷ Term.star (block ((kind 2 ∷ rule 6 ∷ []) ∷ [])) ∷ []) ∷ [])) ∷ kind 1 ∷ [])
    ∷ (kind 0 ∷ rule 6 ∷ kind 1 ∷ [])
    ∷ (kind 17 ∷ [])
    ∷ (kind 18 ∷ [])
    ∷ (kind 19 ∷ [])
    ∷ [])

abbrev pub mini_bodies : List Alts
mini_bodies = file_alts ∷ func_alts ∷ params_alts ∷ type_alts ∷ block_alts ∷ stmt_alts ∷ expr_alts ∷ []

pub bodies_mini : bodies mini ≡ mini_bodies
unfolding kinds_of
bodies_mini = refl
