-- What the parser rules of Mini derive: expressions, statements and functions.
use Rattle.std.proofs.Common.{◌≡◌, ℕ, zero, suc, Bool, true, false, List, [], ◌∷◌, ◌++◌, Some, slice_get, refl, sym, true≢false}
use Rattle.grammar_tree.specs.Derives.{Alts, Seq, Term, Derives, DerivesAlts, DerivesMany, DerivesSeq}
use Rattle.case_reduction.proofs.MiniKinds.{block_alts, expr_alts, file_alts, func_alts, mini_bodies, params_alts, stmt_alts, type_alts}

-- the alternative with this number, from 0
abbrev seq_at : ℕ → Alts → Seq
seq_at i Alts.none = Seq.done
seq_at zero (Alts.or s a) = s
seq_at (suc i) (Alts.or s a) = seq_at i a

abbrev is_there : ℕ → Alts → Bool
is_there i Alts.none = false
is_there zero (Alts.or s a) = true
is_there (suc i) (Alts.or s a) = is_there i a

abbrev Gives : Term → List ℕ → Type 0
Gives = Derives mini_bodies

abbrev Spells : Seq → List ℕ → Type 0
Spells = DerivesSeq mini_bodies

abbrev next : Term → Seq → Seq
next = Seq.next

abbrev last : Seq
last = Seq.done

by_alt : (i : ℕ) (a : Alts) (w : List ℕ) → is_there i a ≡ true → Spells (seq_at i a) w → DerivesAlts mini_bodies a w
by_alt i Alts.none w e m = absurd (true≢false (sym e))
by_alt zero (Alts.or s a) w e m = DerivesAlts.by_first s a w m
by_alt (suc i) (Alts.or s a) w e m = DerivesAlts.by_later s a w (by_alt i a w e m)

by_rule_alt : (r i : ℕ) (a : Alts) (w : List ℕ) → slice_get mini_bodies r ≡ Some a → is_there i a ≡ true → Spells (seq_at i a) w → Gives (Term.rule r) w
by_rule_alt r i a w is e m = Derives.by_rule r a w is (by_alt i a w e m)

-- a sequence that begins with a kind
kind_next : (k : ℕ) (s : Seq) (w : List ℕ) → Spells s w → Spells (next (Term.kind k) s) (k ∷ w)
kind_next k s w m = DerivesSeq.by_next (Term.kind k) s (k ∷ []) w (Derives.by_kind k) m

-- a sequence that begins with a term
term_next : (t : Term) (s : Seq) (u w : List ℕ) → Gives t u → Spells s w → Spells (next t s) (u ++ w)
term_next t s u w m n = DerivesSeq.by_next t s u w m n

kind_last : (k : ℕ) → Spells (next (Term.kind k) last) (k ∷ [])
kind_last k = kind_next k last [] DerivesSeq.by_done

-- a block of one alternative, and of two kinds
one_block : (s : Seq) (w : List ℕ) → Spells s w → Gives (Term.block (Alts.or s Alts.none)) w
one_block s w m = Derives.by_block (Alts.or s Alts.none) w (DerivesAlts.by_first s Alts.none w m)

abbrev either : ℕ → ℕ → Term
either j k = Term.block (Alts.or (next (Term.kind j) last) (Alts.or (next (Term.kind k) last) Alts.none))

either_first : (j k : ℕ) → Gives (either j k) (j ∷ [])
either_first j k = Derives.by_block _ (j ∷ []) (DerivesAlts.by_first (next (Term.kind j) last) _ (j ∷ []) (kind_last j))

either_second : (j k : ℕ) → Gives (either j k) (k ∷ [])
either_second j k =
    Derives.by_block _ (k ∷ []) (DerivesAlts.by_later (next (Term.kind j) last) _ (k ∷ [])
    (DerivesAlts.by_first (next (Term.kind k) last) Alts.none (k ∷ []) (kind_last k)))

abbrev IsExpr : List ℕ → Type 0
IsExpr = Gives (Term.rule 6)

abbrev IsStmt : List ℕ → Type 0
IsStmt = Gives (Term.rule 5)

abbrev IsBlock : List ℕ → Type 0
IsBlock = Gives (Term.rule 4)

-- expressions of one token: ID, INT and STR
id : IsExpr (17 ∷ [])
id = by_rule_alt 6 4 expr_alts (17 ∷ []) refl refl (kind_last 17)

int : IsExpr (18 ∷ [])
int = by_rule_alt 6 5 expr_alts (18 ∷ []) refl refl (kind_last 18)

str : IsExpr (19 ∷ [])
str = by_rule_alt 6 6 expr_alts (19 ∷ []) refl refl (kind_last 19)

module _ (u v : List ℕ) (m : IsExpr u) (n : IsExpr v) where
  expr_last : Spells (next (Term.rule 6) last) (v ++ [])
  expr_last = term_next (Term.rule 6) last v [] n DerivesSeq.by_done

  -- two operands
  product : (o : ℕ) → Gives (either 13 14) (o ∷ []) → IsExpr (u ++ (o ∷ (v ++ [])))
  product o p =
      by_rule_alt 6 0 expr_alts (u ++ (o ∷ (v ++ []))) refl refl
      (term_next (Term.rule 6) (next (either 13 14) (next (Term.rule 6) last)) u (o ∷ (v ++ [])) m
      (term_next (either 13 14) (next (Term.rule 6) last) (o ∷ []) (v ++ []) p expr_last))

  sum : (o : ℕ) → Gives (either 15 16) (o ∷ []) → IsExpr (u ++ (o ∷ (v ++ [])))
  sum o p =
      by_rule_alt 6 1 expr_alts (u ++ (o ∷ (v ++ []))) refl refl
      (term_next (Term.rule 6) (next (either 15 16) (next (Term.rule 6) last)) u (o ∷ (v ++ [])) m
      (term_next (either 15 16) (next (Term.rule 6) last) (o ∷ []) (v ++ []) p expr_last))

  -- a call with two arguments
  abbrev more_args : Term
  more_args = Term.block (Alts.or (next (Term.kind 2) (next (Term.rule 6) last)) Alts.none)

  abbrev args : Seq
  args = next (Term.rule 6) (next (Term.star more_args) last)

  second : Gives (Term.star more_args) ((2 ∷ (v ++ [])) ++ [])
  second =
      Derives.by_star more_args ((2 ∷ (v ++ [])) ++ [])
      (DerivesMany.by_more more_args (2 ∷ (v ++ [])) []
      (one_block (next (Term.kind 2) (next (Term.rule 6) last)) (2 ∷ (v ++ [])) (kind_next 2 (next (Term.rule 6) last) (v ++ []) expr_last))
      (DerivesMany.by_end more_args))

  both : Spells args (u ++ (((2 ∷ (v ++ [])) ++ []) ++ []))
  both =
      term_next (Term.rule 6) (next (Term.star more_args) last) u (((2 ∷ (v ++ [])) ++ []) ++ []) m
      (term_next (Term.star more_args) last ((2 ∷ (v ++ [])) ++ []) [] second DerivesSeq.by_done)

  call : IsExpr (17 ∷ 0 ∷ ((u ++ (((2 ∷ (v ++ [])) ++ []) ++ [])) ++ (1 ∷ [])))
  call =
      let w : List ℕ = u ++ (((2 ∷ (v ++ [])) ++ []) ++ []) in
      let inner : Term = Term.block (Alts.or args Alts.none) in
      by_rule_alt 6 2 expr_alts (17 ∷ 0 ∷ (w ++ (1 ∷ []))) refl refl
      (kind_next 17 (next (Term.kind 0) (next (Term.opt inner) (next (Term.kind 1) last))) (0 ∷ (w ++ (1 ∷ [])))
      (kind_next 0 (next (Term.opt inner) (next (Term.kind 1) last)) (w ++ (1 ∷ []))
      (term_next (Term.opt inner) (next (Term.kind 1) last) w (1 ∷ []) (Derives.by_present inner w (one_block args w both)) (kind_last 1))))

-- an expression in brackets
in_brackets : (u : List ℕ) → IsExpr u → IsExpr (0 ∷ (u ++ (1 ∷ [])))
in_brackets u m =
    by_rule_alt 6 3 expr_alts (0 ∷ (u ++ (1 ∷ []))) refl refl
    (kind_next 0 (next (Term.rule 6) (next (Term.kind 1) last)) (u ++ (1 ∷ [])) (term_next (Term.rule 6) (next (Term.kind 1) last) u (1 ∷ []) m (kind_last 1)))

-- `int ID = u ;`
declares : (u : List ℕ) → IsExpr u → IsStmt (3 ∷ 17 ∷ 7 ∷ ((u ++ []) ++ (8 ∷ [])))
declares u m =
    let set : Seq = next (Term.kind 7) (next (Term.rule 6) last) in
    let value : Term = Term.block (Alts.or set Alts.none) in
    let w : List ℕ = 7 ∷ (u ++ []) in
    by_rule_alt 5 0 stmt_alts (3 ∷ 17 ∷ (w ++ (8 ∷ []))) refl refl
    (term_next (Term.rule 3) (next (Term.kind 17) (next (Term.opt value) (next (Term.kind 8) last))) (3 ∷ []) (17 ∷ (w ++ (8 ∷ [])))
    (by_rule_alt 3 0 type_alts (3 ∷ []) refl refl (kind_last 3))
    (kind_next 17 (next (Term.opt value) (next (Term.kind 8) last)) (w ++ (8 ∷ []))
    (term_next (Term.opt value) (next (Term.kind 8) last) w (8 ∷ [])
    (Derives.by_present value w (one_block set w (kind_next 7 (next (Term.rule 6) last) (u ++ []) (term_next (Term.rule 6) last u [] m DerivesSeq.by_done))))
    (kind_last 8))))

-- `ID = u ;`
assigns : (u : List ℕ) → IsExpr u → IsStmt (17 ∷ 7 ∷ (u ++ (8 ∷ [])))
assigns u m =
    by_rule_alt 5 1 stmt_alts (17 ∷ 7 ∷ (u ++ (8 ∷ []))) refl refl
    (kind_next 17 (next (Term.kind 7) (next (Term.rule 6) (next (Term.kind 8) last))) (7 ∷ (u ++ (8 ∷ [])))
    (kind_next 7 (next (Term.rule 6) (next (Term.kind 8) last)) (u ++ (8 ∷ []))
    (term_next (Term.rule 6) (next (Term.kind 8) last) u (8 ∷ []) m (kind_last 8))))

-- `return u ;`
returns : (u : List ℕ) → IsExpr u → IsStmt (12 ∷ (u ++ (8 ∷ [])))
returns u m =
    by_rule_alt 5 4 stmt_alts (12 ∷ (u ++ (8 ∷ []))) refl refl
    (kind_next 12 (next (Term.opt (Term.rule 6)) (next (Term.kind 8) last)) (u ++ (8 ∷ []))
    (term_next (Term.opt (Term.rule 6)) (next (Term.kind 8) last) u (8 ∷ []) (Derives.by_present (Term.rule 6) u m) (kind_last 8)))

-- a block of some statements
pub block_of : (u : List ℕ) → DerivesMany mini_bodies (Term.rule 5) u → IsBlock (5 ∷ (u ++ (6 ∷ [])))
block_of u m =
    by_rule_alt 4 0 block_alts (5 ∷ (u ++ (6 ∷ []))) refl refl
    (kind_next 5 (next (Term.star (Term.rule 5)) (next (Term.kind 6) last)) (u ++ (6 ∷ []))
    (term_next (Term.star (Term.rule 5)) (next (Term.kind 6) last) u (6 ∷ []) (Derives.by_star (Term.rule 5) u m) (kind_last 6)))

-- a block of one statement
block_of_one : (u : List ℕ) → IsStmt u → IsBlock (5 ∷ ((u ++ []) ++ (6 ∷ [])))
block_of_one u m = block_of (u ++ []) (DerivesMany.by_more (Term.rule 5) u [] m (DerivesMany.by_end (Term.rule 5)))

-- `if ( u ) v else w`
chooses : (u v w : List ℕ) → IsExpr u → IsBlock v → IsBlock w → IsStmt (9 ∷ 0 ∷ (u ++ (1 ∷ (v ++ ((10 ∷ (w ++ [])) ++ [])))))
chooses u v w m n o =
    let other : Seq = next (Term.kind 10) (next (Term.rule 4) last) in
    let else_part : Term = Term.block (Alts.or other Alts.none) in
    let x : List ℕ = 10 ∷ (w ++ []) in
    by_rule_alt 5 2 stmt_alts (9 ∷ 0 ∷ (u ++ (1 ∷ (v ++ (x ++ []))))) refl refl
    (kind_next 9 (next (Term.kind 0) (next (Term.rule 6) (next (Term.kind 1) (next (Term.rule 4) (next (Term.opt else_part) last)))))
    (0 ∷ (u ++ (1 ∷ (v ++ (x ++ [])))))
    (kind_next 0 (next (Term.rule 6) (next (Term.kind 1) (next (Term.rule 4) (next (Term.opt else_part) last)))) (u ++ (1 ∷ (v ++ (x ++ []))))
    (term_next (Term.rule 6) (next (Term.kind 1) (next (Term.rule 4) (next (Term.opt else_part) last))) u (1 ∷ (v ++ (x ++ []))) m
    (kind_next 1 (next (Term.rule 4) (next (Term.opt else_part) last)) (v ++ (x ++ []))
    (term_next (Term.rule 4) (next (Term.opt else_part) last) v (x ++ []) n
    (term_next (Term.opt else_part) last x []
    (Derives.by_present else_part x (one_block other x
    (kind_next 10 (next (Term.rule 4) last) (w ++ []) (term_next (Term.rule 4) last w [] o DerivesSeq.by_done))))
    DerivesSeq.by_done))))))

-- `while ( u ) v`
repeats : (u v : List ℕ) → IsExpr u → IsBlock v → IsStmt (11 ∷ 0 ∷ (u ++ (1 ∷ (v ++ []))))
repeats u v m n =
    by_rule_alt 5 3 stmt_alts (11 ∷ 0 ∷ (u ++ (1 ∷ (v ++ [])))) refl refl
    (kind_next 11 (next (Term.kind 0) (next (Term.rule 6) (next (Term.kind 1) (next (Term.rule 4) last)))) (0 ∷ (u ++ (1 ∷ (v ++ []))))
    (kind_next 0 (next (Term.rule 6) (next (Term.kind 1) (next (Term.rule 4) last))) (u ++ (1 ∷ (v ++ [])))
    (term_next (Term.rule 6) (next (Term.kind 1) (next (Term.rule 4) last)) u (1 ∷ (v ++ [])) m
    (kind_next 1 (next (Term.rule 4) last) (v ++ []) (term_next (Term.rule 4) last v [] n DerivesSeq.by_done)))))

-- `int c = a * 2;`
pub first_form : IsStmt (3 ∷ 17 ∷ 7 ∷ 17 ∷ 13 ∷ 18 ∷ 8 ∷ [])
first_form = declares (17 ∷ 13 ∷ 18 ∷ []) (product (17 ∷ []) (18 ∷ []) id int 13 (either_first 13 14))

-- `if (a) { b = f0(a, 1); } else { return b; }`
pub second_form : IsStmt (9 ∷ 0 ∷ 17 ∷ 1 ∷ 5 ∷ 17 ∷ 7 ∷ 17 ∷ 0 ∷ 17 ∷ 2 ∷ 18 ∷ 1 ∷ 8 ∷ 6 ∷ 10 ∷ 5 ∷ 12 ∷ 17 ∷ 8 ∷ 6 ∷ [])
second_form =
    chooses (17 ∷ []) (5 ∷ 17 ∷ 7 ∷ 17 ∷ 0 ∷ 17 ∷ 2 ∷ 18 ∷ 1 ∷ 8 ∷ 6 ∷ []) (5 ∷ 12 ∷ 17 ∷ 8 ∷ 6 ∷ []) id
    (block_of_one (17 ∷ 7 ∷ 17 ∷ 0 ∷ 17 ∷ 2 ∷ 18 ∷ 1 ∷ 8 ∷ []) (assigns (17 ∷ 0 ∷ 17 ∷ 2 ∷ 18 ∷ 1 ∷ []) (call (17 ∷ []) (18 ∷ []) id int)))
    (block_of_one (12 ∷ 17 ∷ 8 ∷ []) (returns (17 ∷ []) id))

-- `while (b - 1) { b = (a + b) / 3; }`
pub third_form : IsStmt (11 ∷ 0 ∷ 17 ∷ 16 ∷ 18 ∷ 1 ∷ 5 ∷ 17 ∷ 7 ∷ 0 ∷ 17 ∷ 15 ∷ 17 ∷ 1 ∷ 14 ∷ 18 ∷ 8 ∷ 6 ∷ [])
third_form =
    repeats (17 ∷ 16 ∷ 18 ∷ []) (5 ∷ 17 ∷ 7 ∷ 0 ∷ 17 ∷ 15 ∷ 17 ∷ 1 ∷ 14 ∷ 18 ∷ 8 ∷ 6 ∷ []) (sum (17 ∷ []) (18 ∷ []) id int 16 (either_second 15 16))
    (block_of_one (17 ∷ 7 ∷ 0 ∷ 17 ∷ 15 ∷ 17 ∷ 1 ∷ 14 ∷ 18 ∷ 8 ∷ []) (assigns (0 ∷ 17 ∷ 15 ∷ 17 ∷ 1 ∷ 14 ∷ 18 ∷ [])
    (product (0 ∷ 17 ∷ 15 ∷ 17 ∷ 1 ∷ []) (18 ∷ []) (in_brackets (17 ∷ 15 ∷ 17 ∷ []) (sum (17 ∷ []) (17 ∷ []) id id 15 (either_first 15 16))) int 14
    (either_second 13 14))))

-- `return "s" + a;`
pub fourth_form : IsStmt (12 ∷ 19 ∷ 15 ∷ 17 ∷ 8 ∷ [])
fourth_form = returns (19 ∷ 15 ∷ 17 ∷ []) (sum (19 ∷ []) (17 ∷ []) str id 15 (either_first 15 16))

-- `Q = f0(a, (b + "Z"));`
pub target : IsStmt (17 ∷ 7 ∷ 17 ∷ 0 ∷ 17 ∷ 2 ∷ 0 ∷ 17 ∷ 15 ∷ 19 ∷ 1 ∷ 1 ∷ 8 ∷ [])
target =
    assigns (17 ∷ 0 ∷ 17 ∷ 2 ∷ 0 ∷ 17 ∷ 15 ∷ 19 ∷ 1 ∷ 1 ∷ [])
    (call (17 ∷ []) (0 ∷ 17 ∷ 15 ∷ 19 ∷ 1 ∷ []) id (in_brackets (17 ∷ 15 ∷ 19 ∷ []) (sum (17 ∷ []) (19 ∷ []) id str 15 (either_first 15 16))))

-- `int ID(int a, char b)`, and a block
pub function : (u : List ℕ) → IsBlock u → Gives (Term.rule 1) (3 ∷ 17 ∷ 0 ∷ 3 ∷ 17 ∷ 2 ∷ 4 ∷ 17 ∷ 1 ∷ (u ++ []))
function u m =
    let a_type : Gives (Term.rule 3) (3 ∷ []) = by_rule_alt 3 0 type_alts (3 ∷ []) refl refl (kind_last 3) in
    let b_type : Gives (Term.rule 3) (4 ∷ []) = by_rule_alt 3 1 type_alts (4 ∷ []) refl refl (kind_last 4) in
    let more : Seq = next (Term.kind 2) (next (Term.rule 3) (next (Term.kind 17) last)) in
    let more_params : Term = Term.block (Alts.or more Alts.none) in
    let second : Gives (Term.star more_params) (2 ∷ 4 ∷ 17 ∷ []) =
    Derives.by_star more_params (2 ∷ 4 ∷ 17 ∷ [])
    (DerivesMany.by_more more_params (2 ∷ 4 ∷ 17 ∷ []) []
    (one_block more (2 ∷ 4 ∷ 17 ∷ []) (kind_next 2 (next (Term.rule 3) (next (Term.kind 17) last)) (4 ∷ 17 ∷ [])
    (term_next (Term.rule 3) (next (Term.kind 17) last) (4 ∷ []) (17 ∷ []) b_type (kind_last 17))))
    (DerivesMany.by_end more_params)) in
    let params : Gives (Term.rule 2) (3 ∷ 17 ∷ 2 ∷ 4 ∷ 17 ∷ []) =
    by_rule_alt 2 0 params_alts (3 ∷ 17 ∷ 2 ∷ 4 ∷ 17 ∷ []) refl refl
    (term_next (Term.rule 3) (next (Term.kind 17) (next (Term.star more_params) last)) (3 ∷ []) (17 ∷ 2 ∷ 4 ∷ 17 ∷ []) a_type
    (kind_next 17 (next (Term.star more_params) last) (2 ∷ 4 ∷ 17 ∷ [])
    (term_next (Term.star more_params) last (2 ∷ 4 ∷ 17 ∷ []) [] second DerivesSeq.by_done))) in
    by_rule_alt 1 0 func_alts (3 ∷ 17 ∷ 0 ∷ 3 ∷ 17 ∷ 2 ∷ 4 ∷ 17 ∷ 1 ∷ (u ++ [])) refl refl
    (term_next (Term.rule 3) (next (Term.kind 17) (next (Term.kind 0) (next (Term.opt (Term.rule 2)) (next (Term.kind 1) (next (Term.rule 4) last))))) (3 ∷ [])
    (17 ∷ 0 ∷ 3 ∷ 17 ∷ 2 ∷ 4 ∷ 17 ∷ 1 ∷ (u ++ [])) a_type
    (kind_next 17 (next (Term.kind 0) (next (Term.opt (Term.rule 2)) (next (Term.kind 1) (next (Term.rule 4) last)))) (0 ∷ 3 ∷ 17 ∷ 2 ∷ 4 ∷ 17 ∷ 1 ∷ (u ++ []))
    (kind_next 0 (next (Term.opt (Term.rule 2)) (next (Term.kind 1) (next (Term.rule 4) last))) (3 ∷ 17 ∷ 2 ∷ 4 ∷ 17 ∷ 1 ∷ (u ++ []))
    (term_next (Term.opt (Term.rule 2)) (next (Term.kind 1) (next (Term.rule 4) last)) (3 ∷ 17 ∷ 2 ∷ 4 ∷ 17 ∷ []) (1 ∷ (u ++ []))
    (Derives.by_present (Term.rule 2) (3 ∷ 17 ∷ 2 ∷ 4 ∷ 17 ∷ []) params)
    (kind_next 1 (next (Term.rule 4) last) (u ++ []) (term_next (Term.rule 4) last u [] m DerivesSeq.by_done))))))

-- a file of some functions
pub file : (u : List ℕ) → DerivesMany mini_bodies (Term.rule 1) u → Gives (Term.rule 0) (u ++ [])
file u m =
    by_rule_alt 0 0 file_alts (u ++ []) refl refl
    (term_next (Term.star (Term.rule 1)) (next Term.eof last) u [] (Derives.by_star (Term.rule 1) u m)
    (term_next Term.eof last [] [] Derives.by_eof DerivesSeq.by_done))
