-- Terms that can be empty, direct left recursion, left corners, and how many rules the normal form has.
use Rattle.std.specs.Prelude.{◌≡◌, ℕ, suc, ◌+◌, ◌⊎◌, nat_eq, cond, List, [], ◌∷◌, Option, Some, None, slice_get}
use Rattle.grammar_tree.specs.Derives.{Term, Seq, Alts, Derives, DerivesAlts}

-- the term derives the empty list
abbrev pub CanBeEmpty : List Alts → Term → Type 0
CanBeEmpty G t = Derives G t []

-- An alternative whose first part is the rule r alone, without suffix, is directly recursive. Its rest is the alternative without that part.
abbrev pub rest_of : ℕ → Seq → Option Seq
rest_of r (Seq.next (Term.rule q) rest) = cond (nat_eq q r) (Some rest) None
rest_of r _ = None

abbrev pub and_base : Seq → Option Seq → Alts → Alts
and_base s None a = Alts.or s a
and_base s (Some rest) a = a

abbrev pub and_rest : Option Seq → Alts → Alts
and_rest None a = a
and_rest (Some rest) a = Alts.or rest a

-- the alternatives of the rule r that aren't directly recursive
abbrev pub bases : ℕ → Alts → Alts
bases r Alts.none = Alts.none
bases r (Alts.or s a) = and_base s (rest_of r s) (bases r a)

-- the rests of those that are
abbrev pub rests : ℕ → Alts → Alts
rests r Alts.none = Alts.none
rests r (Alts.or s a) = and_rest (rest_of r s) (rests r a)

-- the rule q can be first in a term
abbrev mutual
  pub Begins : List Alts → ℕ → Term → Type 0
  Begins G q (Term.kind k) = ⊥
  Begins G q (Term.among ks) = ⊥
  Begins G q (Term.rule r) = q ≡ r
  Begins G q (Term.block a) = BeginsAlts G q a
  Begins G q (Term.opt t) = Begins G q t
  Begins G q (Term.star t) = Begins G q t
  Begins G q (Term.plus t) = Begins G q t
  Begins G q Term.eof = ⊥

  -- in a sequence: in its first term, or, where that can be empty, in what comes after it
  pub BeginsSeq : List Alts → ℕ → Seq → Type 0
  BeginsSeq G q Seq.done = ⊥
  BeginsSeq G q (Seq.next t s) = Begins G q t ⊎ (CanBeEmpty G t × BeginsSeq G q s)

  -- in one of the alternatives
  pub BeginsAlts : List Alts → ℕ → Alts → Type 0
  BeginsAlts G q Alts.none = ⊥
  BeginsAlts G q (Alts.or s a) = BeginsSeq G q s ⊎ BeginsAlts G q a

-- The rule q is a left corner of the rule r: it can be first in one of its bases; or some base can be empty, and it can be first in a rest.
pub data IsLeftCorner (G : List Alts) (r q : ℕ) : Type 0 where
  in_base : (a : Alts) → slice_get G r ≡ Some a → BeginsAlts G q (bases r a) → IsLeftCorner G r q
  in_rest : (a : Alts) → slice_get G r ≡ Some a → DerivesAlts G (bases r a) [] → BeginsAlts G q (rests r a) → IsLeftCorner G r q

-- left corners lead from the rule r to the rule q, by at least one step
pub data LeadsTo (G : List Alts) : ℕ → ℕ → Type 0 where
  by_corner : (r q : ℕ) → IsLeftCorner G r q → LeadsTo G r q
  by_corners : (r m q : ℕ) → IsLeftCorner G r m → LeadsTo G m q → LeadsTo G r q

-- a star or plus over a term that can be empty is in the term
abbrev mutual
  pub HasEmptyLoop : List Alts → Term → Type 0
  HasEmptyLoop G (Term.kind k) = ⊥
  HasEmptyLoop G (Term.among ks) = ⊥
  HasEmptyLoop G (Term.rule r) = ⊥
  HasEmptyLoop G (Term.block a) = HasEmptyLoopAlts G a
  HasEmptyLoop G (Term.opt t) = HasEmptyLoop G t
  HasEmptyLoop G (Term.star t) = CanBeEmpty G t ⊎ HasEmptyLoop G t
  HasEmptyLoop G (Term.plus t) = CanBeEmpty G t ⊎ HasEmptyLoop G t
  HasEmptyLoop G Term.eof = ⊥

  pub HasEmptyLoopSeq : List Alts → Seq → Type 0
  HasEmptyLoopSeq G Seq.done = ⊥
  HasEmptyLoopSeq G (Seq.next t s) = HasEmptyLoop G t ⊎ HasEmptyLoopSeq G s

  pub HasEmptyLoopAlts : List Alts → Alts → Type 0
  HasEmptyLoopAlts G Alts.none = ⊥
  HasEmptyLoopAlts G (Alts.or s a) = HasEmptyLoopSeq G s ⊎ HasEmptyLoopAlts G a

-- how many new rules of the normal form a term makes: each block and each suffix makes one
abbrev mutual
  pub new_rules : Term → ℕ
  new_rules (Term.kind k) = 0
  new_rules (Term.among ks) = 0
  new_rules (Term.rule r) = 0
  new_rules (Term.block a) = suc (alts_new_rules a)
  new_rules (Term.opt t) = suc (new_rules t)
  new_rules (Term.star t) = suc (new_rules t)
  new_rules (Term.plus t) = suc (new_rules t)
  new_rules Term.eof = 0

  pub seq_new_rules : Seq → ℕ
  seq_new_rules Seq.done = 0
  seq_new_rules (Seq.next t s) = new_rules t + seq_new_rules s

  pub alts_new_rules : Alts → ℕ
  alts_new_rules Alts.none = 0
  alts_new_rules (Alts.or s a) = seq_new_rules s + alts_new_rules a

-- A rule with rests makes three more: of its bases, of the star of its rests, and of the rests.
abbrev own_rules : Alts → ℕ
own_rules Alts.none = 1
own_rules (Alts.or s a) = 4

-- how many rules of the normal form the rule r makes
abbrev pub group_size : ℕ → Alts → ℕ
group_size r a = own_rules (rests r a) + alts_new_rules a

-- how many rules the normal form has, the first of these rules having the number r
abbrev pub normal_count_from : ℕ → List Alts → ℕ
normal_count_from r [] = 0
normal_count_from r (a ∷ G) = group_size r a + normal_count_from (suc r) G

abbrev pub normal_count : List Alts → ℕ
normal_count G = normal_count_from 0 G
