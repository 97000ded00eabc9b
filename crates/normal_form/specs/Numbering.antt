-- Which symbols and which new rules the terms of a parser rule give. A new rule is numbered where its
-- term begins as it is written: outer before inner, and a suffix before its operand.
use Rattle.std.specs.Prelude.{ℕ, ◌+◌, List, [], ◌∷◌, ◌++◌, Option, Some, None}
use Rattle.grammar_tree.specs.Derives.{Term, Seq, Alts}
use Rattle.grammar_tree.specs.Corners.{new_rules, seq_new_rules, rest_of, rests, group_size}
use Rattle.normal_form.specs.declared.normal.Sym.{Sym}
use Rattle.normal_form.specs.declared.normal.Sym.TheVariants.{Kind, Set, Rule}
use Rattle.normal_form.specs.Form.{RuleForm}

-- The numbers of the rules that have the parser rules' own names, and of the sets.
pub record Numbering : Type 0 where
  pub own_rule : ℕ → ℕ
  pub set_of : List ℕ → ℕ

-- The symbol of a term. A block or a suffix is the new rule that it makes, which has the number n.
abbrev pub symbol : Numbering → ℕ → Term → Sym
symbol M n (Term.kind k) = Kind k
symbol M n (Term.among ks) = Set (M.set_of ks)
symbol M n (Term.rule r) = Rule (M.own_rule r)
symbol M n (Term.block a) = Rule n
symbol M n (Term.opt t) = Rule n
symbol M n (Term.star t) = Rule n
symbol M n (Term.plus t) = Rule n
symbol M n Term.eof = Rule n

-- `EOF` has no symbol, and is left out.
abbrev pub and_symbol : Term → Sym → List Sym → List Sym
and_symbol Term.eof s ss = ss
and_symbol _ s ss = s ∷ ss

-- the symbols of a sequence, whose first new rule has the number n
abbrev pub seq_symbols : Numbering → ℕ → Seq → List Sym
seq_symbols M n Seq.done = []
seq_symbols M n (Seq.next t s) = and_symbol t (symbol M n t) (seq_symbols M (n + new_rules t) s)

-- the symbols of each alternative
abbrev pub alts_symbols : Numbering → ℕ → Alts → List (List Sym)
alts_symbols M n Alts.none = []
alts_symbols M n (Alts.or s a) = seq_symbols M n s ∷ alts_symbols M (n + seq_new_rules s) a

-- the new rules of a term, from the number n on
abbrev mutual
  pub term_rules : Numbering → ℕ → Term → List RuleForm
  term_rules M n (Term.kind k) = []
  term_rules M n (Term.among ks) = []
  term_rules M n (Term.rule r) = []
  term_rules M n (Term.block a) = RuleForm.regular (alts_symbols M (n + 1) a) ∷ alts_rules M (n + 1) a
  term_rules M n (Term.opt t) = RuleForm.opt (symbol M (n + 1) t) ∷ term_rules M (n + 1) t
  term_rules M n (Term.star t) = RuleForm.star (symbol M (n + 1) t) ∷ term_rules M (n + 1) t
  term_rules M n (Term.plus t) = RuleForm.plus (symbol M (n + 1) t) ∷ term_rules M (n + 1) t
  term_rules M n Term.eof = []

  -- those of a sequence, in its order
  pub seq_rules : Numbering → ℕ → Seq → List RuleForm
  seq_rules M n Seq.done = []
  seq_rules M n (Seq.next t s) = term_rules M n t ++ seq_rules M (n + new_rules t) s

  -- those of alternatives, in their order
  pub alts_rules : Numbering → ℕ → Alts → List RuleForm
  alts_rules M n Alts.none = []
  alts_rules M n (Alts.or s a) = seq_rules M n s ++ alts_rules M (n + seq_new_rules s) a

-- a sequence without its first symbol
abbrev pub tail : List Sym → List Sym
tail [] = []
tail (s ∷ ss) = ss

abbrev pub with_base : Option Seq → List Sym → List (List Sym) → List (List Sym)
with_base None ss more = ss ∷ more
with_base (Some rest) ss more = more

abbrev pub with_rest : Option Seq → List Sym → List (List Sym) → List (List Sym)
with_rest None ss more = more
with_rest (Some rest) ss more = tail ss ∷ more

-- the symbols of the bases of the rule r, whose alternatives are numbered in written order
abbrev pub base_symbols : Numbering → ℕ → ℕ → Alts → List (List Sym)
base_symbols M r n Alts.none = []
base_symbols M r n (Alts.or s a) = with_base (rest_of r s) (seq_symbols M n s) (base_symbols M r (n + seq_new_rules s) a)

-- the symbols of its rests
abbrev pub rest_symbols : Numbering → ℕ → ℕ → Alts → List (List Sym)
rest_symbols M r n Alts.none = []
rest_symbols M r n (Alts.or s a) = with_rest (rest_of r s) (seq_symbols M n s) (rest_symbols M r (n + seq_new_rules s) a)

-- The first four rules of a rule with rests, from the number n on, whose bases and rests have these symbols.
abbrev pub head_of : ℕ → List (List Sym) → List (List Sym) → List RuleForm
head_of n base rest =
    RuleForm.regular ((Rule (n + 1) ∷ Rule (n + 2) ∷ []) ∷ []) ∷ RuleForm.regular base ∷ RuleForm.star (Rule (n + 3)) ∷ RuleForm.regular rest ∷ []

abbrev pub recursive_group : Numbering → ℕ → ℕ → Alts → List RuleForm
recursive_group M n r a = head_of n (base_symbols M r (n + 4) a) (rest_symbols M r (n + 4) a) ++ alts_rules M (n + 4) a

-- The rules of the rule r, of which its own has the number n. Without rests it is regular, with its alternatives. With rests it is
-- regular with one alternative, the bases and then the star of the rests, and these three are its first new rules.
abbrev pub group_of : Numbering → ℕ → ℕ → Alts → Alts → List RuleForm
group_of M n r a Alts.none = RuleForm.regular (alts_symbols M (n + 1) a) ∷ alts_rules M (n + 1) a
group_of M n r a (Alts.or s b) = recursive_group M n r a

abbrev pub group : Numbering → ℕ → ℕ → Alts → List RuleForm
group M n r a = group_of M n r a (rests r a)

-- the rules of all parser rules from the rule r on, of which its own has the number n
abbrev pub groups : Numbering → ℕ → ℕ → List Alts → List RuleForm
groups M n r [] = []
groups M n r (a ∷ G) = group M n r a ++ groups M (n + group_size r a) (r + 1) G
