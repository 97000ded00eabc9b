-- The trees of rounds that were worked out by hand. They are over the normal form of this grammar:
--
--   file : stmt* EOF ; stmt : ID '=' expr ';' | '{' stmt* '}' ; expr : expr '+' expr | '(' expr ')' | ID | INT ;
use Rattle.std.specs.Prelude.{◌≡◌, ℕ, ◌+◌, nat_eq, Bool, true, false, cond, List, [], ◌∷◌}
use Rattle.normal_form.specs.declared.normal.Sym.TheVariants.{Kind, Rule}
use Rattle.normal_form.specs.Form.{RuleForm, NormalForm}
use Rattle.reduce_rounds.specs.Trials.{Trials, Done, Try}
use Rattle.syntax_tree.specs.Trees.{PlainTree, PlainTrees, leaves}

-- What is asked and answered.
pub record Asked : Type 0 where
  -- the tokens of the tree that is tried
  pub tokens : List ℕ
  pub answer : Bool

abbrev pub no_of : List ℕ → Asked
no_of tokens = record { tokens = tokens; answer = false }

abbrev pub yes_of : List ℕ → Asked
yes_of tokens = record { tokens = tokens; answer = true }

-- With these answers, trees with these tokens are tried in this order, and then nothing more.
abbrev pub TriesInOrder : List Asked → Trials PlainTree → Type 0
TriesInOrder [] trials = trials ≡ Done
TriesInOrder (asked ∷ later) trials =
    (u : PlainTree) × (at_yes : Trials PlainTree) × (at_no : Trials PlainTree) × (trials ≡ Try u at_yes at_no) × (leaves u ≡ asked.tokens)
    × TriesInOrder later (cond asked.answer at_yes at_no)

-- The grammar's kinds are = ; { } + ( ) ID INT, with the numbers 0 to 8, and its rules have the numbers 0 to 7: file,
-- its star, stmt, its star, expr, what an expr begins with, the star of what follows, and what follows.
abbrev pub worked_form : NormalForm
worked_form = record {
  rules =
      RuleForm.regular ((Rule 1 ∷ []) ∷ [])
      ∷ RuleForm.star (Rule 2)
      ∷ RuleForm.regular ((Kind 7 ∷ Kind 0 ∷ Rule 4 ∷ Kind 1 ∷ []) ∷ (Kind 2 ∷ Rule 3 ∷ Kind 3 ∷ []) ∷ [])
      ∷ RuleForm.star (Rule 2)
      ∷ RuleForm.regular ((Rule 5 ∷ Rule 6 ∷ []) ∷ [])
      ∷ RuleForm.regular ((Kind 5 ∷ Rule 4 ∷ Kind 6 ∷ []) ∷ (Kind 7 ∷ []) ∷ (Kind 8 ∷ []) ∷ [])
      ∷ RuleForm.star (Rule 7)
      ∷ RuleForm.regular ((Kind 4 ∷ Rule 4 ∷ []) ∷ [])
      ∷ [];
  names = [];
  sets = [];
  start = 0;
}

abbrev pub one : PlainTree → PlainTrees
one t = PlainTrees.next t PlainTrees.none

abbrev pub three : PlainTree → PlainTree → PlainTree → PlainTrees
three t u v = PlainTrees.next t (PlainTrees.next u (one v))

-- the expression of one token of this kind, from the number n on: four nodes
abbrev pub one_token : ℕ → ℕ → ℕ → PlainTree
one_token n kind token =
    PlainTree.node n 4 0 (PlainTrees.next (PlainTree.node (n + 1) 5 (cond (nat_eq kind 7) 1 2) (one (PlainTree.leaf (n + 2) kind token)))
    (one (PlainTree.node (n + 3) 6 0 PlainTrees.none)))

-- the expression in brackets, from the number n on; the expression within has so many nodes
abbrev pub in_brackets : ℕ → ℕ → ℕ → ℕ → PlainTree → PlainTree
in_brackets n nodes first last within =
    PlainTree.node n 4 0 (PlainTrees.next (PlainTree.node (n + 1) 5 0 (three (PlainTree.leaf (n + 2) 5 first) within (PlainTree.leaf (n + 3 + nodes) 6 last)))
    (one (PlainTree.node (n + 4 + nodes) 6 0 PlainTrees.none)))

-- the statement ID '=' expr ';', from the number n on; the expression has so many nodes
abbrev pub set_to : ℕ → ℕ → ℕ → ℕ → PlainTree → PlainTree
set_to n nodes first last within =
    PlainTree.node n 2 0 (PlainTrees.next (PlainTree.leaf (n + 1) 7 first)
    (three (PlainTree.leaf (n + 2) 0 (first + 1)) within (PlainTree.leaf (n + 3 + nodes) 1 last)))

-- a block with one statement, from the number n on; the statement has so many nodes
abbrev pub in_block : ℕ → ℕ → ℕ → ℕ → PlainTree → PlainTree
in_block n nodes first last within =
    PlainTree.node n 2 1 (three (PlainTree.leaf (n + 1) 2 first) (PlainTree.node (n + 2) 3 0 (one within)) (PlainTree.leaf (n + 3 + nodes) 3 last))

abbrev pub file_of : PlainTrees → PlainTree
file_of ts = PlainTree.node 0 0 0 (one (PlainTree.node 1 1 0 ts))

-- The grammar s : 'x'+ ;
abbrev pub plus_form : NormalForm
plus_form = record { rules = RuleForm.regular ((Rule 1 ∷ []) ∷ []) ∷ RuleForm.plus (Kind 0) ∷ []; names = []; sets = []; start = 0 }

abbrev pub plus_of : PlainTrees → PlainTree
plus_of ts = PlainTree.node 0 0 0 (one (PlainTree.node 1 1 0 ts))
