-- What is reduced, and what its reduction is: the lines of some bytes, or the tree of a text by a grammar, with or without the
-- respelling of what is left.
use Rattle.std.specs.Prelude.{◌≡◌, ℕ, Bool, true, false, List, Option, Some, length}
use Rattle.script_gate_trait.specs.declared.gate.Verdict.{Verdict}
use Rattle.script_gate_trait.specs.declared.gate.Verdict.TheVariants.{Yes}
use Rattle.reduce_rounds.specs.Verdicts.{HasVerdicts, says_yes}
use Rattle.reduce_rounds.specs.Minimal.{IsMinimal}
use Rattle.reduce_rounds.specs.Reduction.{Recursion, Reduction, capped_count, reduction}
use Rattle.reduce_journal.specs.declared.counts.Counts.{Counts}
use Rattle.verdict_table.specs.declared.record.Record.{Record}
use Rattle.verdict_table.specs.TableState.{verdict_in}
use Rattle.normal_form.specs.declared.normal.Sym.{Sym}
use Rattle.normal_form.specs.Form.{NormalForm}
use Rattle.syntax_tree.specs.Edits.{IsSingleDeletion, IsSingleEdit}
use Rattle.syntax_tree.specs.Trees.{PlainTree, leaves, weight}
use Rattle.reduce_core.specs.declared.lines.Line.{Line}
use Rattle.reduce_core.specs.Lines.{numbered_lines, numbers_of}
use Rattle.reduce_core.specs.Candidates.{IsLineCandidate, IsLineEdit}
use Rattle.reduce_core.specs.Reduction.{Admits, is_listed, line_recursion}
use Rattle.reduce_trees_mode.specs.Candidates.{IsCandidate}
use Rattle.reduce_trees_mode.specs.Input.{IsInput, TreeInput, TreeState}
use Rattle.reduce_trees_mode.specs.InStyles.{IsEditIn, tree_recursion}
use Rattle.reduce_trees_mode.specs.Listed.{IsListed}
use Rattle.reduce_trees.specs.TreeRounds.{tree_round}
use Rattle.spell_shrink.specs.Laws.{IsSpellCandidate}
use Rattle.spell_shrink.specs.Phases.{IsListedInPhase, IsNeighbour, numbers_in_phase}
use Rattle.spell_shrink.specs.Respelled.{SpellState, respelled}
use Rattle.spell_shrink.specs.SpellRecursion.{spell_recursion}
use Rattle.reduce_step.specs.declared.mode.TreeMode.{TreeMode}
use Rattle.reduce_step.specs.declared.mode.TreeMode.TheVariants.{Hdd, Perses}

pub data Problem : Type 0 where
  of_lines : (start : List ℕ) → Problem
  of_tree : (mode : TreeMode) (input : TreeInput) → Problem
  of_respelling : (mode : TreeMode) (input : TreeInput) → Problem

-- the problem of a tree, where what is left is respelled or not
abbrev pub tree_problem : Bool → TreeMode → TreeInput → Problem
tree_problem true mode input = Problem.of_respelling mode input
tree_problem false mode input = Problem.of_tree mode input

-- the tree of a problem is that of its text by its grammar
abbrev pub IsProblem : Problem → Type 0
IsProblem (Problem.of_lines start) = Unit {0}
IsProblem (Problem.of_tree mode input) = IsInput input
IsProblem (Problem.of_respelling mode input) = IsInput input

-- the text that is reduced
abbrev pub start_text : Problem → List ℕ
start_text (Problem.of_lines start) = start
start_text (Problem.of_tree mode input) = input.start
start_text (Problem.of_respelling mode input) = input.start

-- how many units it has: lines, or tokens
abbrev pub units_of : Problem → ℕ
units_of (Problem.of_lines start) = length (numbered_lines start)
units_of (Problem.of_tree mode input) = weight input.whole
units_of (Problem.of_respelling mode input) = weight input.whole

-- the text may be asked: it has some of the start's lines, or is printed of some of its tokens, with shorter spellings where these are asked for, and
-- is in the grammar's language; and it is admitted
abbrev pub IsCandidateOf : Admits → Problem → List ℕ → Type 0
IsCandidateOf guard (Problem.of_lines start) text = IsLineCandidate guard start text
IsCandidateOf guard (Problem.of_tree mode input) text = IsCandidate input text
IsCandidateOf guard (Problem.of_respelling mode input) text = IsSpellCandidate input text

-- what remains of it: some of the lines, or a tree with its style, or this or a respelling
abbrev pub StateOf : Problem → Type 0
StateOf (Problem.of_lines start) = List Line
StateOf (Problem.of_tree mode input) = TreeState
StateOf (Problem.of_respelling mode input) = SpellState

-- the single edits of a tree in a mode: deletions and replacements, or deletions alone
abbrev pub IsEditBy : TreeMode → NormalForm → Sym → PlainTree → PlainTree → Type 0
IsEditBy Perses = IsSingleEdit
IsEditBy Hdd = λ N s t u. IsSingleDeletion N t u

-- one state is a single edit of another: one line is deleted, or the tree is edited once, or one spelling is changed to a shorter one
abbrev pub IsEditOf : (problem : Problem) → StateOf problem → StateOf problem → Type 0
IsEditOf (Problem.of_lines start) = IsLineEdit
IsEditOf (Problem.of_tree mode input) = IsEditIn (IsEditBy mode input.form input.symbol)
IsEditOf (Problem.of_respelling mode input) = IsNeighbour input

-- a state may be asked
abbrev pub IsListedOf : Admits → (problem : Problem) → StateOf problem → Type 0
IsListedOf guard (Problem.of_lines start) = λ lines. is_listed guard lines ≡ true
IsListedOf guard (Problem.of_tree mode input) = IsListed input
IsListedOf guard (Problem.of_respelling mode input) = IsListedInPhase input

-- what its reduction is made of: by lines a round is one list step; by a tree it visits node after node, or goes level after level, and then, where this
-- is asked for, it goes over the spellings
abbrev pub recursion_of : Admits → (problem : Problem) → Recursion (StateOf problem)
recursion_of guard (Problem.of_lines start) = line_recursion guard start
recursion_of guard (Problem.of_tree mode input) = tree_recursion (tree_round mode input) input
recursion_of guard (Problem.of_respelling mode input) = spell_recursion mode input

-- its reduction over a map of verdicts
abbrev pub reduction_of : Admits → (problem : Problem) → (List ℕ → Option Verdict) → Reduction (StateOf problem)
reduction_of guard problem V = reduction (recursion_of guard problem) (says_yes V)

-- the texts that the reduction asks, in order
abbrev pub questions_of : Admits → Problem → (List ℕ → Option Verdict) → List (List ℕ)
questions_of guard problem V = (reduction_of guard problem V).questions

-- whether it refuses the start
abbrev pub refuses : Admits → Problem → (List ℕ → Option Verdict) → Bool
refuses guard problem V = (reduction_of guard problem V).refused

-- the text that it ends with
abbrev pub reduced_text : Admits → Problem → (List ℕ → Option Verdict) → List ℕ
reduced_text guard problem V = (recursion_of guard problem).text (reduction_of guard problem V).state

-- the numbers, from 0, of the lines or tokens that a state has
abbrev pub numbers_in : (problem : Problem) → StateOf problem → List ℕ
numbers_in (Problem.of_lines start) = numbers_of
numbers_in (Problem.of_tree mode input) = λ state. leaves state.tree
numbers_in (Problem.of_respelling mode input) = numbers_in_phase

-- those of the state that it ends with
abbrev pub reduced_numbers : Admits → Problem → (List ℕ → Option Verdict) → List ℕ
reduced_numbers guard problem V = numbers_in problem (reduction_of guard problem V).state

-- how many units are left
abbrev pub reduced_units : Admits → Problem → (List ℕ → Option Verdict) → ℕ
reduced_units guard problem V = (recursion_of guard problem).size (reduction_of guard problem V).state

-- how many rounds it takes, the last one included, in which nothing changes
abbrev pub rounds_of : Admits → Problem → (List ℕ → Option Verdict) → ℕ
rounds_of guard problem V = (reduction_of guard problem V).rounds

-- what the report says: units and bytes of the start and of the result, the rounds, the
-- answers and the records; counts of 64 bits, which stay at their greatest value
abbrev pub counts_of : Admits → Problem → List Record → Counts
counts_of guard problem records = record {
  start_units = units_of problem;
  end_units = reduced_units guard problem (verdict_in records);
  start_bytes = length (start_text problem);
  end_bytes = length (reduced_text guard problem (verdict_in records));
  rounds = capped_count (rounds_of guard problem (verdict_in records));
  used = capped_count (length (questions_of guard problem (verdict_in records)));
  records = length records;
}

-- what it ends with is minimal: each single edit of it that may be asked has a recorded no
abbrev pub EndsMinimally : Admits → Problem → (List ℕ → Option Verdict) → Type 0
EndsMinimally guard problem V = IsMinimal (IsEditOf problem) (IsListedOf guard problem) (recursion_of guard problem).text V (reduction_of guard problem V).state

-- With respelling the tree is reduced as without: the map has a verdict for each text that this asks, what it ends with is minimal by the edits of trees,
-- and its respelling follows.
pub record ReducesFirst (guard : Admits) (V : List ℕ → Option Verdict) (mode : TreeMode) (input : TreeInput) : Type 0 where
  pub defined : HasVerdicts V (questions_of guard (Problem.of_tree mode input) V)
  pub minimal : EndsMinimally guard (Problem.of_tree mode input) V
  pub follows : reduction_of guard (Problem.of_respelling mode input) V ≡ respelled input (says_yes V) (reduction_of guard (Problem.of_tree mode input) V)

abbrev pub IsRespelled : Admits → (List ℕ → Option Verdict) → Problem → Type 0
IsRespelled guard V (Problem.of_lines start) = Unit {0}
IsRespelled guard V (Problem.of_tree mode input) = Unit {0}
IsRespelled guard V (Problem.of_respelling mode input) = ReducesFirst guard V mode input

-- The text is what is reduced to over a map of verdicts. The map has a verdict for each text that the reduction asks; the start
-- is interesting, and so is the text, which is admitted with the lines or tokens that are left and may be asked; and it is minimal.
pub record IsReductionOf (guard : Admits) (V : List ℕ → Option Verdict) (problem : Problem) (text : List ℕ) : Type 0 where
  pub is_problem : IsProblem problem
  pub defined : HasVerdicts V (questions_of guard problem V)
  pub interesting : refuses guard problem V ≡ false
  pub is_text : text ≡ reduced_text guard problem V
  pub yes_at_end : V text ≡ Some Yes
  pub admitted : guard (reduced_numbers guard problem V) text ≡ true
  pub candidate : IsCandidateOf guard problem text
  pub minimal : EndsMinimally guard problem V
  pub respells : IsRespelled guard V problem
