-- What a reduction of trees asks, and what it ends with, in the words of trees.
use Rattle.std.specs.Prelude.{◌≡◌, ℕ, true, List, Option, Some, IsTrue}
use Rattle.script_gate_trait.specs.declared.gate.Verdict.{Verdict}
use Rattle.script_gate_trait.specs.declared.gate.Verdict.TheVariants.{Yes}
use Rattle.normal_form.specs.declared.normal.Sym.{Sym}
use Rattle.normal_form.specs.Form.{NormalForm}
use Rattle.reduce_rounds.specs.Mode.{RoundMode}
use Rattle.reduce_rounds.specs.Trials.{IsTriedAtNo, Trials}
use Rattle.reduce_rounds.specs.Minimal.{IsMinimal}
use Rattle.reduce_rounds.specs.Laws.{EndsWell, IsTextOf}
use Rattle.syntax_tree.specs.Trees.{PlainTree, leaves}
use Rattle.reduce_trees_mode.specs.Input.{IsInput, TreeInput, TreeState}
use Rattle.reduce_trees_mode.specs.Candidates.{IsCandidate}
use Rattle.reduce_trees_mode.specs.Listed.{IsKept, IsListed, text_of_state}
use Rattle.reduce_trees_mode.specs.InStyles.{IsEditIn}
use Rattle.reduce_trees.specs.WalkMode.{walk_mode}

-- The start is admitted with all its tokens.
abbrev pub AdmitsStart : TreeInput → Type 0
AdmitsStart input = IsTrue (input.admits (leaves input.whole) input.start)

-- What a reduction in this mode asks first is this start, byte for byte, and it may be asked.
pub record BeginsWith (mode : RoundMode TreeState) (start : List ℕ) : Type 0 where
  pub text : mode.text mode.start ≡ start
  pub listed : mode.is_listed mode.start ≡ true

-- The end of a reduction: it has a yes, it may be asked, it is kept, and it is minimal by these edits.
pub record IsEndBy (IsEdit : NormalForm → Sym → PlainTree → PlainTree → Type 0) (input : TreeInput) (V : List ℕ → Option Verdict)
    (state : TreeState) : Type 0 where
  pub yes_at_end : V (text_of_state input state) ≡ Some Yes
  pub listed : IsListed input state
  pub kept : IsKept input state
  pub minimal : IsMinimal (IsEditIn (IsEdit input.form input.symbol)) (IsListed input) (text_of_state input) V state

module _ (round : NormalForm → Sym → PlainTree → Trials PlainTree) where
  -- A reduction with these rounds begins with its start, where that is admitted.
  abbrev pub WalksBegin : Type 0
  WalksBegin = (input : TreeInput) → IsInput input → AdmitsStart input → BeginsWith (walk_mode round input) input.start

  -- The text of a listed state that is kept is a candidate.
  abbrev pub WalksAskCandidates : Type 0
  WalksAskCandidates = (input : TreeInput) (text : List ℕ) → IsInput input → IsTextOf (walk_mode round input) (IsKept input) text → IsCandidate input text

  -- A state that ends well, as reductions by rounds do, is such an end: its edits are among what a round from it tries if each answer is no.
  abbrev pub WalksEndMinimal : (NormalForm → Sym → PlainTree → PlainTree → Type 0) → Type 0
  WalksEndMinimal IsEdit = (input : TreeInput) (V : List ℕ → Option Verdict) (state : TreeState) → IsInput input
      → EndsWell (walk_mode round input) (IsKept input) (λ one other. IsTriedAtNo ((walk_mode round input).round one) other) V state
      → IsEndBy IsEdit input V state
