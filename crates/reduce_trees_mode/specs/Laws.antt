-- What follows from the definitions, for the proofs of other crates.
use Rattle.std.specs.Prelude.{◌≡◌, ◌↔◌, ℕ, ◌≤◌, Bool, true, IsTrue, List, length}
use Rattle.grammar_tree.specs.Written.{WrittenGrammar}
use Rattle.grammar_tree.specs.Faults.{IsWellFormed}
use Rattle.syntax_tree.specs.Trees.{PlainTree, leaves, weight}
use Rattle.syntax_tree.specs.Valid.{IsTreeFor}
use Rattle.syntax_tree.specs.Left.{IsRemainderOf}
use Rattle.reduce_rounds.specs.ByTrials.{opening_of, round_of, trials_end}
use Rattle.reduce_rounds.specs.Trials.{Trials, AllTried, EachIsSmaller, IsTriedAtNo}
use Rattle.token_print.specs.Laws.{all_kept}
use Rattle.token_print.specs.declared.style.Style.{Style}
use Rattle.reduce_trees_mode.specs.Input.{IsInput, TreeInput, TreeState}
use Rattle.reduce_trees_mode.specs.Candidates.{IsCandidate}
use Rattle.reduce_trees_mode.specs.Listed.{IsKept, IsListed, is_listed, text_of_state}
use Rattle.reduce_trees_mode.specs.InStyles.{end_in, in_style, squeezed_first, trees_in}
use Rattle.reduce_trees_mode.specs.TreeTrials.{opening_trials, tree_mode, trials_in}

-- There is at most one proof that a grammar is well-formed.
abbrev pub WellFormedOnce : Type 0
WellFormedOnce = (G : WrittenGrammar) (start : ℕ) (one other : IsWellFormed G start) → one ≡ other

-- `is_listed` is true exactly of the states that may be asked.
abbrev pub ListedIsDecided : Type 0
ListedIsDecided = (input : TreeInput) (state : TreeState) → (is_listed input state ≡ true) ↔ IsListed input state

-- The text of a state that is kept and may be asked is a candidate, so it is in the language of the grammar as written.
abbrev pub ListedAreCandidates : Type 0
ListedAreCandidates =
    (input : TreeInput) (state : TreeState) → IsInput input → IsKept input state → IsListed input state → IsCandidate input (text_of_state input state)

-- The first state of a reduction of trees.
pub record IsStart (input : TreeInput) (state : TreeState) : Type 0 where
  pub text : text_of_state input state ≡ input.start
  pub kept : IsKept input state
  pub tokens : leaves state.tree ≡ all_kept input.tokens
  pub listed : IsTrue (input.admits (leaves state.tree) input.start) → IsListed input state

-- The tree of all tokens has the start's text, and it may be asked where it is admitted.
abbrev pub WholeIsStart : Type 0
WholeIsStart = (input : TreeInput) → IsInput input → IsStart input (in_style Style.AsWas input.whole)

-- No text of a state that is kept has more bytes than the start.
abbrev pub TextsAreNoLonger : Type 0
TextsAreNoLonger = (input : TreeInput) (state : TreeState) → IsInput input → IsKept input state → length (text_of_state input state) ≤ length input.start

-- What the opening tries is kept.
abbrev pub OpeningIsKept : Type 0
OpeningIsKept = (input : TreeInput) → IsInput input → AllTried (IsKept input) (opening_trials input)

-- Trials of states in one style are those of their trees.
pub record AreTrialsIn (input : TreeInput) (state : TreeState) (trials : Trials PlainTree) : Type 0 where
  -- each is kept, where each tree is valid for the start rule and left of the whole
  pub kept : IsKept input state → AllTried (λ tree. IsTreeFor input.form input.symbol tree × IsRemainderOf input.whole tree) trials
      → AllTried (IsKept input) (trials_in state.style trials)
  pub smaller : (n : ℕ) → EachIsSmaller weight n trials → EachIsSmaller (λ (other : TreeState). weight other.tree) n (trials_in state.style trials)
  pub tried : (tree : PlainTree) → IsTriedAtNo trials tree → IsTriedAtNo (trials_in state.style trials) (in_style state.style tree)

abbrev pub StylesStay : Type 0
StylesStay = (input : TreeInput) (state : TreeState) (trials : Trials PlainTree) → AreTrialsIn input state trials

-- Over a verdict the opening comes to the one test of the squeezed text, or to nothing.
abbrev pub OpeningIsOneTest : Type 0
OpeningIsOneTest =
    (input : TreeInput) (round : PlainTree → Trials PlainTree) (verdict : List ℕ → Bool)
    → opening_of (tree_mode round input) verdict ≡ squeezed_first input verdict

-- Over a verdict a round of the mode comes to what the round from its tree comes to over the trees in its style.
abbrev pub RoundsKeepStyle : Type 0
RoundsKeepStyle = (input : TreeInput) (round : PlainTree → Trials PlainTree) (verdict : List ℕ → Bool) (state : TreeState)
    → round_of (tree_mode round input) verdict state ≡ end_in state.style (trials_end (trees_in input state.style) verdict state.tree (round state.tree))
