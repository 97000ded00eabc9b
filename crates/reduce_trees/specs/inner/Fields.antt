-- Beside `../Fields.antt`: what private functions and proofs need.
use Rattle.std.specs.Prelude.{◌≡◌, Option, Some, None, true}
use Rattle.reduce_rounds.specs.Trials.{Trials, Done, Try, is_done, tried_state}
use Rattle.syntax_tree.specs.Trees.{PlainTree, leaves}
use Rattle.syntax_tree.specs.Nodes.{SyntaxTree}
use Rattle.token_print.specs.declared.style.Style.{Style}
use Rattle.reduce_trees_mode.specs.Input.{TreeInput, TreeState}
use Rattle.reduce_trees_mode.specs.Listed.{MayKeepStyle}
use Rattle.reduce_trees_mode.specs.InStyles.{in_style}
use Rattle.reduce_trees_mode.specs.TreeTrials.{trials_in}
use Rattle.reduce_trees.specs.inner.Candidates.{IsCandidateIn}
use Rattle.reduce_trees.specs.declared.candidate.Candidate.{Candidate}
use Rattle.reduce_trees.specs.declared.trial.Trial.{Trial}
use Rattle.reduce_trees.specs.declared.trial.Trial.TheVariants.{Over, Squeezed, Edit, Refused}
use Rattle.reduce_trees.specs.Fields.{IsTreeOf}

-- The candidate is that of the state.
abbrev pub IsCandidateOf : TreeInput → TreeState → Candidate → Type 0
IsCandidateOf input state candidate = IsCandidateIn input (leaves state.tree) state.style candidate

-- the same, where a state is tried; else there is no candidate
abbrev pub IsCandidateIf : TreeInput → Style → Option PlainTree → Candidate → Type 0
IsCandidateIf input style None candidate = ⊥
IsCandidateIf input style (Some tree) candidate = IsCandidateOf input (in_style style tree) candidate

-- what is tried now as a text, if there is something
abbrev pub candidate_in : Trial → Option Candidate
candidate_in Over = None
candidate_in (Squeezed candidate) = Some candidate
candidate_in (Edit candidate) = Some candidate
candidate_in (Refused memory) = None

-- The same candidate again.
pub record IsCopy (candidate copy : Candidate) : Type 0 where
  pub text : copy.text.items ≡ candidate.text.items
  pub tokens : copy.tokens ≡ candidate.tokens
  pub listed : copy.listed ≡ candidate.listed

-- The same trial again.
abbrev pub AreCopies : Trial → Trial → Type 0
AreCopies Over Over = Unit {0}
AreCopies (Squeezed candidate) (Squeezed copy) = IsCopy candidate copy
AreCopies (Edit candidate) (Edit copy) = IsCopy candidate copy
AreCopies Over (Squeezed copy) = ⊥
AreCopies Over (Edit copy) = ⊥
AreCopies (Squeezed candidate) Over = ⊥
AreCopies (Squeezed candidate) (Edit copy) = ⊥
AreCopies (Edit candidate) Over = ⊥
AreCopies (Edit candidate) (Squeezed copy) = ⊥
AreCopies (Refused memory) (Refused copy) = Unit {0}
AreCopies (Refused memory) Over = ⊥
AreCopies (Refused memory) (Squeezed copy) = ⊥
AreCopies (Refused memory) (Edit copy) = ⊥
AreCopies Over (Refused memory) = ⊥
AreCopies (Squeezed candidate) (Refused memory) = ⊥
AreCopies (Edit candidate) (Refused memory) = ⊥

-- It isn't what was refused.
abbrev pub IsMade : Trial → Type 0
IsMade Over = Unit {0}
IsMade (Squeezed candidate) = Unit {0}
IsMade (Edit candidate) = Unit {0}
IsMade (Refused memory) = ⊥

-- what is still tried, where the walk still tries this
abbrev pub rest_of : TreeInput → Style → Trials PlainTree → Trial → Trials TreeState
rest_of input style rest Over = Done
rest_of input style rest (Squeezed candidate) = Try (in_style Style.Squeezed input.whole) Done Done
rest_of input style rest (Edit candidate) = trials_in style rest
rest_of input style rest (Refused memory) = Done

-- It is what is tried: nothing, and the walk tries nothing; the squeezed text of the whole tree before the first round;
-- what the walk tries; or nothing, after memory ran out.
abbrev pub IsTried : TreeInput → Style → PlainTree → Trials PlainTree → Trial → Type 0
IsTried input style left rest Over = is_done rest ≡ true
IsTried input style left rest (Squeezed candidate) =
    (left ≡ input.whole) × (is_done rest ≡ true) × MayKeepStyle input Style.Squeezed × IsCandidateOf input (in_style Style.Squeezed input.whole) candidate
IsTried input style left rest (Edit candidate) = IsCandidateIf input style (tried_state rest) candidate
IsTried input style left rest (Refused memory) = Unit {0}

-- What holds of the fields between two calls.
pub record Agrees (input : TreeInput) (style : Style) (tree : SyntaxTree) (left : PlainTree) (rest : Trials PlainTree) (trial : Trial) : Type 0 where
  pub tree_of : IsTreeOf input tree
  pub may_keep : MayKeepStyle input style
  pub tried : IsTried input style left rest trial
