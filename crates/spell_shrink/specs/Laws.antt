-- What holds of reductions with respelling.
use Rattle.std.specs.Prelude.{◌≡◌, ◌⊎◌, ◌≤◌, ℕ, Bool, true, List, Option, Some, length}
use Rattle.script_gate_trait.specs.declared.gate.Verdict.{Verdict}
use Rattle.script_gate_trait.specs.declared.gate.Verdict.TheVariants.{Yes}
use Rattle.normal_form.specs.declared.normal.Sym.{Sym}
use Rattle.normal_form.specs.Form.{NormalForm}
use Rattle.syntax_tree.specs.Trees.{PlainTree}
use Rattle.token_print.specs.declared.style.Style.{Style}
use Rattle.reduce_rounds.specs.Trials.{IsTriedAtNo, Trials}
use Rattle.reduce_rounds.specs.Mode.{IsLawful, PhasesAgree}
use Rattle.reduce_rounds.specs.Minimal.{IsMinimal}
use Rattle.reduce_rounds.specs.Reduction.{reduction}
use Rattle.reduce_rounds.specs.ByTrials.{reduction_of}
use Rattle.reduce_rounds.specs.Laws.{EndsWell, IsTextOf}
use Rattle.reduce_step.specs.declared.mode.TreeMode.{TreeMode}
use Rattle.reduce_trees_mode.specs.Input.{IsInput, TreeInput}
use Rattle.reduce_trees_mode.specs.Candidates.{IsCandidate}
use Rattle.reduce_trees.specs.Ends.{AdmitsStart}
use Rattle.reduce_trees.specs.WalkMode.{walk_mode}
use Rattle.spell_shrink.specs.Respelling.{IsShorterNeighbour, Respelling}
use Rattle.spell_shrink.specs.Texts.{IsListedRespelling, IsRespelledText, text_of_respelling}
use Rattle.spell_shrink.specs.Respelled.{Respelled, SpellState, respelled, spell_round}
use Rattle.spell_shrink.specs.SpellMode.{IsKeptInPhase, spell_mode, text_in_phase}
use Rattle.spell_shrink.specs.SpellRecursion.{spell_recursion}

-- A round whose answers are all no has tried each shorter neighbour.
abbrev pub RoundsTryNeighbours : Type 0
RoundsTryNeighbours =
    (input : TreeInput) (r other : Respelling) → IsShorterNeighbour input.start input.tokens r other
    → IsTriedAtNo (spell_round input.start input.tokens r) other

-- The end of a respelling: it has a yes, it may be asked, and each shorter neighbour that may be asked has a no.
pub record IsEndOfRespelling (input : TreeInput) (V : List ℕ → Option Verdict) (state : SpellState) : Type 0 where
  pub style : Style
  pub respelling : Respelling
  pub is_respelled : state ≡ Respelled style respelling
  pub yes_at_end : V (text_of_respelling input style respelling) ≡ Some Yes
  pub listed : IsListedRespelling input style respelling
  pub minimal : IsMinimal (IsShorterNeighbour input.start input.tokens) (IsListedRespelling input style) (text_of_respelling input style) V respelling

-- what may be asked: a candidate of the reduction, or the text of a listed respelling; both are in the grammar's language
abbrev pub IsSpellCandidate : TreeInput → List ℕ → Type 0
IsSpellCandidate input text = IsCandidate input text ⊎ IsRespelledText input text

module _ (round : NormalForm → Sym → PlainTree → Trials PlainTree) where
  -- The mode reaches kept states alone, and each yes within a round, and the next phase, has a smaller measure.
  abbrev pub SpellModeIsLawful : Type 0
  SpellModeIsLawful = (input : TreeInput) → IsInput input → IsLawful (spell_mode round input) (IsKeptInPhase input)

  -- A phase of it begins with the text and the tokens that the one before ended with.
  abbrev pub SpellPhasesAgree : Type 0
  SpellPhasesAgree = (input : TreeInput) → PhasesAgree (spell_mode round input)

  -- Its reductions are those of the recursion.
  abbrev pub SpellersAreRecursions : TreeMode → Type 0
  SpellersAreRecursions mode = (input : TreeInput) (verdict : List ℕ → Bool) → IsInput input
      → reduction (spell_recursion mode input) verdict ≡ reduction_of (spell_mode round input) verdict

  -- They are those of the tree, with the respelling that follows.
  abbrev pub RespellsReductions : Type 0
  RespellsReductions = (input : TreeInput) (verdict : List ℕ → Bool) → IsInput input
      → reduction_of (spell_mode round input) verdict ≡ respelled input verdict (reduction_of (walk_mode round input) verdict)

  -- It begins with its start, where that is admitted.
  abbrev pub RespellsFromStart : Type 0
  RespellsFromStart = (input : TreeInput) → IsInput input → AdmitsStart input
      → (text_in_phase input (spell_mode round input).start ≡ input.start) × ((spell_mode round input).is_listed (spell_mode round input).start ≡ true)

  -- The text of a listed state that is kept may be asked, and has no more bytes than the start.
  abbrev pub RespellsCandidates : Type 0
  RespellsCandidates = (input : TreeInput) (text : List ℕ) → IsInput input → IsTextOf (spell_mode round input) (IsKeptInPhase input) text
      → IsSpellCandidate input text × (length text ≤ length input.start)

  -- A state that ends well, as reductions by rounds do, is the end of a respelling.
  abbrev pub RespellsToEnd : Type 0
  RespellsToEnd = (input : TreeInput) (V : List ℕ → Option Verdict) (state : SpellState) → IsInput input
      → EndsWell (spell_mode round input) (IsKeptInPhase input) (λ one other. IsTriedAtNo ((spell_mode round input).round one) other) V state
      → IsEndOfRespelling input V state
