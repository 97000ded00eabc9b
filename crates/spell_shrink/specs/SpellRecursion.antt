-- A reduction with respelling as one recursion. Its rounds are those of the tree, and in the next phase those of respellings.
use Rattle.std.specs.Prelude.{Bool, List, ℕ}
use Rattle.reduce_step.specs.declared.mode.TreeMode.{TreeMode}
use Rattle.reduce_rounds.specs.Reduction.{Recursion, RoundEnd}
use Rattle.reduce_rounds.specs.ByTrials.{round_of}
use Rattle.token_print.specs.declared.style.Style.{Style}
use Rattle.reduce_trees_mode.specs.Input.{TreeInput}
use Rattle.reduce_trees_mode.specs.InStyles.{end_in, in_style, squeezed_first, trees_in}
use Rattle.reduce_trees.specs.TreeRounds.{tree_round}
use Rattle.spell_shrink.specs.Respelled.{Reduced, Respelled, SpellState, respelling_mode}
use Rattle.spell_shrink.specs.SpellMode.{respelled_next, spell_measure, text_in_phase, tokens_in}

-- what a round comes to, as states of such a reduction
abbrev pub state_end : {T : Type 0} → (T → SpellState) → RoundEnd T → RoundEnd SpellState
state_end as_state end = record { questions = end.questions; state = as_state end.state; changed = end.changed }

-- one round: of trees in one style, as the mode goes through them, or of respellings
abbrev pub spell_phase_round : TreeMode → TreeInput → (List ℕ → Bool) → SpellState → RoundEnd SpellState
spell_phase_round mode input verdict (Reduced state) =
    state_end Reduced (end_in state.style (tree_round mode input (trees_in input state.style) verdict state.tree))
spell_phase_round mode input verdict (Respelled style r) = state_end (Respelled style) (round_of (respelling_mode input style r) verdict r)

abbrev pub spell_recursion : TreeMode → TreeInput → Recursion SpellState
spell_recursion mode input = record {
  start = Reduced (in_style Style.AsWas input.whole);
  text = text_in_phase input;
  size = tokens_in;
  opening = λ verdict. state_end Reduced (squeezed_first input verdict);
  round = spell_phase_round mode input;
  measure = spell_measure input;
  next_phase = respelled_next input;
}
