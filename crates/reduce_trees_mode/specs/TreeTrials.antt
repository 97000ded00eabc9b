-- A reduction of trees as a mode: what it tries.
use Rattle.std.specs.Prelude.{◌&&◌, nat_lt, None, length, cond}
use Rattle.syntax_tree.specs.Trees.{PlainTree, leaves, weight}
use Rattle.reduce_rounds.specs.Trials.{Trials, Done, Try}
use Rattle.reduce_rounds.specs.Mode.{RoundMode}
use Rattle.token_print.specs.declared.style.Style.{Style}
use Rattle.reduce_trees_mode.specs.Input.{TreeInput, TreeState}
use Rattle.reduce_trees_mode.specs.Listed.{is_listed, text_in, text_of_state}
use Rattle.reduce_trees_mode.specs.InStyles.{in_style}

-- the same trials, of states in one style
abbrev pub trials_in : Style → Trials PlainTree → Trials TreeState
trials_in style Done = Done
trials_in style (Try tree at_yes at_no) = Try (in_style style tree) (trials_in style at_yes) (trials_in style at_no)

-- Where it is asked for, the squeezed text of the whole is tried once, if it has fewer bytes than the start.
abbrev pub opening_trials : TreeInput → Trials TreeState
opening_trials input =
    cond (input.squeezes && nat_lt (length (text_in input (leaves input.whole) Style.Squeezed)) (length input.start))
    (Try (in_style Style.Squeezed input.whole) Done Done)
    Done

-- The reduction of an input's trees, where a round tries these trees from each tree. A tree has as many units as leaves, and keeps its style in a round.
abbrev pub tree_mode : (PlainTree → Trials PlainTree) → TreeInput → RoundMode TreeState
tree_mode round input =
    record {
      start = in_style Style.AsWas input.whole;
      text = text_of_state input;
      is_listed = is_listed input;
      size = λ state. weight state.tree;
      opening = opening_trials input;
      round = λ state. trials_in state.style (round state.tree);
      measure = λ state. weight state.tree;
      next_phase = λ state. None;
    }
