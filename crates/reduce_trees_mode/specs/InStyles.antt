-- The reduction of trees, as a recursion over a verdict on every text.
use Rattle.std.specs.Prelude.{◌≡◌, ◌&&◌, nat_lt, ℕ, Bool, List, None, length, if◌then◌else◌}
use Rattle.syntax_tree.specs.Trees.{PlainTree, leaves, weight}
use Rattle.reduce_rounds.specs.StateTexts.{StateTexts}
use Rattle.reduce_rounds.specs.Reduction.{Recursion, RoundEnd, end_at, tested}
use Rattle.token_print.specs.declared.style.Style.{Style}
use Rattle.reduce_trees_mode.specs.Input.{TreeInput, TreeState}
use Rattle.reduce_trees_mode.specs.Listed.{is_listed, text_in, text_of_state}

-- the tree in the style
abbrev pub in_style : Style → PlainTree → TreeState
in_style style tree = record { tree = tree; style = style }

-- One state is an edit of another: its tree is, and the style is the same.
pub record IsEditIn (IsEdit : PlainTree → PlainTree → Type 0) (state other : TreeState) : Type 0 where
  pub tree : IsEdit state.tree other.tree
  pub style : state.style ≡ other.style

-- the states of an input: their texts, and which of them may be asked
abbrev pub states_of : TreeInput → StateTexts TreeState
states_of input = record { text = text_of_state input; is_listed = is_listed input }

-- its trees in one style
abbrev pub trees_in : TreeInput → Style → StateTexts PlainTree
trees_in input style = record { text = λ tree. text_of_state input (in_style style tree); is_listed = λ tree. is_listed input (in_style style tree) }

-- what a round of trees comes to, as states in one style
abbrev pub end_in : Style → RoundEnd PlainTree → RoundEnd TreeState
end_in style end = record { questions = end.questions; state = in_style style end.state; changed = end.changed }

-- Where it is asked for, the squeezed text of the whole is tested once, if it has fewer bytes than the start. At yes texts are squeezed from then on.
abbrev pub squeezed_first : TreeInput → (List ℕ → Bool) → RoundEnd TreeState
squeezed_first input verdict =
    if input.squeezes && nat_lt (length (text_in input (leaves input.whole) Style.Squeezed)) (length input.start)
    then tested (states_of input) verdict (in_style Style.Squeezed input.whole) (end_at (in_style Style.Squeezed input.whole))
    (end_at (in_style Style.AsWas input.whole))
    else end_at (in_style Style.AsWas input.whole)

-- The reduction of an input's trees, where a round of trees in one style comes to this. A tree has as many units as leaves, and keeps its style in a round.
abbrev pub tree_recursion : (StateTexts PlainTree → (List ℕ → Bool) → PlainTree → RoundEnd PlainTree) → TreeInput → Recursion TreeState
tree_recursion round input =
    record {
      start = in_style Style.AsWas input.whole;
      text = text_of_state input;
      size = λ state. weight state.tree;
      opening = squeezed_first input;
      round = λ verdict state. end_in state.style (round (trees_in input state.style) verdict state.tree);
      measure = λ state. weight state.tree;
      next_phase = λ state. None;
    }
