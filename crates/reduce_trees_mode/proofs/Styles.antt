-- Trials of states in one style.
use Rattle.std.proofs.Common.{◌≡◌, inl, inr, ℕ, Bool, true, false, cond, List, length, refl, ap}
use Rattle.std.specs.Prelude.{◌&&◌, nat_lt}
use Rattle.syntax_tree.specs.Trees.{PlainTree, leaves, weight}
use Rattle.syntax_tree.specs.Valid.{IsTreeFor}
use Rattle.syntax_tree.specs.Left.{IsRemainderOf}
use Rattle.reduce_rounds.specs.Reduction.{RoundEnd, after_question, after_yes, end_at, tested}
use Rattle.reduce_rounds.specs.ByTrials.{texts_of, trials_end}
use Rattle.reduce_rounds.specs.Trials.{Trials, Done, Try, AllTried, EachIsSmaller, IsTriedAtNo}
use Rattle.token_print.specs.declared.style.Style.{Style}
use Rattle.reduce_trees_mode.specs.Input.{TreeInput, TreeState}
use Rattle.reduce_trees_mode.specs.Listed.{IsKept, MayKeepStyle, is_listed, text_in, text_of_state}
use Rattle.reduce_trees_mode.specs.InStyles.{end_in, in_style, states_of, trees_in}
use Rattle.reduce_trees_mode.specs.TreeTrials.{tree_mode, trials_in}
use Rattle.reduce_trees_mode.specs.Laws.{OpeningIsOneTest, RoundsKeepStyle, StylesStay}

kept_in : (input : TreeInput) (style : Style) → MayKeepStyle input style → (trials : Trials PlainTree)
    → AllTried (λ tree. IsTreeFor input.form input.symbol tree × IsRemainderOf input.whole tree) trials → AllTried (IsKept input) (trials_in style trials)
kept_in input style may_keep Done all = tt
kept_in input style may_keep (Try tree at_yes at_no) all =
    (record { fits = all.0.0; left = all.0.1; may_keep = may_keep }, (kept_in input style may_keep at_yes all.1.0, kept_in input style may_keep at_no all.1.1))

smaller_in : (style : Style) (n : ℕ) (trials : Trials PlainTree) → EachIsSmaller weight n trials
    → EachIsSmaller (λ (other : TreeState). weight other.tree) n (trials_in style trials)
smaller_in style n Done each = tt
smaller_in style n (Try tree at_yes at_no) each = (each.0, (smaller_in style (weight tree) at_yes each.1.0, smaller_in style n at_no each.1.1))

tried_in : (style : Style) (trials : Trials PlainTree) (tree : PlainTree) → IsTriedAtNo trials tree → IsTriedAtNo (trials_in style trials) (in_style style tree)
tried_in style Done tree is = is
tried_in style (Try other at_yes at_no) tree (inl same) = inl (ap (in_style style) same)
tried_in style (Try other at_yes at_no) tree (inr later) = inr (tried_in style at_no tree later)

pub stay : StylesStay
stay input state trials =
    record {
      kept = λ is all. kept_in input state.style is.may_keep trials all;
      smaller = λ n each. smaller_in state.style n trials each;
      tried = λ tree is. tried_in state.style trials tree is;
    }

module _ (style : Style) where
  -- the same by cases: whether the tree is listed, and its answer
  end_first : (listed answer : Bool) (text : List ℕ) (tree_yes tree_no : RoundEnd PlainTree) (at_yes at_no : RoundEnd TreeState)
      → at_yes ≡ end_in style tree_yes → at_no ≡ end_in style tree_no
      → cond listed (after_question text (cond answer (after_yes at_yes) at_no)) at_no ≡ end_in style
      (cond listed (after_question text (cond answer (after_yes tree_yes) tree_no)) tree_no)
  end_first false answer text tree_yes tree_no at_yes at_no yes_is no_is = no_is
  end_first true true text tree_yes tree_no at_yes at_no yes_is no_is = ap (λ e. after_question text (after_yes e)) yes_is
  end_first true false text tree_yes tree_no at_yes at_no yes_is no_is = ap (after_question text) no_is

  module _ (input : TreeInput) (round : PlainTree → Trials PlainTree) (verdict : List ℕ → Bool) where
    ends_in : (tree : PlainTree) (trials : Trials PlainTree)
        → trials_end (texts_of (tree_mode round input)) verdict (in_style style tree) (trials_in style trials) ≡ end_in style
        (trials_end (trees_in input style) verdict tree trials)
    ends_in tree Done = refl
    ends_in tree (Try other at_yes at_no) =
        end_first (is_listed input (in_style style other)) (verdict (text_of_state input (in_style style other))) (text_of_state input (in_style style other))
        (trials_end (trees_in input style) verdict other at_yes) (trials_end (trees_in input style) verdict tree at_no)
        (trials_end (texts_of (tree_mode round input)) verdict (in_style style other) (trials_in style at_yes))
        (trials_end (texts_of (tree_mode round input)) verdict (in_style style tree) (trials_in style at_no))
        (ends_in other at_yes) (ends_in tree at_no)

pub rounds_keep : RoundsKeepStyle
rounds_keep input round verdict state = ends_in state.style input round verdict state.tree (round state.tree)

pub one_test : OpeningIsOneTest
one_test input round verdict = by_length (input.squeezes && nat_lt (length (text_in input (leaves input.whole) Style.Squeezed)) (length input.start))
  where
    by_length : (b : Bool) →
        trials_end (texts_of (tree_mode round input)) verdict (in_style Style.AsWas input.whole)
        (cond b (Try (in_style Style.Squeezed input.whole) Done Done) Done)
        ≡ cond b (tested (states_of input) verdict (in_style Style.Squeezed input.whole) (end_at (in_style Style.Squeezed input.whole))
        (end_at (in_style Style.AsWas input.whole))) (end_at (in_style Style.AsWas input.whole))
    by_length true = refl
    by_length false = refl
