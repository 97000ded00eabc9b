-- The tokens of the trees that are tried are kept ones, and their texts are short.
use Rattle.std.proofs.Common.{◌≡◌, ℕ, ◌<◌, ◌≤◌, true, List, length, Option, Some, None, refl, sym, ap, ◌∙◌, subst, arith}
use Rattle.std.specs.Option.{option_map}
use Rattle.normal_form.specs.declared.normal.Sym.{Sym}
use Rattle.normal_form.specs.Form.{NormalForm}
use Rattle.syntax_tree.specs.Trees.{PlainTree, leaves}
use Rattle.syntax_tree.specs.Valid.{IsTreeFor}
use Rattle.syntax_tree.specs.Nodes.{SyntaxTree, whole}
use Rattle.syntax_tree.specs.Left.{IsRemainderOf}
use Rattle.syntax_tree.specs.LeftLaws.{LeftIsPart}
use Rattle.reduce_step.specs.Limits.{text_limit}
use Rattle.reduce_rounds.specs.Trials.{Trials, tried_state}
use Rattle.token_print.specs.declared.style.Style.{Style}
use Rattle.token_print.specs.Kept.{AreKept}
use Rattle.reduce_trees_mode.specs.Input.{IsInput, TreeInput}
use Rattle.reduce_trees_mode.specs.Laws.{IsStart, TextsAreNoLonger}
use Rattle.reduce_trees_mode.specs.Listed.{IsKept, MayKeepStyle, text_in}
use Rattle.reduce_trees_mode.specs.InStyles.{in_style}
use Rattle.reduce_trees_mode.proofs.Lent.{are_kept}
use Rattle.reduce_trees.specs.Fields.{IsTreeOf}

module _ (input : TreeInput) where
  -- the tokens of the whole tree
  pub whole_are_kept : IsInput input → LeftIsPart → IsStart input (in_style Style.AsWas input.whole) → (kept : List ℕ) → kept ≡ leaves input.whole
      → AreKept input.tokens kept
  whole_are_kept of part start kept same = subst (AreKept input.tokens) (sym same) (are_kept input of (in_style Style.AsWas input.whole) start.kept part)

  -- the squeezed text of the whole may be kept
  pub squeezed_short : (text kept : List ℕ) → kept ≡ leaves input.whole → text ≡ text_in input kept Style.Squeezed → input.squeezes ≡ true
      → length text < length input.start → MayKeepStyle input Style.Squeezed
  squeezed_short text kept same text_is asked short =
      (asked, subst (λ (t : List ℕ). length t < length input.start) (text_is ∙ ap (λ (k : List ℕ). text_in input k Style.Squeezed) same) short)

  -- a tree that a walk tries is kept
  kept_in : (style : Style) (tree_of_all : SyntaxTree) (tree : PlainTree) → IsTreeOf input tree_of_all → MayKeepStyle input style
      → IsTreeFor tree_of_all.form tree_of_all.start tree → IsRemainderOf (whole tree_of_all) tree → IsKept input (in_style style tree)
  kept_in style tree_of_all tree of may_keep fits left =
      record {
        fits = subst (λ (N : NormalForm). IsTreeFor N input.symbol tree) of.form (subst (λ (s : Sym). IsTreeFor tree_of_all.form s tree) of.symbol fits);
        left = subst (λ (w : PlainTree). IsRemainderOf w tree) of.whole_is left;
        may_keep = may_keep;
      }

tokens_of : (tried : Option PlainTree) (kept : List ℕ) → option_map leaves tried ≡ Some kept → (tree : PlainTree) × (tried ≡ Some tree) × (leaves tree ≡ kept)
tokens_of None kept e = absurd (cc e)
tokens_of (Some tree) kept e = (tree, refl, let same : leaves tree ≡ kept = cc e in same)

module _ (input : TreeInput) (of : IsInput input) (style : Style) (parsed : SyntaxTree) (rest : Trials PlainTree) (tree_of : IsTreeOf input parsed)
    (may_keep : MayKeepStyle input style)
    (fits : (tree : PlainTree) → tried_state rest ≡ Some tree → IsTreeFor parsed.form parsed.start tree)
    (left : (tree : PlainTree) → tried_state rest ≡ Some tree → IsRemainderOf (whole parsed) tree)
    (kept : List ℕ) (tokens : option_map leaves (tried_state rest) ≡ Some kept) where
  found : (tree : PlainTree) × (tried_state rest ≡ Some tree) × (leaves tree ≡ kept)
  found = tokens_of (tried_state rest) kept tokens

  state_kept : IsKept input (in_style style found.0)
  state_kept = kept_in input style parsed found.0 tree_of may_keep (fits found.0 found.1) (left found.0 found.1)

  pub tried_are_kept : LeftIsPart → AreKept input.tokens kept
  tried_are_kept part = subst (AreKept input.tokens) found.2 (are_kept input of (in_style style found.0) state_kept part)

  pub tried_short : TextsAreNoLonger → length input.start ≤ text_limit → length (text_in input kept style) ≤ text_limit
  tried_short longer limit =
      let less : length (text_in input (leaves found.0) style) ≤ length input.start = longer input (in_style style found.0) of state_kept in
      subst (λ (k : List ℕ). length (text_in input k style) ≤ text_limit) found.2 (omega (arith, less, limit))
