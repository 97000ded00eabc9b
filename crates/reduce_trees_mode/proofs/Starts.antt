-- The first state, and how long texts are.
use Rattle.std.proofs.Common.{◌≡◌, ℕ, ◌<◌, ◌≤◌, Bool, true, false, cond, List, length, refl, sym, ap, ◌∙◌, subst, arith}
use Rattle.std.specs.Prelude.{◌&&◌, nat_lt, IsTrue}
use Rattle.std.specs.List.Sorted.{IsStrictlyIncreasing}
use Rattle.std.proofs.lemmas.Bool.{ltb-true}
use Rattle.syntax_tree.specs.Trees.{PlainTree, leaves}
use Rattle.syntax_tree.specs.Valid.{IsTreeFor}
use Rattle.syntax_tree.specs.LeftLaws.{LeftIsPart, LeftIsReflexive}
use Rattle.reduce_rounds.specs.Trials.{Done, Try, AllTried}
use Rattle.token_print.specs.declared.style.Style.{Style}
use Rattle.token_print.specs.Kept.{KeepsTokens}
use Rattle.token_print.specs.Laws.{AllKeptIsStart, NoLongerThanAll, NoLongerThanStart, StartKeepsTokens}
use Rattle.reduce_trees_mode.specs.Input.{IsInput, TreeInput}
use Rattle.reduce_trees_mode.specs.Listed.{IsKept, IsListed, MayKeepStyle, skips_of, text_in, text_of_state}
use Rattle.reduce_trees_mode.specs.InStyles.{in_style}
use Rattle.reduce_trees_mode.specs.Laws.{OpeningIsKept, TextsAreNoLonger, WholeIsStart}
use Rattle.reduce_trees_mode.proofs.Leaves.{range_rises}
use Rattle.reduce_trees_mode.proofs.Listing.{and_true, are_kept, leaves_whole}

module _ (input : TreeInput) (of : IsInput input) where
  whole_for : IsTreeFor input.form input.symbol input.whole
  whole_for =
      record {
        valid = of.is_whole.valid;
        rising = subst (λ (l : List ℕ). IsStrictlyIncreasing l) (sym (leaves_whole input of)) (range_rises 0 (length input.tokens));
      }

  whole_kept : LeftIsReflexive → (style : Style) → MayKeepStyle input style → IsKept input (in_style style input.whole)
  whole_kept same style may_keep = record { fits = whole_for; left = same input.whole; may_keep = may_keep }

  whole_text : AllKeptIsStart → text_of_state input (in_style Style.AsWas input.whole) ≡ input.start
  whole_text is_start =
      ap (λ (l : List ℕ). text_in input l Style.AsWas) (leaves_whole input of)
      ∙ is_start input.grammar.grammar (skips_of input) input.start input.tokens of.has_tokens

  whole_listed : AllKeptIsStart → StartKeepsTokens → IsTrue (input.admits (leaves input.whole) input.start) → IsListed input (in_style Style.AsWas input.whole)
  whole_listed is_start keeps admitted =
      let text = sym (whole_text is_start) in
      record {
        keeps = subst (λ (l : List ℕ). KeepsTokens input.grammar.grammar input.start input.tokens (leaves input.whole) l) text
            (subst (λ (l : List ℕ). KeepsTokens input.grammar.grammar input.start input.tokens l input.start) (sym (leaves_whole input of))
            (keeps input.grammar.grammar input.start input.tokens of.utf8 of.has_tokens));
        admitted = subst (λ (l : List ℕ). IsTrue (input.admits (leaves input.whole) l)) text admitted;
      }

pub whole_is_start : LeftIsReflexive → AllKeptIsStart → StartKeepsTokens → WholeIsStart
whole_is_start same is_start keeps input of =
    record {
      text = whole_text input of is_start;
      kept = whole_kept input of same Style.AsWas tt;
      tokens = leaves_whole input of;
      listed = λ admitted. whole_listed input of is_start keeps admitted;
    }

-- by the style
by_style : NoLongerThanStart → NoLongerThanAll → LeftIsPart → (input : TreeInput) (of : IsInput input) (tree : PlainTree) (style : Style)
    → IsKept input (in_style style tree) → length (text_in input (leaves tree) style) ≤ length input.start
by_style than_start than_all part input of tree Style.AsWas kept =
    than_start input.grammar.grammar (skips_of input) input.start input.tokens (leaves tree) of.utf8 of.has_tokens
    (are_kept input of (in_style Style.AsWas tree) kept part)
by_style than_start than_all part input of tree Style.Squeezed kept =
    let all = than_all (skips_of input) input.start input.tokens (leaves tree) (are_kept input of (in_style Style.Squeezed tree) kept part) in
    let same = ap (λ (l : List ℕ). length (text_in input l Style.Squeezed)) (leaves_whole input of) in
    let short : length (text_in input (leaves input.whole) Style.Squeezed) < length input.start = kept.may_keep.1 in
    omega (arith, all, same, short)

pub texts_are_no_longer : NoLongerThanStart → NoLongerThanAll → LeftIsPart → TextsAreNoLonger
texts_are_no_longer than_start than_all part input state of kept = by_style than_start than_all part input of state.tree state.style kept

pub opening_is_kept : LeftIsReflexive → OpeningIsKept
opening_is_kept same input of = by_test (input.squeezes && nat_lt (length (text_in input (leaves input.whole) Style.Squeezed)) (length input.start)) refl
  where
    by_test : (b : Bool) → (input.squeezes && nat_lt (length (text_in input (leaves input.whole) Style.Squeezed)) (length input.start)) ≡ b →
        AllTried (IsKept input) (cond b (Try (in_style Style.Squeezed input.whole) Done Done) Done)
    by_test true e =
        let short = and_true input.squeezes (nat_lt (length (text_in input (leaves input.whole) Style.Squeezed)) (length input.start)) e in (
          whole_kept input of same Style.Squeezed (short.0, ltb-true (length (text_in input (leaves input.whole) Style.Squeezed)) (length input.start) short.1),
          (tt, tt),
        )
    by_test false e = tt
