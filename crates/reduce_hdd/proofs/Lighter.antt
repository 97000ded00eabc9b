-- Where fewer nodes of a level are kept, fewer leaves are left.
use Rattle.std.proofs.Common.{◌≡◌, ℕ, zero, suc, ◌+◌, ◌<◌, ◌≤◌, ◌++◌, Bool, true, false, List, [], ◌∷◌, length, refl, sym, ap, ◌∙◌, subst, arith, length-append}
use Rattle.std.specs.List.{Contains}
use Rattle.std.specs.Option.{option_map_or}
use Rattle.std.proofs.lemmas.Bool.{false≢true}
use Rattle.list_ddmin.specs.ListStep.{kept_count}
use Rattle.list_ddmin.specs.Asked.{KeepsOnlyOf}
use Rattle.syntax_tree.specs.Trees.{PlainTree, leaves, weight}
use Rattle.syntax_tree.specs.Numbered.{number_of, subtree}
use Rattle.syntax_tree.proofs.Lent.{within_from}
use Rattle.syntax_tree_cut.specs.WeightLaws.{WeightsCountLeaves}
use Rattle.syntax_tree_cut.specs.WithoutNodes.{AreApart, HasLeafBelow, dropped, without_nodes}
use Rattle.syntax_tree_cut.proofs.Lent.{Rises, LosesLeaves, later_stays, loses_leaves, nothing_out, number_without, without_both, without_rises}
use Rattle.hdd_levels.specs.Levels.{level}
use Rattle.hdd_levels.proofs.Lent.{dropped_apart, level_apart}
use Rattle.reduce_hdd.specs.Laws.{FewerNodesAreLighter}

-- how many leaves the node with this number has
abbrev weight_at : PlainTree → ℕ → ℕ
weight_at t q = option_map_or weight (subtree q t) 0

-- how many these nodes have together
abbrev weights_at : PlainTree → List ℕ → ℕ
weights_at t [] = 0
weights_at t (q ∷ qs) = weight_at t q + weights_at t qs

in_front : {X : Type 0} (x : X) (xs : List X) → Contains (x ∷ xs) x
in_front x xs = (zero, omega arith, refl)

in_back : {X : Type 0} (x y : X) (xs : List X) → Contains xs y → Contains (x ∷ xs) y
in_back x y xs (k, lt, e) = (suc k, omega (arith, lt), e)

-- nodes that are the same in another tree
abbrev AreSameIn : PlainTree → PlainTree → List ℕ → Type 0
AreSameIn t u qs = (q : ℕ) → Contains qs q → subtree q u ≡ subtree q t

apart_same : (t u : PlainTree) (qs : List ℕ) → number_of u ≡ number_of t → AreSameIn t u qs → AreApart t qs → AreApart u qs
apart_same t u [] root same apart = apart
apart_same t u (p ∷ qs) root same apart =
    let own : HasLeafBelow t p = apart.0 in
    let here : subtree p u ≡ subtree p t = same p (in_front p qs) in (
      record { node = own.node; node_is = here ∙ own.node_is; below = λ e. own.below (sym root ∙ e); leaf = own.leaf },
      λ q has. ((apart.1 q has).0, λ v e. (apart.1 q has).1 v (sym here ∙ e)),
      apart_same t u qs root (λ q has. same q (in_back p q qs has)) apart.2,
    )

weights_same : (t u : PlainTree) (qs : List ℕ) → AreSameIn t u qs → weights_at u qs ≡ weights_at t qs
weights_same t u [] same = refl
weights_same t u (p ∷ qs) same =
    let one : weight_at u p ≡ weight_at t p = ap (λ o. option_map_or weight o 0) (same p (in_front p qs)) in
    let rest = weights_same t u qs (λ q has. same q (in_back p q qs has)) in
    omega (arith, one, rest)

-- each of the nodes is found
leaf_in : (t : PlainTree) (qs : List ℕ) (q : ℕ) → AreApart t qs → Contains qs q → HasLeafBelow t q
leaf_in t [] q apart (k, lt, e) = absurd (let no : k < 0 = lt in omega (arith, no))
leaf_in t (p ∷ qs) q apart (zero, lt, e) = subst (HasLeafBelow t) e apart.0
leaf_in t (p ∷ qs) q apart (suc k, lt, e) = leaf_in t qs q apart.2 (k, omega (arith, lt), e)

module _ (counts : WeightsCountLeaves) where
  loses_weight : (t v u : PlainTree) → LosesLeaves (leaves t) (leaves v) (leaves u) → weight u + weight v ≡ weight t
  loses_weight t v u loses =
      let before : length (leaves t) ≡ length loses.front + (length (leaves v) + length loses.back) =
      ap length loses.before ∙ length-append loses.front (leaves v ++ loses.back) ∙ ap (λ n. length loses.front + n) (length-append (leaves v) loses.back) in
      let after : length (leaves u) ≡ length loses.front + length loses.back = ap length loses.after ∙ length-append loses.front loses.back in
      let tw = counts t in
      let vw = counts v in
      let uw = counts u in
      omega (arith, before, after, tw, vw, uw)

  -- without nodes that are apart a tree has so many leaves fewer
  weighs : (high : ℕ) (t : PlainTree) (qs : List ℕ) → Rises 0 high t → AreApart t qs → weight (without_nodes qs t) + weights_at t qs ≡ weight t
  weighs high t [] rises apart = let same = ap weight (nothing_out t) in omega (arith, same)
  weighs high t (p ∷ qs) rises apart =
      let own : HasLeafBelow t p = apart.0 in
      let u : PlainTree = without_nodes (p ∷ []) t in
      let same : AreSameIn t u qs = λ q has.
      let it : HasLeafBelow t q = leaf_in t qs q apart.2 has in
      later_stays p q own.node it.node (apart.1 q has).0 ((apart.1 q has).1 own.node own.node_is) 0 high t rises own.below own.node_is it.node_is
      ∙ sym it.node_is in
      let later = weighs high u qs (without_rises (p ∷ []) 0 high t rises) (apart_same t u qs (number_without (p ∷ []) t) same apart.2) in
      let rest = weights_same t u qs same in
      let both = ap weight (without_both (p ∷ []) qs t) in
      let one : weight_at t p ≡ weight own.node = ap (λ o. option_map_or weight o 0) own.node_is in
      let less = loses_weight t own.node u (loses_leaves p 0 high t own.node rises own.below own.node_is) in
      omega (arith, later, rest, both, one, less)

same_rest : (keep : List Bool) (qs : List ℕ) → suc (length keep) ≡ suc (length qs) → length keep ≡ length qs
same_rest keep qs long = omega (arith, long)

-- of nodes that have leaves, more have more
module _ (t : PlainTree) where
  more_weigh : (qs : List ℕ) (fewer keep : List Bool) → AreApart t qs → length keep ≡ length qs → KeepsOnlyOf fewer keep
      → weights_at t (dropped qs keep) + kept_count keep ≤ weights_at t (dropped qs fewer) + kept_count fewer
  more_weigh qs [] [] apart long only = omega arith
  more_weigh qs [] (b ∷ keep) apart long only = absurd only
  more_weigh qs (f ∷ fewer) [] apart long only = absurd only
  more_weigh [] (f ∷ fewer) (b ∷ keep) apart long only = absurd (let no : suc (length keep) ≡ 0 = long in omega (arith, no))
  more_weigh (q ∷ qs) (true ∷ fewer) (false ∷ keep) apart long only = absurd (false≢true (only.0 refl))
  more_weigh (q ∷ qs) (true ∷ fewer) (true ∷ keep) apart long only =
      let it = more_weigh qs fewer keep apart.2 (same_rest keep qs long) only.1 in omega (arith, it)
  more_weigh (q ∷ qs) (false ∷ fewer) (false ∷ keep) apart long only =
      let it = more_weigh qs fewer keep apart.2 (same_rest keep qs long) only.1 in omega (arith, it)
  more_weigh (q ∷ qs) (false ∷ fewer) (true ∷ keep) apart long only =
      let it = more_weigh qs fewer keep apart.2 (same_rest keep qs long) only.1 in
      let own : HasLeafBelow t q = apart.0 in
      let leaf = own.leaf in
      let one : weight_at t q ≡ weight own.node = ap (λ o. option_map_or weight o 0) own.node_is in
      omega (arith, it, leaf, one)

pub fewer_lighter : WeightsCountLeaves → FewerNodesAreLighter
fewer_lighter counts N d t fewer keep rise long less =
    let qs : List ℕ = level N d t in
    let within = within_from t rise in
    let apart : AreApart t qs = level_apart N d 0 within.0 t within.1 in
    let one = weighs counts within.0 t (dropped qs fewer) within.1 (dropped_apart t qs fewer apart) in
    let other = weighs counts within.0 t (dropped qs keep) within.1 (dropped_apart t qs keep apart) in
    let more = more_weigh t qs fewer keep apart long less.only in
    let count = less.fewer in
    omega (arith, one, other, more, count)
