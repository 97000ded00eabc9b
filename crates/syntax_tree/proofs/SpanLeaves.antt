-- The leaves in the span of a node.
use Rattle.std.proofs.Common.{◌≡◌, inl, inr, ℕ, ◌+◌, ◌<◌, ◌≤◌, Bool, true, false, List, [], ◌∷◌, ◌++◌, nat_lt, nat_le}
use Rattle.std.proofs.Common.{filter, refl, sym, ap, ◌∙◌, subst, arith, append_assoc, append-nil}
use Rattle.std.proofs.lemmas.Bool.{and_from, and_left, and_right, cases_lt, cond-false, cond-true, le-leb, le-ltb, lt-leb, lt-ltb}
use Rattle.std.proofs.lemmas.List.Elements.{filter-append}
use Rattle.std.proofs.lemmas.Option.{same_Some}
use Rattle.syntax_tree.specs.Trees.{PlainTree, PlainTrees, HasTokensFrom, HaveTokensFrom, leaves, of_leaves_all, size, weight, weight_all}
use Rattle.syntax_tree.specs.Numbered.{with_subtree}
use Rattle.syntax_tree.specs.Nodes.{whole}
use Rattle.syntax_tree.specs.Left.{IsRemainderOf}
use Rattle.syntax_tree.specs.LeftLaws.{LeavesInSpan, is_within}
use Rattle.syntax_tree.proofs.Within.{RisesFrom, numbered_within, rises_weaker}
use Rattle.syntax_tree.proofs.LeftTrees.{leaves_part, lighter, no_leaves, sublist_rises}
use Rattle.syntax_tree.proofs.KeptLeaves.{IsBounded, IsSplit, keeps, left_bounded}
use Rattle.syntax_tree.proofs.NodeLists.{subtrees}

-- what a test keeps of bounded numbers, where it says the same of all of them
filter_all : (p : ℕ → Bool) (low high : ℕ) (xs : List ℕ) → IsBounded low high xs → ((x : ℕ) → low ≤ x → x < high → p x ≡ true) → filter p xs ≡ xs
filter_all p low high [] b says = refl
filter_all p low high (x ∷ xs) b says = cond-true (p x) (x ∷ filter p xs) (filter p xs) (says x b.0 b.1) ∙ ap (λ l. x ∷ l) (filter_all p low high xs b.2 says)

filter_none : (p : ℕ → Bool) (low high : ℕ) (xs : List ℕ) → IsBounded low high xs → ((x : ℕ) → low ≤ x → x < high → p x ≡ false) → filter p xs ≡ []
filter_none p low high [] b says = refl
filter_none p low high (x ∷ xs) b says = cond-false (p x) (x ∷ filter p xs) (filter p xs) (says x b.0 b.1) ∙ filter_none p low high xs b.2 says

filter_never : (p : ℕ → Bool) (xs : List ℕ) → ((x : ℕ) → p x ≡ false) → filter p xs ≡ []
filter_never p [] says = refl
filter_never p (x ∷ xs) says = cond-false (p x) (x ∷ filter p xs) (filter p xs) (says x) ∙ filter_never p xs says

filter_parts : (p : ℕ → Bool) (ls xs ys zs us vs ws : List ℕ) → ls ≡ xs ++ (ys ++ zs) → filter p xs ≡ us → filter p ys ≡ vs → filter p zs ≡ ws
    → filter p ls ≡ us ++ (vs ++ ws)
filter_parts p ls xs ys zs us vs ws e f g h =
    ap (filter p) e ∙ filter-append p xs (ys ++ zs) ∙ ap (λ l. l ++ filter p (ys ++ zs)) f
    ∙ ap (λ l. us ++ l) (filter-append p ys zs ∙ ap (λ l. l ++ filter p zs) g ∙ ap (λ l. vs ++ l) h)

-- rising numbers are those below a number, and then the others
rise_from_bound : (low c : ℕ) (xs : List ℕ) → c ≤ low → RisesFrom low xs → (filter (λ i. nat_lt i c) xs ≡ []) × (filter (λ i. nat_le c i) xs ≡ xs)
rise_from_bound low c [] h r = (refl, refl)
rise_from_bound low c (x ∷ xs) h r =
    let more = rise_from_bound (x + 1) c xs (omega (arith, h, r.0)) r.1 in (
      cond-false (nat_lt x c) (x ∷ filter (λ i. nat_lt i c) xs) (filter (λ i. nat_lt i c) xs) (le-ltb x c (omega (arith, h, r.0))) ∙ more.0,
      cond-true (nat_le c x) (x ∷ filter (λ i. nat_le c i) xs) (filter (λ i. nat_le c i) xs) (le-leb c x (omega (arith, h, r.0))) ∙ ap (λ l. x ∷ l) more.1,
    )

halves : (low c : ℕ) (xs : List ℕ) → RisesFrom low xs → xs ≡ filter (λ i. nat_lt i c) xs ++ filter (λ i. nat_le c i) xs
halves low c [] r = refl
halves low c (x ∷ xs) r = elim (cases_lt x c) [
  | inl before ↦
      ap (λ l. x ∷ l) (halves (x + 1) c xs r.1)
      ∙ ap (λ l. l ++ filter (λ i. nat_le c i) xs)
      (sym (cond-true (nat_lt x c) (x ∷ filter (λ i. nat_lt i c) xs) (filter (λ i. nat_lt i c) xs) (lt-ltb x c before)))
      ∙ ap (λ l. filter (λ i. nat_lt i c) (x ∷ xs) ++ l)
      (sym (cond-false (nat_le c x) (x ∷ filter (λ i. nat_le c i) xs) (filter (λ i. nat_le c i) xs) (lt-leb c x before)))
  | inr after ↦
      let all = rise_from_bound x c (x ∷ xs) after (omega arith, r.1) in
      sym all.1 ∙ ap (λ l. l ++ filter (λ i. nat_le c i) (x ∷ xs)) (sym all.0)
]

mutual
  tokens_rise : (f : ℕ) (t : PlainTree) (rest : List ℕ) → HasTokensFrom f t → RisesFrom (f + weight t) rest → RisesFrom f (leaves t ++ rest)
  tokens_rise f (PlainTree.leaf n k i) rest e r = (omega (arith, e), rises_weaker (f + 1) (i + 1) rest (omega (arith, e)) r)
  tokens_rise f (PlainTree.node n r' a ts) rest e r = all_tokens_rise f ts rest e r

  all_tokens_rise : (f : ℕ) (ts : PlainTrees) (rest : List ℕ) → HaveTokensFrom f ts → RisesFrom (f + weight_all ts) rest
      → RisesFrom f (of_leaves_all (λ k i. i) ts ++ rest)
  all_tokens_rise f PlainTrees.none rest e r = rises_weaker (f + 0) f rest (omega arith) r
  all_tokens_rise f (PlainTrees.next t ts) rest e r =
      let P : List ℕ → Type 0 = λ l. RisesFrom f l in
      subst P (sym (append_assoc (leaves t) (of_leaves_all (λ k i. i) ts) rest))
      (tokens_rise f t (of_leaves_all (λ k i. i) ts ++ rest) e.0
      (all_tokens_rise (f + weight t) ts rest e.1 (rises_weaker (f + (weight t + weight_all ts)) (f + weight t + weight_all ts) rest (omega arith) r)))

pub leaves_rise : (f : ℕ) (t u : PlainTree) → HasTokensFrom f t → IsRemainderOf t u → RisesFrom f (leaves u)
leaves_rise f t u e d =
    let P : List ℕ → Type 0 = λ l. RisesFrom f l in
    sublist_rises f (leaves u) (leaves t) (leaves_part (λ k i. i) t u d) (subst P (append-nil (leaves t)) (tokens_rise f t [] e tt))

mutual
  -- a tree that weighs something has its tokens from one number on alone
  same_first : (a b : ℕ) (t : PlainTree) → HasTokensFrom a t → HasTokensFrom b t → 0 < weight t → a ≡ b
  same_first a b (PlainTree.leaf n k i) e f w = omega (arith, e, f)
  same_first a b (PlainTree.node n r a' ts) e f w = same_first_all a b ts e f w

  same_first_all : (a b : ℕ) (ts : PlainTrees) → HaveTokensFrom a ts → HaveTokensFrom b ts → 0 < weight_all ts → a ≡ b
  same_first_all a b PlainTrees.none e f w = absurd (omega (arith, w))
  same_first_all a b (PlainTrees.next t ts) e f w = elim (cases_lt 0 (weight t)) [
    | inl has ↦ same_first a b t e.0 f.0 has
    | inr none ↦ omega (arith, same_first_all (a + weight t) (b + weight t) ts e.1 f.1 (omega (arith, w, none)))
  ]

module _ (q c e f end : ℕ) (t u v : PlainTree) (s : IsSplit f end (leaves t) (λ w. leaves (with_subtree q w t)) v u) (left : IsRemainderOf v u) where
  -- where the span has tokens
  module _ (starts : c ≡ s.first) (ends : e ≡ s.first + weight v) where
    is_bounded : IsBounded s.first (s.first + weight v) (leaves u)
    is_bounded = left_bounded s.first v u s.tokens left

    inside : leaves u ≡ filter (is_within c e) (leaves t)
    inside =
        sym (filter_parts (is_within c e) (leaves t) s.before (leaves u) s.after [] (leaves u) [] s.are
        (filter_none (is_within c e) f s.first s.before s.is_before (λ x l h. and_left (nat_le c x) (nat_lt x e) (lt-leb c x (omega (arith, h, starts)))))
        (filter_all (is_within c e) s.first (s.first + weight v) (leaves u) is_bounded
        (λ x l h. and_from (nat_le c x) (nat_lt x e) (le-leb c x (omega (arith, l, starts))) (lt-ltb x e (omega (arith, h, ends)))))
        (filter_none (is_within c e) (s.first + weight v) end s.after s.is_after
        (λ x l h. and_right (nat_le c x) (nat_lt x e) (le-ltb x e (omega (arith, l, ends))))) ∙ append-nil (leaves u))

    before_is : filter (λ i. nat_lt i c) (leaves t) ≡ s.before
    before_is =
        filter_parts (λ i. nat_lt i c) (leaves t) s.before (leaves u) s.after s.before [] [] s.are
        (filter_all (λ i. nat_lt i c) f s.first s.before s.is_before (λ x l h. lt-ltb x c (omega (arith, h, starts))))
        (filter_none (λ i. nat_lt i c) s.first (s.first + weight v) (leaves u) is_bounded (λ x l h. le-ltb x c (omega (arith, l, starts))))
        (filter_none (λ i. nat_lt i c) (s.first + weight v) end s.after s.is_after (λ x l h. le-ltb x c (omega (arith, l, starts)))) ∙ append-nil s.before

    after_is : filter (λ i. nat_le e i) (leaves t) ≡ s.after
    after_is =
        filter_parts (λ i. nat_le e i) (leaves t) s.before (leaves u) s.after [] [] s.after s.are
        (filter_none (λ i. nat_le e i) f s.first s.before s.is_before (λ x l h. lt-leb e x (omega (arith, h, ends))))
        (filter_none (λ i. nat_le e i) s.first (s.first + weight v) (leaves u) is_bounded (λ x l h. lt-leb e x (omega (arith, h, ends))))
        (filter_all (λ i. nat_le e i) (s.first + weight v) end s.after s.is_after (λ x l h. le-leb e x (omega (arith, l, ends))))

    parts_are : (ls ys : List ℕ) → ls ≡ s.before ++ (ys ++ s.after) → ls ≡ filter (λ i. nat_lt i c) (leaves t) ++ ys ++ filter (λ i. nat_le e i) (leaves t)
    parts_are ls ys is =
        is ∙ sym (append_assoc s.before ys s.after) ∙ ap (λ l. l ++ ys ++ s.after) (sym before_is)
        ∙ ap (λ l. filter (λ i. nat_lt i c) (leaves t) ++ ys ++ l) (sym after_is)

  -- where it has none
  module _ (same : e ≡ c) (empty : weight v ≡ 0) (rises : RisesFrom f (leaves t)) where
    no_inside : leaves u ≡ filter (is_within c e) (leaves t)
    no_inside =
        no_leaves (λ k i. i) u (omega (arith, lighter v u left, empty))
        ∙ sym (filter_never (is_within c e) (leaves t)
        (λ x. elim (cases_lt x c) [
          | inl before ↦ and_left (nat_le c x) (nat_lt x e) (lt-leb c x before)
          | inr after ↦ and_right (nat_le c x) (nat_lt x e)
              (le-ltb x e (omega (arith, after, same)))
        ]))

    no_parts : (ys : List ℕ) → ys ≡ [] → leaves t ≡ filter (λ i. nat_lt i c) (leaves t) ++ ys ++ filter (λ i. nat_le e i) (leaves t)
    no_parts ys none =
        halves f c (leaves t) rises
        ∙ ap (λ l. l ++ filter (λ i. nat_le c i) (leaves t))
        (sym (append-nil (filter (λ i. nat_lt i c) (leaves t))) ∙ ap (λ l. filter (λ i. nat_lt i c) (leaves t) ++ l) (sym none))
        ∙ ap (λ (n : ℕ). filter (λ i. nat_lt i c) (leaves t) ++ ys ++ filter (λ i. nat_le n i) (leaves t)) (sym same)

    no_change : (w : PlainTree) → IsRemainderOf u w → leaves (with_subtree q w t) ≡ leaves t
    no_change w d =
        let none : leaves u ≡ [] = no_leaves (λ k i. i) u (omega (arith, lighter v u left, empty)) in
        let none_of : leaves w ≡ [] = no_leaves (λ k i. i) w (omega (arith, lighter v u left, lighter u w d, empty)) in
        s.changed w ∙ ap (λ l. s.before ++ (l ++ s.after)) (none_of ∙ sym none) ∙ sym s.are

pub in_span : LeavesInSpan
in_span tree is t u q x left e at =
    let within = numbered_within 0 (whole tree) is.whole.numbered in
    let it = keeps 0 (0 + size (whole tree)) q (whole tree) t u within left e in
    let node = subtrees tree is q x at in
    let same : node.0 ≡ it.node = same_Some node.0 it.node (sym node.1.subtree_is ∙ it.node_is) in
    let weights : weight node.0 ≡ weight it.node = ap weight same in
    let P : PlainTree → Type 0 = λ y. HasTokensFrom x.first y in
    let tokens = subst P same node.1.tokens in
    let s = it.split 0 is.whole.tokens in
    let rises = leaves_rise 0 (whole tree) t is.whole.tokens left in
    elim (cases_lt 0 (weight it.node)) [
      | inl has ↦
          let starts : x.first ≡ s.first = same_first x.first s.first it.node tokens s.tokens has in
          let ends : x.end ≡ s.first + weight it.node = omega (arith, node.1.end, starts, weights) in
          record {
            inside = inside q x.first x.end 0 (0 + weight (whole tree)) t u it.node s it.is_left starts ends;
            all = parts_are q x.first x.end 0 (0 + weight (whole tree)) t u it.node s it.is_left starts ends (leaves t) (leaves u) s.are;
            changed =
                λ w d. parts_are q x.first x.end 0 (0 + weight (whole tree)) t u it.node s it.is_left starts ends (leaves (with_subtree q w t)) (leaves w)
                (s.changed w);
          }
      | inr none ↦
          let empty : weight it.node ≡ 0 = omega (arith, none) in
          let ends : x.end ≡ x.first = omega (arith, node.1.end, weights, none) in
          record {
            inside = no_inside q x.first x.end 0 (0 + weight (whole tree)) t u it.node s it.is_left ends empty rises;
            all =
                no_parts q x.first x.end 0 (0 + weight (whole tree)) t u it.node s it.is_left ends empty rises (leaves u)
                (no_leaves (λ k i. i) u (omega (arith, lighter it.node u it.is_left, empty)));
            changed = λ w d.
                no_change q x.first x.end 0 (0 + weight (whole tree)) t u it.node s it.is_left ends empty rises w d
                ∙ no_parts q x.first x.end 0 (0 + weight (whole tree)) t u it.node s it.is_left ends empty rises (leaves w)
                (no_leaves (λ k i. i) w (omega (arith, lighter it.node u it.is_left, lighter u w d, empty)));
          }
    ]
