-- Steps on the way down to a node that is left.
use Rattle.std.proofs.Common.{◌≡◌, ◌⊎◌, inl, inr, ℕ, ◌+◌, ◌<◌, ◌≤◌, List, Option, Some, None, length, refl, sym, ap, ◌∙◌, subst, arith}
use Rattle.std.specs.Prelude.{◌↔◌, Bool, false, slice_index_or, IsSome, IsTrue}
use Rattle.std.specs.Option.{option_and_then, option_map, option_or}
use Rattle.std.proofs.lemmas.Bool.{both_ways, cases_lt, false≢true}
use Rattle.std.proofs.lemmas.Option.{get_or_from_slice_get, none-some, same_Some, slice_get-get_or}
use Rattle.syntax_tree.specs.Trees.{PlainTree, PlainTrees, children_of, renumbered, renumbered_all, size, size_all}
use Rattle.syntax_tree.specs.Numbered.{number_of, subtree, subtree_among}
use Rattle.syntax_tree.specs.Nodes.{AreNodesOf, SyntaxTree, whole}
use Rattle.syntax_tree_cut.specs.declared.mark.Mark.{Mark}
use Rattle.syntax_tree_cut.specs.declared.mark.Mark.TheVariants.{Kept, Deleted, Replaced}
use Rattle.syntax_tree_cut.specs.Cuts.{ReplacementsGoDown, by_mark, left_among, left_at, left_of_each, mark_at, or_next}
use Rattle.syntax_tree_cut.specs.inner.TreeLaws.{TreeLaws}
use Rattle.syntax_tree_cut.specs.inner.Ways.{IsAhead}
use Rattle.syntax_tree_cut.proofs.Rising.{Rises, RiseAll, cases_option, found_among_within, found_within, not_found, not_found_among, or_first, or_none}
use Rattle.syntax_tree_cut.proofs.Rising.{or_second, rise_from, rises_from, subtree_below, subtree_own, subtree_within, when_not}
use Rattle.syntax_tree_cut.proofs.LeftTrees.{each_rises, left_below, left_rises, node_own}
use Rattle.syntax_tree_cut.proofs.CutEdits.{deeper_found, none_there, some_is, whole_rises}
use Rattle.syntax_tree_cut.proofs.CutFacts.{nodes_count, root_number, subtree_there}
use Rattle.syntax_tree_cut.proofs.Positions.{own_number, replaced_leaves, subtree_numbered}

-- the mark at an index
pub mark_known : (marks : List Mark) (q : ℕ) (d m : Mark) → slice_index_or marks q d ≡ m → q < length marks → mark_at marks q ≡ m
mark_known marks q d m e lt = get_or_from_slice_get marks q m Kept (slice_get-get_or marks q d lt ∙ ap Some e)

-- outside a range
pub outside_of : (r : Bool) (q low high : ℕ) → IsTrue r ↔ ((low ≤ q) × (q < high)) → r ≡ false → (q < low) ⊎ (high ≤ q)
outside_of r q low high is other =
    elim (cases_lt q low) [
      | inl before ↦ inl before
      | inr from ↦ elim (cases_lt q high) [
        | inl within ↦ absurd (both_ways r other (is.1 (from, within)))
        | inr after ↦ inr after
      ]
    ]

pub none_sought : (o : Option PlainTree) → o ≡ None → IsTrue false ↔ IsSome o
none_sought o e = (λ t. absurd (false≢true t), λ is. absurd (false≢true (subst (λ (x : Option PlainTree). IsSome x) e is)))

-- a node among what may be one more tree
sought_among : (q : ℕ) (o : Option PlainTree) (us : PlainTrees)
    → subtree_among q (or_next o us) ≡ option_or (option_and_then (subtree q) o) (subtree_among q us)
sought_among q None us = refl
sought_among q (Some t) us = refl

-- what is left of a tree has none of the numbers that the tree doesn't have
nothing_left : (marks : List Mark) (low high : ℕ) (t : PlainTree) → Rises low high t → (b q : ℕ) → (q < low) ⊎ (high ≤ q)
    → option_and_then (subtree q) (left_at marks b t) ≡ None
nothing_left marks low high t h b q out =
    elim (cases_option (left_at marks b t)) [
      | inl some ↦ ap (option_and_then (subtree q)) some.1 ∙ not_found low high some.0 (left_rises marks low high t h b some.0 some.1) q out
      | inr none ↦ ap (option_and_then (subtree q)) none
    ]

numbered_by : (q : ℕ) (o : Option PlainTree) → option_map number_of o ≡ Some q → IsSome (option_and_then (subtree q) o)
numbered_by q None e = absurd (none-some q e)
numbered_by q (Some v) e = some_is (subtree q v) v (subtree_own q v (same_Some (number_of v) q e))

some_subst : (a b : Option PlainTree) → a ≡ b → IsSome a → IsSome b
some_subst a b e is = subst (λ (o : Option PlainTree). IsSome o) e is

module _ (tree : SyntaxTree) (laws : TreeLaws) (are : AreNodesOf tree.form tree.start tree.nodes (whole tree)) (marks : List Mark) where
  -- the first of the trees that are ahead
  record FirstAhead (position : ℕ) (first : PlainTree) (others : PlainTrees) : Type 0 where
    number : number_of first ≡ position
    rises : Rises position (position + size first) first
    numbered : renumbered_all (position + size first) others ≡ others
    others_rise : RiseAll (position + size first) (position + size first + size_all others) others

  first_ahead : (position : ℕ) (first : PlainTree) (others : PlainTrees) → renumbered_all position (PlainTrees.next first others) ≡ PlainTrees.next first others
      → FirstAhead position first others
  first_ahead position first others e =
      let own : renumbered position first ≡ first = cc in
      let later : renumbered_all (position + size first) others ≡ others = cc in
      record {
        number = root_number position first own;
        rises = rises_from position (position + size first) first own refl;
        numbered = later;
        others_rise = rise_from (position + size first) (position + size first + size_all others) others later refl;
      }

  pub first_found : (q : ℕ) (sought : Option PlainTree) (position : ℕ) → (ahead : IsAhead tree marks q sought position)
      → subtree position (whole tree) ≡ Some ahead.first
  first_found q sought position ahead =
      let is = first_ahead position ahead.first ahead.others ahead.numbered in
      ahead.in_tree position ahead.first (or_first (subtree position ahead.first) (subtree_among position ahead.others) ahead.first
      (subtree_own position ahead.first is.number))

  pub ahead_within : (q : ℕ) (sought : Option PlainTree) (position : ℕ) → IsAhead tree marks q sought position → position < length tree.nodes
  ahead_within q sought position ahead =
      let within = found_within 0 (size (whole tree)) (whole tree) (whole_rises tree laws are) position ahead.first (first_found q sought position ahead) in
      let count = nodes_count tree laws are in
      omega (arith, within, count)

  later_ahead : (q : ℕ) (sought : Option PlainTree) (position : ℕ) (others : PlainTrees) → renumbered_all position others ≡ others
      → ((p : ℕ) (u : PlainTree) → subtree_among p others ≡ Some u → subtree p (whole tree) ≡ Some u) →
      IsSome (subtree_among q others) → sought ≡ subtree_among q (left_of_each marks others) → IsAhead tree marks q sought position
  later_ahead q sought position PlainTrees.none numbered in_tree has is = absurd (false≢true has)
  later_ahead q sought position (PlainTrees.next t ts) numbered in_tree has is =
      record { first = t; others = ts; numbered = numbered; in_tree = in_tree; has = has; is_sought = is }

  -- The node isn't in the first tree: it is in the others.
  pub ahead_past : (q : ℕ) (sought : Option PlainTree) (position : ℕ) (x : PlainTree) → subtree position (whole tree) ≡ Some x → position + size x ≤ q
      → IsAhead tree marks q sought position → IsAhead tree marks q sought (position + size x)
  ahead_past q sought position x at past ahead =
      let t : PlainTree = ahead.first in
      let ts : PlainTrees = ahead.others in
      let same : t ≡ x = same_Some t x (sym (first_found q sought position ahead) ∙ at) in
      let is = first_ahead position t ts ahead.numbered in
      let after : position + size t ≤ q = subst (λ (v : PlainTree). position + size v ≤ q) (sym same) past in
      let outside : subtree q t ≡ None = not_found position (position + size t) t is.rises q (inr after) in
      subst (λ (v : PlainTree). IsAhead tree marks q sought (position + size v)) same (later_ahead q sought (position + size t) ts is.numbered
      (λ p u f.
      let within = found_among_within (position + size t) (position + size t + size_all ts) ts is.others_rise p u f in
      ahead.in_tree p u (or_second (subtree p t) (subtree_among p ts) (not_found position (position + size t) t is.rises p (inr within.0)) ∙ f))
      (some_subst (subtree_among q (PlainTrees.next t ts)) (subtree_among q ts) (or_second (subtree q t) (subtree_among q ts) outside) ahead.has)
      (ahead.is_sought ∙ sought_among q (left_at marks (number_of t) t) (left_of_each marks ts)
      ∙ or_second (option_and_then (subtree q) (left_at marks (number_of t) t)) (subtree_among q (left_of_each marks ts))
      (nothing_left marks position (position + size t) t is.rises (number_of t) q (inr after))))

  -- The node is in the first tree.
  pub ahead_first : (q : ℕ) (sought : Option PlainTree) (position : ℕ) (x : PlainTree) → subtree position (whole tree) ≡ Some x → q < position + size x
      → IsAhead tree marks q sought position →
      (sought ≡ option_and_then (subtree q) (left_at marks position x)) × IsSome (subtree q x)
  ahead_first q sought position x at before ahead =
      let t : PlainTree = ahead.first in
      let ts : PlainTrees = ahead.others in
      let same : t ≡ x = same_Some t x (sym (first_found q sought position ahead) ∙ at) in
      let is = first_ahead position t ts ahead.numbered in
      let end : ℕ = position + size t + size_all ts in
      let early : q < position + size t = subst (λ (v : PlainTree). q < position + size v) (sym same) before in
      subst (λ (v : PlainTree). (sought ≡ option_and_then (subtree q) (left_at marks position v)) × IsSome (subtree q v)) same (
        ahead.is_sought ∙ sought_among q (left_at marks (number_of t) t) (left_of_each marks ts)
            ∙ or_none (option_and_then (subtree q) (left_at marks (number_of t) t)) (subtree_among q (left_of_each marks ts))
            (not_found_among (position + size t) end (left_of_each marks ts) (each_rises marks (position + size t) end ts is.others_rise) q (inl early))
            ∙ ap (λ (p : ℕ). option_and_then (subtree q) (left_at marks p t)) is.number,
        some_subst (subtree_among q (PlainTrees.next t ts)) (subtree q t)
            (or_none (subtree q t) (subtree_among q ts) (not_found_among (position + size t) end ts is.others_rise q (inl early))) ahead.has,
      )

  -- a node of the parsed tree that is kept is left where it is reached
  pub kept_found : (q : ℕ) (sought : Option PlainTree) (x : PlainTree) → subtree q (whole tree) ≡ Some x → mark_at marks q ≡ Kept
      → sought ≡ option_and_then (subtree q) (left_at marks q x) → IsSome sought
  kept_found q sought x at mark is =
      let number = (subtree_within 0 (size (whole tree)) (whole tree) (whole_rises tree laws are) q x at).0 in
      some_subst (option_and_then (subtree q) (left_at marks q x)) sought (sym is) (numbered_by q (left_at marks q x) (own_number marks q x number mark))

  pub kept_here : (q : ℕ) (sought : Option PlainTree) (position : ℕ) (x : PlainTree) → position ≡ q → subtree position (whole tree) ≡ Some x
      → mark_at marks position ≡ Kept → sought ≡ option_and_then (subtree q) (left_at marks position x) → IsSome sought
  kept_here q sought position x same at mark is =
      kept_found q sought x (subst (λ (p : ℕ). subtree p (whole tree) ≡ Some x) same at) (subst (λ (p : ℕ). mark_at marks p ≡ Kept) same mark)
      (subst (λ (p : ℕ). sought ≡ option_and_then (subtree q) (left_at marks p x)) same is)

  kept_on : (q : ℕ) (sought : Option PlainTree) (position : ℕ) (x : PlainTree) → subtree position (whole tree) ≡ Some x → number_of x ≡ position
      → renumbered position x ≡ x → mark_at marks position ≡ Kept → (position ≡ q → ⊥) → IsSome (subtree q x) →
      sought ≡ option_and_then (subtree q) (left_at marks position x) → IsAhead tree marks q sought (position + 1)
  kept_on q sought position (PlainTree.leaf n k i) at number numbered mark other has is =
      absurd (false≢true (some_subst (subtree q (PlainTree.leaf n k i)) None
      (when_not n q (Some (PlainTree.leaf n k i)) None (λ (e : n ≡ q). other (sym number ∙ e))) has))
  kept_on q sought position (PlainTree.node n r a us) at number numbered mark other has is =
      let below : renumbered_all (position + 1) us ≡ us = cc in
      let rise = rise_from (position + 1) (position + 1 + size_all us) us below refl in
      let apart : n ≡ q → ⊥ = λ (e : n ≡ q). other (sym number ∙ e) in
      later_ahead q sought (position + 1) us below
      (λ p u f.
      let within = found_among_within (position + 1) (position + 1 + size_all us) us rise p u f in
      deeper_found 0 (size (whole tree)) (whole tree) (whole_rises tree laws are) position p (PlainTree.node n r a us) u at
      (subtree_below p n r a us (λ (e : n ≡ p). omega (arith, e, number, within)) ∙ f))
      (some_subst (subtree q (PlainTree.node n r a us)) (subtree_among q us) (subtree_below q n r a us apart) has)
      (is
      ∙ ap (option_and_then (subtree q)) (node_own marks position n r a us number
      ∙ ap (λ (m : Mark). by_mark m (PlainTree.node n r a (left_of_each marks us)) (λ by. left_among marks by us)) (ap (mark_at marks) number ∙ mark))
      ∙ subtree_below q n r a (left_of_each marks us) apart)

  -- What is left of another node that is kept, and is reached, is among what is left of its children.
  pub ahead_below : (q : ℕ) (sought : Option PlainTree) (position : ℕ) (x : PlainTree) → subtree position (whole tree) ≡ Some x → mark_at marks position ≡ Kept
      → (position ≡ q → ⊥) → IsSome (subtree q x) →
      sought ≡ option_and_then (subtree q) (left_at marks position x) → IsAhead tree marks q sought (position + 1)
  ahead_below q sought position x at mark other has is =
      kept_on q sought position x at (subtree_within 0 (size (whole tree)) (whole tree) (whole_rises tree laws are) position x at).0
      (subtree_numbered 0 position (whole tree) x are.whole.numbered at) mark other has is

  -- nothing is left where the node that is reached is deleted
  pub deleted_lost : (q : ℕ) (sought : Option PlainTree) (position : ℕ) (x : PlainTree) → subtree position (whole tree) ≡ Some x
      → mark_at marks position ≡ Deleted → sought ≡ option_and_then (subtree q) (left_at marks position x) → sought ≡ None
  deleted_lost q sought position x at mark is =
      let number = (subtree_within 0 (size (whole tree)) (whole tree) (whole_rises tree laws are) position x at).0 in
      is ∙ ap (option_and_then (subtree q)) (none_there marks position x number mark)

  left_own : (by : ℕ) (w : PlainTree) → subtree by (whole tree) ≡ Some w → left_at marks by (whole tree) ≡ left_at marks by w
  left_own by w at =
      let number = (subtree_within 0 (size (whole tree)) (whole tree) (whole_rises tree laws are) by w at).0 in
      left_below marks 0 (size (whole tree)) (whole tree) (whole_rises tree laws are) by by w w at (subtree_own by w number)

  -- the way begins at a node that has the other one below it, or is it
  pub ahead_begins : (q by : ℕ) (w : PlainTree) → subtree by (whole tree) ≡ Some w → by ≤ q → q < by + size w
      → IsAhead tree marks q (option_and_then (subtree q) (left_at marks by (whole tree))) by
  ahead_begins q by w at from before =
      let number = (subtree_within 0 (size (whole tree)) (whole tree) (whole_rises tree laws are) by w at).0 in
      let numbered = subtree_numbered 0 by (whole tree) w are.whole.numbered at in
      let there = subtree_there by q w numbered from before in
      record {
        first = w;
        others = PlainTrees.none;
        numbered = ap (λ (t : PlainTree). PlainTrees.next t PlainTrees.none) numbered;
        in_tree = λ p u f. deeper_found 0 (size (whole tree)) (whole tree) (whole_rises tree laws are) by p w u at (sym (or_none (subtree p w) None refl) ∙ f);
        has = some_is (option_or (subtree q w) None) there.0 (or_first (subtree q w) None there.0 there.1);
        is_sought = sym (sought_among q (left_at marks (number_of w) w) PlainTrees.none
            ∙ or_none (option_and_then (subtree q) (left_at marks (number_of w) w)) None refl
            ∙ ap (λ (p : ℕ). option_and_then (subtree q) (left_at marks p w)) number
            ∙ ap (option_and_then (subtree q)) (sym (left_own by w at)));
      }

  -- a node that has not the other one below it, and isn't it, has nothing of it
  pub not_begun : (q by : ℕ) (w : PlainTree) → subtree by (whole tree) ≡ Some w → (q < by) ⊎ (by + size w ≤ q)
      → option_and_then (subtree q) (left_at marks by (whole tree)) ≡ None
  not_begun q by w at out =
      ap (option_and_then (subtree q)) (left_own by w at)
      ∙ nothing_left marks by (by + size w) w (rises_from by (by + size w) w (subtree_numbered 0 by (whole tree) w are.whole.numbered at) refl) by q out

  -- What is left of the node is what is left of another one, which is below it.
  pub record IsReplacedBy (position by : ℕ) (x : PlainTree) : Type 0 where
    pub other : PlainTree
    pub other_is : subtree by (whole tree) ≡ Some other
    pub later : position < by
    pub node : by < length tree.nodes
    pub leaves : left_at marks position x ≡ left_at marks by (whole tree)

  pub node_there : (q : ℕ) → q < length tree.nodes → (w : PlainTree) × (subtree q (whole tree) ≡ Some w)
  node_there q lt = let count = nodes_count tree laws are in subtree_there 0 q (whole tree) are.whole.numbered (omega arith) (omega (arith, lt, count))

  module _ (down : ReplacementsGoDown marks (whole tree)) where
    -- what is left of a node that is replaced
    pub replaced_by : (position by : ℕ) (x : PlainTree) → subtree position (whole tree) ≡ Some x → mark_at marks position ≡ Replaced by → IsReplacedBy position
        by x
    replaced_by position by x at mark =
        let rises = whole_rises tree laws are in
        let own = subtree_within 0 (size (whole tree)) (whole tree) rises position x at in
        let below = down position by x at mark in
        let leaves_it = replaced_leaves marks position by position (size (whole tree)) x below.0 own.1 own.0 mark below.1 in
        let there : subtree by (whole tree) ≡ Some below.0 = deeper_found 0 (size (whole tree)) (whole tree) rises position by x below.0 at leaves_it.1 in
        let within = found_within 0 (size (whole tree)) (whole tree) rises by below.0 there in
        let count = nodes_count tree laws are in
        record {
          other = below.0;
          other_is = there;
          later = after_root position by x below.0 own.1 own.0 below.1;
          node = omega (arith, within, count);
          leaves = leaves_it.0 ∙ sym (left_below marks 0 (size (whole tree)) (whole tree) rises position by x below.0 at leaves_it.1);
        }
      where
        after_root : (position by : ℕ) (x w : PlainTree) → Rises position (size (whole tree)) x → number_of x ≡ position → subtree_among
            by (children_of x) ≡ Some w → position < by
        after_root position by (PlainTree.leaf n k i) w h e f = absurd (none-some w f)
        after_root position by (PlainTree.node n r a ts) w h e f = let within =
            found_among_within (n + 1) (size (whole tree)) ts h.1 by w f in omega (arith, e, within)
