-- A mark that is set at a node that is left changes what is left at that node alone.
use Rattle.std.proofs.Common.{◌≡◌, ◌⊎◌, inl, inr, ℕ, ◌+◌, ◌<◌, ◌≤◌, List, Option, Some, None, refl, sym, ap, ◌∙◌, arith}
use Rattle.std.specs.Prelude.{if◌then◌else◌, nat_eq}
use Rattle.std.specs.Option.{option_and_then}
use Rattle.std.proofs.lemmas.Bool.{cases_eq}
use Rattle.syntax_tree.specs.Trees.{PlainTree, PlainTrees}
use Rattle.syntax_tree.specs.Numbered.{number_of, subtree, subtree_among, with_subtree, with_subtree_among}
use Rattle.syntax_tree_cut.specs.declared.mark.Mark.{Mark}
use Rattle.syntax_tree_cut.specs.declared.mark.Mark.TheVariants.{Kept, Deleted, Replaced}
use Rattle.syntax_tree_cut.specs.Cuts.{by_mark, left_among, left_at, left_of_each, mark_at, or_next}
use Rattle.syntax_tree_cut.proofs.Rising.{Rises, RiseAll, bounds_rise, cases_option, found_among_within, not_found, number_within}
use Rattle.syntax_tree_cut.proofs.Rising.{or_first, or_none, or_second, subtree_below, subtree_own, when_equal, when_not}
use Rattle.syntax_tree_cut.proofs.LeftTrees.{leaf_other, leaf_own, left_within, node_other, node_own, none_left_among}

abbrev mutual
  -- the tree with something else, or nothing, at the position of the node with this number
  pub edited : ℕ → Option PlainTree → PlainTree → Option PlainTree
  edited q o (PlainTree.leaf n k i) = if nat_eq n q then o else Some (PlainTree.leaf n k i)
  edited q o (PlainTree.node n r a ts) = if nat_eq n q then o else Some (PlainTree.node n r a (edited_all q o ts))

  pub edited_all : ℕ → Option PlainTree → PlainTrees → PlainTrees
  edited_all q o PlainTrees.none = PlainTrees.none
  edited_all q o (PlainTrees.next t ts) = or_next (edited q o t) (edited_all q o ts)

edited_or_next : (q : ℕ) (o x : Option PlainTree) (ts : PlainTrees)
    → or_next (option_and_then (edited q o) x) (edited_all q o ts) ≡ edited_all q o (or_next x ts)
edited_or_next q o None ts = refl
edited_or_next q o (Some t) ts = refl

module _ (marks marks' : List Mark) (q : ℕ) (o : Option PlainTree) (others : (p : ℕ) → (p ≡ q → ⊥) → mark_at marks' p ≡ mark_at marks p)
    (was : mark_at marks q ≡ Kept) where
  by_mark_edited : (m : Mark) (n r a : ℕ) (ts : PlainTrees) → (n ≡ q → ⊥) → left_of_each marks' ts ≡ edited_all q o (left_of_each marks ts)
      → ((by : ℕ) → left_among marks' by ts ≡ option_and_then (edited q o) (left_among marks by ts)) →
      by_mark m (PlainTree.node n r a (left_of_each marks' ts)) (λ by. left_among marks' by ts) ≡ option_and_then (edited q o)
      (by_mark m (PlainTree.node n r a (left_of_each marks ts)) (λ by. left_among marks by ts))
  by_mark_edited Kept n r a ts other each among =
      ap (λ (us : PlainTrees). Some (PlainTree.node n r a us)) each
      ∙ sym (when_not n q o (Some (PlainTree.node n r a (edited_all q o (left_of_each marks ts)))) other)
  by_mark_edited Deleted n r a ts other each among = refl
  by_mark_edited (Replaced by) n r a ts other each among = among by

  leaf_mark_edited : (m : Mark) (n k i : ℕ) → (n ≡ q → ⊥)
      → by_mark m (PlainTree.leaf n k i) (λ by. None) ≡ option_and_then (edited q o) (by_mark m (PlainTree.leaf n k i) (λ by. None))
  leaf_mark_edited Kept n k i other = sym (when_not n q o (Some (PlainTree.leaf n k i)) other)
  leaf_mark_edited Deleted n k i other = refl
  leaf_mark_edited (Replaced by) n k i other = refl

  -- What is left at the node itself, wherever it is.
  abbrev LeavesThere : (ℕ → Option PlainTree) → Type 0
  LeavesThere find = (x : PlainTree) → find q ≡ Some x → left_at marks' q x ≡ o

  there_later : (low high : ℕ) (t : PlainTree) (ts : PlainTrees) → RiseAll low high (PlainTrees.next t ts)
      → LeavesThere (λ p. subtree_among p (PlainTrees.next t ts)) → LeavesThere (λ p. subtree_among p ts)
  there_later low high t ts h there x e =
      let within = found_among_within h.0 high ts h.2 q x e in
      there x (or_second (subtree q t) (subtree_among q ts) (not_found low h.0 t h.1 q (inr within.0)) ∙ e)

  mutual
    pub left_edited : (low high : ℕ) (t : PlainTree) → Rises low high t → LeavesThere (λ p. subtree p t) → (b : ℕ)
        → left_at marks' b t ≡ option_and_then (edited q o) (left_at marks b t)
    left_edited low high (PlainTree.leaf n k i) h there b =
        elim (cases_eq n b) [
          | inr not_b ↦ leaf_other marks' b n k i not_b ∙ ap (option_and_then (edited q o)) (sym (leaf_other marks b n k i not_b))
          | inl is_b ↦ elim (cases_eq n q) [
            | inl is_q ↦
                let same : b ≡ q = sym is_b ∙ is_q in
                ap (λ (c : ℕ). left_at marks' c (PlainTree.leaf n k i)) same
                ∙ there (PlainTree.leaf n k i) (subtree_own q (PlainTree.leaf n k i) is_q)
                ∙ sym (when_equal n q o (Some (PlainTree.leaf n k i)) is_q)
                ∙ ap (λ (m : Mark). option_and_then (edited q o) (by_mark m (PlainTree.leaf n k i) (λ by. None))) (sym was ∙ ap (mark_at marks) (sym is_q))
                ∙ ap (option_and_then (edited q o)) (sym (leaf_own marks b n k i is_b))
            | inr not_q ↦
                leaf_own marks' b n k i is_b
                ∙ ap (λ (m : Mark). by_mark m (PlainTree.leaf n k i) (λ by. None)) (others n not_q)
                ∙ leaf_mark_edited (mark_at marks n) n k i not_q
                ∙ ap (option_and_then (edited q o)) (sym (leaf_own marks b n k i is_b))
          ]
        ]
    left_edited low high (PlainTree.node n r a ts) h there b =
        let below : LeavesThere (λ p. subtree_among p ts) =
        λ x e.
        let within = found_among_within (n + 1) high ts h.1 q x e in
        there x (subtree_below q n r a ts (λ (f : n ≡ q). omega (arith, f, within)) ∙ e) in
        elim (cases_eq n b) [
          | inr not_b ↦ node_other marks' b n r a ts not_b ∙ left_among_edited (n + 1) high ts h.1 below b
              ∙ ap (option_and_then (edited q o)) (sym (node_other marks b n r a ts not_b))
          | inl is_b ↦ elim (cases_eq n q) [
            | inl is_q ↦
                let same : b ≡ q = sym is_b ∙ is_q in
                ap (λ (c : ℕ). left_at marks' c (PlainTree.node n r a ts)) same
                ∙ there (PlainTree.node n r a ts) (subtree_own q (PlainTree.node n r a ts) is_q)
                ∙ sym (when_equal n q o (Some (PlainTree.node n r a (edited_all q o (left_of_each marks ts)))) is_q)
                ∙ ap (λ (m : Mark). option_and_then (edited q o) (by_mark m (PlainTree.node n r a (left_of_each marks ts)) (λ by. left_among marks by ts)))
                (sym was ∙ ap (mark_at marks) (sym is_q))
                ∙ ap (option_and_then (edited q o)) (sym (node_own marks b n r a ts is_b))
            | inr not_q ↦
                node_own marks' b n r a ts is_b
                ∙ ap (λ (m : Mark). by_mark m (PlainTree.node n r a (left_of_each marks' ts)) (λ by. left_among marks' by ts)) (others n not_q)
                ∙ by_mark_edited (mark_at marks n) n r a ts not_q (left_of_each_edited (n + 1) high ts h.1 below)
                (λ (by : ℕ). left_among_edited (n + 1) high ts h.1 below by)
                ∙ ap (option_and_then (edited q o)) (sym (node_own marks b n r a ts is_b))
          ]
        ]

    pub left_among_edited : (low high : ℕ) (ts : PlainTrees) → RiseAll low high ts → LeavesThere (λ p. subtree_among p ts) → (b : ℕ)
        → left_among marks' b ts ≡ option_and_then (edited q o) (left_among marks b ts)
    left_among_edited low high PlainTrees.none h there b = refl
    left_among_edited low high (PlainTrees.next t ts) h there b =
        let first = left_edited low h.0 t h.1 (λ x e. there x (or_first (subtree q t) (subtree_among q ts) x e)) b in
        let later = left_among_edited h.0 high ts h.2 (there_later low high t ts h there) b in
        elim (cases_option (left_at marks b t)) [
          | inl some ↦
              let within = left_within marks low h.0 t h.1 b some.0 some.1 in
              let gone = none_left_among marks h.0 high ts h.2 b (inl within.1) in
              let gone' = none_left_among marks' h.0 high ts h.2 b (inl within.1) in
              or_none (left_at marks' b t) (left_among marks' b ts) gone' ∙ first
              ∙ ap (option_and_then (edited q o)) (sym (or_none (left_at marks b t) (left_among marks b ts) gone))
          | inr none ↦
              or_second (left_at marks' b t) (left_among marks' b ts) (first ∙ ap (option_and_then (edited q o)) none) ∙ later
              ∙ ap (option_and_then (edited q o)) (sym (or_second (left_at marks b t) (left_among marks b ts) none))
        ]

    pub left_of_each_edited : (low high : ℕ) (ts : PlainTrees) → RiseAll low high ts → LeavesThere (λ p. subtree_among p ts)
        → left_of_each marks' ts ≡ edited_all q o (left_of_each marks ts)
    left_of_each_edited low high PlainTrees.none h there = refl
    left_of_each_edited low high (PlainTrees.next t ts) h there =
        let first = left_edited low h.0 t h.1 (λ x e. there x (or_first (subtree q t) (subtree_among q ts) x e)) (number_of t) in
        let later = left_of_each_edited h.0 high ts h.2 (there_later low high t ts h there) in
        ap (λ (x : Option PlainTree). or_next x (left_of_each marks' ts)) first
        ∙ ap (λ (us : PlainTrees). or_next (option_and_then (edited q o) (left_at marks (number_of t) t)) us) later
        ∙ edited_or_next q o (left_at marks (number_of t) t) (left_of_each marks ts)

-- with another tree there, nothing is left out
mutual
  pub edited_with : (q : ℕ) (w t : PlainTree) → edited q (Some w) t ≡ Some (with_subtree q w t)
  edited_with q w (PlainTree.leaf n k i) =
      elim (cases_eq n q) [
        | inl same ↦ when_equal n q (Some w) (Some (PlainTree.leaf n k i)) same
            ∙ ap (λ (x : PlainTree). Some x) (sym (when_equal n q w (PlainTree.leaf n k i) same))
        | inr other ↦ when_not n q (Some w) (Some (PlainTree.leaf n k i)) other
            ∙ ap (λ (x : PlainTree). Some x) (sym (when_not n q w (PlainTree.leaf n k i) other))
      ]
  edited_with q w (PlainTree.node n r a ts) =
      elim (cases_eq n q) [
        | inl same ↦ when_equal n q (Some w) (Some (PlainTree.node n r a (edited_all q (Some w) ts))) same
            ∙ ap (λ (x : PlainTree). Some x) (sym (when_equal n q w (PlainTree.node n r a (with_subtree_among q w ts)) same))
        | inr other ↦
            when_not n q (Some w) (Some (PlainTree.node n r a (edited_all q (Some w) ts))) other
            ∙ ap (λ (us : PlainTrees). Some (PlainTree.node n r a us)) (edited_all_with q w ts)
            ∙ ap (λ (x : PlainTree). Some x) (sym (when_not n q w (PlainTree.node n r a (with_subtree_among q w ts)) other))
      ]

  pub edited_all_with : (q : ℕ) (w : PlainTree) (ts : PlainTrees) → edited_all q (Some w) ts ≡ with_subtree_among q w ts
  edited_all_with q w PlainTrees.none = refl
  edited_all_with q w (PlainTrees.next t ts) =
      ap (λ (x : Option PlainTree). or_next x (edited_all q (Some w) ts)) (edited_with q w t)
      ∙ ap (λ (us : PlainTrees). PlainTrees.next (with_subtree q w t) us) (edited_all_with q w ts)

pub apart : (q low high : ℕ) (t : PlainTree) → Rises low high t → (q < low) ⊎ (high ≤ q) → number_of t ≡ q → ⊥
apart q low high t h out e =
    let own = number_within low high t h in
    elim out [ inl below ↦ omega (arith, e, own, below) | inr above ↦ omega (arith, e, own, above) ]

-- a tree without the number is as it was
mutual
  pub edited_outside : (q : ℕ) (o : Option PlainTree) (low high : ℕ) (t : PlainTree) → Rises low high t → (q < low) ⊎ (high ≤ q) → edited q o t ≡ Some t
  edited_outside q o low high (PlainTree.leaf n k i) h out = when_not n q o (Some (PlainTree.leaf n k i)) (apart q low high (PlainTree.leaf n k i) h out)
  edited_outside q o low high (PlainTree.node n r a ts) h out =
      when_not n q o (Some (PlainTree.node n r a (edited_all q o ts))) (apart q low high (PlainTree.node n r a ts) h out)
      ∙ ap (λ (us : PlainTrees). Some (PlainTree.node n r a us))
      (edited_all_outside q o (n + 1) high ts h.1 (elim out [ inl below ↦ inl (omega (arith, below, h.0)) | inr above ↦ inr above ]))

  pub edited_all_outside : (q : ℕ) (o : Option PlainTree) (low high : ℕ) (ts : PlainTrees) → RiseAll low high ts → (q < low) ⊎ (high ≤ q)
      → edited_all q o ts ≡ ts
  edited_all_outside q o low high PlainTrees.none h out = refl
  edited_all_outside q o low high (PlainTrees.next t ts) h out =
      let own = number_within low h.0 t h.1 in
      let rest = bounds_rise h.0 high ts h.2 in
      ap (λ (x : Option PlainTree). or_next x (edited_all q o ts))
      (edited_outside q o low h.0 t h.1 (elim out [ inl below ↦ inl below | inr above ↦ inr (omega (arith, above, rest)) ]))
      ∙ ap (λ (us : PlainTrees). PlainTrees.next t us)
      (edited_all_outside q o h.0 high ts h.2 (elim out [ inl below ↦ inl (omega (arith, below, own)) | inr above ↦ inr above ]))
