-- Elements of a list that are kept or deleted one after another, for the tokens alone.
use Rattle.std.proofs.Common.{◌≡◌, ℕ, zero, suc, ◌+◌, ◌-◌, ◌<◌, ◌≤◌, List, [], ◌∷◌, ◌++◌, Option, Some, None}
use Rattle.std.proofs.Common.{length, take, drop, slice_get, refl, sym, ap, ◌∙◌, subst, arith}
use Rattle.std.specs.Prelude.{Bool, true, false, slice_index_or, slice_set}
use Rattle.std.specs.List.Sorted.{IsStrictlyIncreasing}
use Rattle.std.proofs.lemmas.Option.{same_Some}
use Rattle.syntax_tree.specs.declared.node.Node.{Node}
use Rattle.syntax_tree.specs.Trees.{PlainTree, PlainTrees, count, leaves, size}
use Rattle.syntax_tree.specs.Numbered.{number_of, subtree}
use Rattle.syntax_tree.specs.Nodes.{AreNodesOf, SyntaxTree, whole}
use Rattle.syntax_tree.specs.Left.{selected_trees}
use Rattle.syntax_tree_cut.specs.declared.mark.Mark.{Mark}
use Rattle.syntax_tree_cut.specs.declared.mark.Mark.TheVariants.{Deleted}
use Rattle.syntax_tree_cut.specs.declared.progress.Progress.{Progress}
use Rattle.syntax_tree_cut.specs.declared.tokens.Gap.{Gap}
use Rattle.syntax_tree_cut.specs.Cuts.{CanSelect, CutForm, HasChildren, IsCutOf, IsOccupant, cut_tree, deleted, itself, replaced}
use Rattle.syntax_tree_cut.specs.inner.Cuts.{ReplacementsRise}
use Rattle.syntax_tree_cut.specs.inner.Keeping.{AreMarksFrom, AreTokensSoFar, CanPassTokens, HasPassedTokens, IsKeptSoFar}
use Rattle.syntax_tree_cut.specs.inner.Tokens.{IsSplitAt, within}
use Rattle.syntax_tree_cut.specs.inner.TreeLaws.{TreeLaws}
use Rattle.syntax_tree_cut.proofs.Rising.{number_within}
use Rattle.syntax_tree_cut.proofs.LeftTrees.{left_rises}
use Rattle.syntax_tree_cut.proofs.Deletions.{some_first}
use Rattle.syntax_tree_cut.proofs.Positions.{position_within, replacements_rise, rest_next}
use Rattle.syntax_tree_cut.proofs.Keeping.{IsKeeping, element, first_rises, flag_here, keeping_begins_at, keeping_ends, long_enough, node_here}
use Rattle.syntax_tree_cut.proofs.Keeping.{passes_deleted, passes_kept, passes_none, tokens_rise}

-- What is at a position is decided by the marks from there on.
occupant_same : (marks these : List Mark) → ReplacementsRise these → (q : ℕ) (o : Option ℕ) → IsOccupant these q o → AreMarksFrom q marks these
    → IsOccupant marks q o
occupant_same marks these rise q o (itself q' e) same = itself q' (same q' (omega arith) ∙ e)
occupant_same marks these rise q o (deleted q' e) same = deleted q' (same q' (omega arith) ∙ e)
occupant_same marks these rise q o (replaced q' by o' e rest) same =
    let r = (rise q' by e).0 in
    replaced q' by o' (same q' (omega arith) ∙ e) (occupant_same marks these rise by o' rest (λ k l. same k (omega (arith, l, r))))

-- the other marks stay
other_mark : (marks : List Mark) (n k : ℕ) (m : Mark) → (k ≡ n → ⊥) → slice_get (slice_set marks n m) k ≡ slice_get marks k
other_mark [] n k m ne = refl
other_mark (x ∷ marks) zero zero m ne = absurd (ne refl)
other_mark (x ∷ marks) zero (suc k) m ne = refl
other_mark (x ∷ marks) (suc n) zero m ne = refl
other_mark (x ∷ marks) (suc n) (suc k) m ne = other_mark marks n k m (λ e. ne (ap suc e))

-- So many children are still to be gone through.
abbrev pub IsKeepingTokens : (tree : SyntaxTree) (c : CutForm) (list : ℕ) (keep : List Bool) → CanSelect tree.form (cut_tree tree c) list keep → ℕ
    → List ℕ → Progress → Type 0
IsKeepingTokens tree c list keep can remaining tokens p =
    (now : CutForm) × IsKeeping tree c list keep can remaining now p × (now.kept ≡ tokens) × AreMarksFrom p.position now.marks c.marks

module _ (tree : SyntaxTree) (laws : TreeLaws) (are : AreNodesOf tree.form tree.start tree.nodes (whole tree)) (c : CutForm) (of : IsCutOf tree c)
    (keep : List Bool) where
  module _ (list : ℕ) (can : CanSelect tree.form (cut_tree tree c) list keep) (t : PlainTree) (ts : PlainTrees) (tokens : List ℕ) (p : Progress)
      (so : AreTokensSoFar tree c list keep can (PlainTrees.next t ts) tokens p) where
    abbrev now : CutForm
    now = so.0

    abbrev kept_so : IsKeptSoFar tree c list keep can (PlainTrees.next t ts) now p
    kept_so = so.1

    same_tokens : now.kept ≡ tokens
    same_tokens = so.2

    same_marks : AreMarksFrom p.position now.marks c.marks
    same_marks = so.3

    pub position_here : (p.position < length c.marks) × (p.position < length tree.nodes)
    position_here = position_within tree laws are c of p.position t ts kept_so.rest_is

    pub gap_here : p.gap.to ≤ length tokens
    gap_here = subst (λ (l : List ℕ). p.gap.to ≤ length l) same_tokens kept_so.within

    pub gap_rises : p.gap.from ≤ p.gap.to
    gap_rises = kept_so.gap

    occupant_now : (o : Option ℕ) → IsOccupant c.marks p.position o → IsOccupant now.marks p.position o
    occupant_now o at = occupant_same now.marks c.marks (replacements_rise tree laws are c of) p.position o at same_marks

    pub tokens_none : IsOccupant c.marks p.position None → (x : PlainTree) (q : ℕ) → subtree p.position (whole tree) ≡ Some x → q ≡ p.position + size x
        → AreTokensSoFar tree c list keep can ts tokens (record { position = q; elements = p.elements; gap = p.gap })
    tokens_none at x q e is = (
      now,
      passes_none tree laws are c list keep can t ts now p kept_so (occupant_now None at) x q e is,
      same_tokens,
      λ k l. same_marks k (omega (arith, l, is)),
    )

    module _ (n : ℕ) (at : IsOccupant c.marks p.position (Some n)) where
      at_now : IsOccupant now.marks p.position (Some n)
      at_now = occupant_now (Some n) at

      pub there : n < length tree.nodes
      there = node_here tree laws are c list keep can t ts now p kept_so n at_now

      pub rise_after : IsStrictlyIncreasing (drop p.gap.to tokens)
      rise_after =
          subst (λ (l : List ℕ). IsStrictlyIncreasing (drop p.gap.to l)) same_tokens (tokens_rise tree laws are c list keep can t ts now p kept_so n at_now)

      pub flag : p.elements < length keep
      flag = flag_here tree laws are c list keep can t ts now p kept_so n at_now

      counted_now : (y : Node) (m : ℕ) → m ≡ length (within y.first y.end (drop p.gap.to tokens)) → m ≡ length (within y.first y.end (drop p.gap.to now.kept))
      counted_now y m e = e ∙ ap (λ (l : List ℕ). length (within y.first y.end (drop p.gap.to l))) (sym same_tokens)

      pub enough_tokens : (y : Node) (m : ℕ) → slice_get tree.nodes n ≡ Some y → m ≡ length (within y.first y.end (drop p.gap.to tokens))
          → p.gap.to + m ≤ length tokens
      enough_tokens y m e is =
          subst (λ (l : List ℕ). p.gap.to + m ≤ length l) same_tokens
          (long_enough tree laws are c list keep can t ts now p kept_so n at_now y m e (counted_now y m is))

      pub tokens_kept : (x : PlainTree) (q : ℕ) (y : Node) (m : ℕ) (after : List ℕ) (gap : Gap) → subtree p.position (whole tree) ≡ Some x
          → q ≡ p.position + size x → slice_get tree.nodes n ≡ Some y → m ≡ length (within y.first y.end (drop p.gap.to tokens))
          → slice_get keep p.elements ≡ Some true → gap.from ≡ p.gap.from + m → gap.to ≡ p.gap.to + m →
          take (p.gap.from + m) after ≡ take p.gap.from tokens ++ take m (drop p.gap.to tokens) → drop (p.gap.to + m) after ≡ drop (p.gap.to + m) tokens
          → length after ≡ length tokens → AreTokensSoFar tree c list keep can ts after (record { position = q; elements = p.elements + 1; gap = gap })
      tokens_kept x q y m after gap e is ye me on from to stay next len =
          let back = sym same_tokens in
          let d : CutForm = record { marks = now.marks; positions = now.positions; kept = after } in (
            d,
            passes_kept tree laws are c list keep can t ts now p kept_so n at_now x q y m d gap e is ye (counted_now y m me) on refl refl from to
                (stay ∙ ap (λ (l : List ℕ). take p.gap.from l ++ take m (drop p.gap.to l)) back) (next ∙ ap (drop (p.gap.to + m)) back) (len ∙ ap length back),
            refl,
            λ k l. same_marks k (omega (arith, l, is)),
          )

      -- the element is before the next position
      before_next : (x : PlainTree) → subtree p.position (whole tree) ≡ Some x → n < p.position + size x
      before_next x e =
          let it = element tree laws are c list keep can t ts now p kept_so n at_now in
          let rises = first_rises p.position t ts kept_so.rest_is.numbered in
          let own = number_within p.position (p.position + size t) it.0
          (left_rises kept_so.cut.marks p.position (p.position + size t) t rises.0 (number_of t) it.0 it.1) in
          let next = rest_next (whole tree) p.position t ts kept_so.rest_is in
          let same = ap size (same_Some t x (sym next.1 ∙ e)) in
          let number = it.2 in
          omega (arith, own, same, number)

      pub tokens_deleted : (x : PlainTree) (q : ℕ) (y : Node) (m : ℕ) (gap : Gap) → subtree p.position (whole tree) ≡ Some x → q ≡ p.position + size x
          → slice_get tree.nodes n ≡ Some y → m ≡ length (within y.first y.end (drop p.gap.to tokens)) → slice_get keep p.elements ≡ Some false
          → gap.from ≡ p.gap.from → gap.to ≡ p.gap.to + m → AreTokensSoFar tree c list keep can ts tokens
          (record { position = q; elements = p.elements + 1; gap = gap })
      tokens_deleted x q y m gap e is ye me off from to =
          let d : CutForm = record { marks = slice_set now.marks n Deleted; positions = now.positions; kept = now.kept } in
          let low = before_next x e in (
            d,
            passes_deleted tree laws are c list keep can t ts now p kept_so n at_now y ye off x q m d gap e is (counted_now y m me) refl refl refl from to,
            same_tokens,
            λ k l. other_mark now.marks n k Deleted (λ f. omega (arith, f, l, is, low)) ∙ same_marks k (omega (arith, l, is)),
          )

  -- What is needed for one more position, and what comes of it.
  module _ (list : ℕ) (can : CanSelect tree.form (cut_tree tree c) list keep) where
    pub can_pass_tokens : (remaining : ℕ) (tokens : List ℕ) (p : Progress) → IsKeepingTokens tree c list keep can remaining tokens p → 0 < remaining
        → CanPassTokens tree c keep tokens p
    can_pass_tokens remaining tokens p is some =
        let many = is.1.1 in
        let first = some_first is.1.0 (omega (arith, many, some)) in
        (list, can, first.0, first.1, (is.0, subst (λ (us : PlainTrees). IsKeptSoFar tree c list keep can us is.0 p) first.2 is.1.2, is.2, is.3))

    pub passed_tokens : (remaining : ℕ) (tokens after : List ℕ) (p q : Progress) → IsKeepingTokens tree c list keep can remaining tokens p → 0 < remaining
        → HasPassedTokens tree c keep tokens p after q → IsKeepingTokens tree c list keep can (remaining - 1) after q
    passed_tokens remaining tokens after p q is some passes =
        let many = is.1.1 in
        let first = some_first is.1.0 (omega (arith, many, some)) in
        let next = ap count first.2 in
        let after_it = passes list can first.0 first.1
        (is.0, subst (λ (us : PlainTrees). IsKeptSoFar tree c list keep can us is.0 p) first.2 is.1.2, is.2, is.3) in
        (after_it.0, (first.1, omega (arith, many, next, some), after_it.1), after_it.2, after_it.3)

    pub tokens_begin : (nodes : List Node) (d : Node) (tokens : List ℕ) (p : Progress) → nodes ≡ tree.nodes → list < length tree.nodes → p.position ≡ list + 1
        → p.elements ≡ 0 → p.gap.to ≡ p.gap.from → ((x : Node) → slice_get tree.nodes list ≡ Some x → IsSplitAt c.kept x.first p.gap.from)
        → tokens ≡ c.kept → IsKeepingTokens tree c list keep can (slice_index_or nodes list d).children tokens p
    tokens_begin nodes d tokens p same lt position elements gap split e =
        (c, keeping_begins_at tree laws are c list keep can of nodes d p same lt position elements gap split, sym e, λ k l. refl)

    pub tokens_end : (remaining : ℕ) (tokens after : List ℕ) (p : Progress) → IsKeepingTokens tree c list keep can remaining tokens p → remaining ≡ 0
        → after ≡ take p.gap.from tokens ++ drop p.gap.to tokens →
        ((t : PlainTree) × HasChildren list (selected_trees keep) (cut_tree tree c) t × (after ≡ leaves t)) × IsStrictlyIncreasing after
    tokens_end remaining tokens after p is end kept =
        let now = is.0 in
        let d : CutForm = record { marks = now.marks; positions = now.positions; kept = after } in
        let both = keeping_ends tree laws are c list keep can of remaining now d p is.1 end refl refl
        (kept ∙ ap (λ (l : List ℕ). take p.gap.from l ++ drop p.gap.to l) (sym is.2)) in
        ((cut_tree tree d, both.0, both.1.kept), subst (λ (l : List ℕ). IsStrictlyIncreasing l) (sym both.1.kept) both.1.fits.rising)
