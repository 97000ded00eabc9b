-- Elements of a list that are kept or deleted one after another.
use Rattle.std.proofs.Common.{◌≡◌, inl, inr, ℕ, ◌+◌, ◌-◌, ◌<◌, ◌≤◌, List, [], ◌∷◌, ◌++◌, Option, Some, None, length, take, drop}
use Rattle.std.proofs.Common.{slice_get, refl, sym, ap, ◌∙◌, subst, arith, append_assoc, length-append, length-drop}
use Rattle.std.specs.Prelude.{Bool, true, false, nat_le, nat_lt, slice_index_or, slice_set}
use Rattle.std.specs.List.{Contains, filter}
use Rattle.std.specs.List.Sorted.{IsStrictlyIncreasing}
use Rattle.std.specs.Option.{option_map}
use Rattle.std.proofs.lemmas.List.{drop-drop, drop_at, get_or-set_other, length-take-le, take-append-drop, take_at}
use Rattle.std.proofs.lemmas.Option.{none-some, same_Some, slice_get-get_or}
use Rattle.syntax_tree.specs.declared.node.Node.{Node}
use Rattle.syntax_tree.specs.Trees.{PlainTree, PlainTrees, children_of, count, leaves, of_leaves_all, renumbered, renumbered_all, size, size_all}
use Rattle.syntax_tree.specs.Numbered.{number_of, roots, subtree, subtree_among, with_subtree}
use Rattle.syntax_tree.specs.Nodes.{AreNodesOf, SyntaxTree, whole}
use Rattle.syntax_tree.specs.Left.{selected_trees}
use Rattle.syntax_tree.specs.LeftLaws.{is_within}
use Rattle.syntax_tree_cut.specs.declared.mark.Mark.{Mark}
use Rattle.syntax_tree_cut.specs.declared.mark.Mark.TheVariants.{Kept, Deleted}
use Rattle.syntax_tree_cut.specs.declared.progress.Progress.{Progress}
use Rattle.syntax_tree_cut.specs.declared.tokens.Gap.{Gap}
use Rattle.syntax_tree_cut.specs.inner.Children.{IsRest}
use Rattle.syntax_tree_cut.specs.Cuts.{CanDelete, CanSelect, CutForm, HasChildren, IsCutOf, IsOccupant, cut_tree, left_at, left_of_each, or_next, without}
use Rattle.syntax_tree_cut.specs.inner.Cuts.{ReplacementsRise}
use Rattle.syntax_tree_cut.specs.inner.Keeping.{CanPass, HasPassed, IsKeptSoFar, with_trees_after}
use Rattle.syntax_tree_cut.specs.inner.Steps.{HasDeleted}
use Rattle.syntax_tree_cut.specs.inner.Tokens.{IsSplitAt, before, from_on, within}
use Rattle.syntax_tree_cut.specs.inner.TreeLaws.{TreeLaws}
use Rattle.syntax_tree_cut.proofs.Rising.{RiseAll, Rises, found_among_within, number_within, rise_from, rises_from, subtree_below, subtree_own, subtree_within}
use Rattle.syntax_tree_cut.proofs.LeftTrees.{each_rises, left_below, left_rises}
use Rattle.syntax_tree_cut.proofs.EditedTrees.{edited_all_outside, left_of_each_edited}
use Rattle.syntax_tree_cut.proofs.Deletions.{some_first, with_itself}
use Rattle.syntax_tree_cut.proofs.Spans.{as_many}
use Rattle.syntax_tree_cut.proofs.CutEdits.{apart_again, deeper_found, node_was, tree_rises, whole_rises}
use Rattle.syntax_tree_cut.proofs.Splits.{rises_after, take_is}
use Rattle.syntax_tree_cut.proofs.CutFacts.{NodeFacts, index_is, node_facts}
use Rattle.syntax_tree_cut.proofs.Positions.{children_begin, occupant_is, position_within, replacements_rise, rest_next}
use Rattle.syntax_tree_cut.proofs.CutCalls.{element_deleted, renamed}
use Rattle.syntax_tree_cut.proofs.TreesAfter.{found_with, after_count, after_found, after_has, after_more, after_without}
use Rattle.syntax_tree_cut.proofs.TreesAfter.{next_flag, selected_count, selected_none, some_selected, with_again}

none_numbered : (o : Option PlainTree) → option_map number_of o ≡ None → o ≡ None
none_numbered None e = refl
none_numbered (Some t) e = absurd (none-some (number_of t) (sym e))

one_numbered : (o : Option PlainTree) (n : ℕ) → option_map number_of o ≡ Some n → (u : PlainTree) × (o ≡ Some u) × (number_of u ≡ n)
one_numbered None n e = absurd (none-some n e)
one_numbered (Some u) n e = (u, refl, same_Some (number_of u) n e)

-- cuts with the same parts
same_cut : (a b : CutForm) → a.marks ≡ b.marks → a.positions ≡ b.positions → a.kept ≡ b.kept → a ≡ b
same_cut a b m p k =
    let with_marks : List Mark → CutForm = λ x. record { marks = x; positions = a.positions; kept = a.kept } in
    let with_positions : List ℕ → CutForm = λ x. record { marks = b.marks; positions = x; kept = a.kept } in
    let with_kept : List ℕ → CutForm = λ x. record { marks = b.marks; positions = b.positions; kept = x } in
    ap with_marks m ∙ ap with_positions p ∙ ap with_kept k

drop_zero : (l : List Bool) → drop 0 l ≡ l
drop_zero [] = refl
drop_zero (b ∷ l) = refl

no_more : (rest : PlainTrees) → count rest ≡ 0 → rest ≡ PlainTrees.none
no_more PlainTrees.none e = refl
no_more (PlainTrees.next t ts) e = absurd (omega (arith, e))

-- a numbered tree and those after it have rising numbers
pub first_rises : (position : ℕ) (t : PlainTree) (ts : PlainTrees) → renumbered_all position (PlainTrees.next t ts) ≡ PlainTrees.next t ts
    → Rises position (position + size t) t × RiseAll (position + size t) (position + size t + size_all ts) ts
first_rises position t ts e =
    let first : renumbered position t ≡ t = cc in
    let later : renumbered_all (position + size t) ts ≡ ts = cc in
    (rises_from position (position + size t) t first refl, rise_from (position + size t) (position + size t + size_all ts) ts later refl)

-- the flag at an index
pub flag_known : (flags : List Bool) (k : ℕ) (d b : Bool) → slice_index_or flags k d ≡ b → k < length flags → slice_get flags k ≡ Some b
flag_known flags k d b e lt = slice_get-get_or flags k d lt ∙ ap Some e

-- So many children are still to be gone through.
abbrev pub IsKeeping : (tree : SyntaxTree) (c : CutForm) (list : ℕ) (keep : List Bool) → CanSelect tree.form (cut_tree tree c) list keep → ℕ → CutForm
    → Progress → Type 0
IsKeeping tree c list keep can remaining now p = (rest : PlainTrees) × (count rest ≡ remaining) × IsKeptSoFar tree c list keep can rest now p

module _ (tree : SyntaxTree) (laws : TreeLaws) (are : AreNodesOf tree.form tree.start tree.nodes (whole tree)) (c : CutForm) (list : ℕ) (keep : List Bool)
    (can : CanSelect tree.form (cut_tree tree c) list keep) where
  -- the list with these elements
  abbrev list_of : PlainTrees → PlainTree
  list_of us = PlainTree.node list can.rule can.alt us

  module _ (t : PlainTree) (ts : PlainTrees) (now : CutForm) (p : Progress) (so : IsKeptSoFar tree c list keep can (PlainTrees.next t ts) now p) where
    pub here : (p.position < length now.marks) × (p.position < length tree.nodes)
    here =
        let within = position_within tree laws are so.cut so.of p.position t ts so.rest_is in
        (subst (λ (l : List Mark). p.position < length l) so.marks within.0, within.1)

    pub marks_rise : ReplacementsRise now.marks
    marks_rise = subst (λ (l : List Mark). ReplacementsRise l) so.marks (replacements_rise tree laws are so.cut so.of)

    rest_after : (x : PlainTree) (q : ℕ) → subtree p.position (whole tree) ≡ Some x → q ≡ p.position + size x → IsRest (whole tree) q ts
    rest_after x q e is =
        let next = rest_next (whole tree) p.position t ts so.rest_is in
        let same : t ≡ x = same_Some t x (sym next.1 ∙ e) in
        subst (λ (n : ℕ). IsRest (whole tree) n ts) (ap (λ (v : PlainTree). p.position + size v) same ∙ sym is) next.2

    left_here : (o : Option ℕ) → IsOccupant now.marks p.position o → option_map number_of (left_at so.cut.marks (number_of t) t) ≡ o
    left_here o at =
        let next = rest_next (whole tree) p.position t ts so.rest_is in
        let own : left_at so.cut.marks p.position (whole tree) ≡ left_at so.cut.marks (number_of t) t =
        left_below so.cut.marks 0 (size (whole tree)) (whole tree) (whole_rises tree laws are) p.position p.position t t next.1
        (subtree_own p.position t next.0) ∙ ap (λ (q : ℕ). left_at so.cut.marks q t) (sym next.0) in
        ap (option_map number_of) (sym own)
        ∙ occupant_is tree laws are so.cut so.of p.position o (subst (λ (l : List Mark). IsOccupant l p.position o) (sym so.marks) at) t next.1

    -- no element is at the position
    pub passes_none : IsOccupant now.marks p.position None → (x : PlainTree) (q : ℕ) → subtree p.position (whole tree) ≡ Some x → q ≡ p.position + size x →
        IsKeptSoFar tree c list keep can ts now (record { position = q; elements = p.elements; gap = p.gap })
    passes_none at x q e is = record {
      cut = so.cut;
      done = so.done;
      ahead = so.ahead;
      back = so.back;
      of = so.of;
      marks = so.marks;
      positions = so.positions;
      kept = so.kept;
      node = so.node;
      tree_is = so.tree_is;
      rest_is = rest_after x q e is;
      ahead_is =
          ap (λ (o : Option PlainTree). or_next o (left_of_each so.cut.marks ts))
          (sym (none_numbered (left_at so.cut.marks (number_of t) t) (left_here None at))) ∙ so.ahead_is;
      selected = so.selected;
      flags = so.flags;
      next = so.next;
      gap = so.gap;
      within = so.within;
    }

    -- An element is at the position.
    module _ (n : ℕ) (at : IsOccupant now.marks p.position (Some n)) where
      pub element : (u : PlainTree) × (left_at so.cut.marks (number_of t) t ≡ Some u) × (number_of u ≡ n)
      element = one_numbered (left_at so.cut.marks (number_of t) t) n (left_here (Some n) at)

      abbrev u : PlainTree
      u = element.0

      abbrev later : PlainTrees
      later = left_of_each so.cut.marks ts

      abbrev tokens_later : List ℕ
      tokens_later = of_leaves_all (λ k i. i) later ++ so.back

      ahead : so.ahead ≡ PlainTrees.next u later
      ahead = sym so.ahead_is ∙ ap (λ (o : Option PlainTree). or_next o later) element.1

      node : subtree list (cut_tree tree so.cut) ≡ Some (list_of (with_trees_after so.done (PlainTrees.next u later)))
      node = so.node ∙ ap (λ (us : PlainTrees). Some (list_of (with_trees_after so.done us))) ahead

      rising : RiseAll (list + 1) (size (whole tree)) (with_trees_after so.done (PlainTrees.next u later))
      rising =
          (subtree_within 0 (size (whole tree)) (cut_tree tree so.cut) (tree_rises tree laws are so.cut so.of) list
          (list_of (with_trees_after so.done (PlainTrees.next u later))) node).1.1

      found : subtree n (cut_tree tree so.cut) ≡ Some u
      found =
          let children = after_found (list + 1) (size (whole tree)) so.done u later rising in
          let within = found_among_within (list + 1) (size (whole tree)) (with_trees_after so.done (PlainTrees.next u later)) rising (number_of u) u children in
          let below : subtree (number_of u) (list_of (with_trees_after so.done (PlainTrees.next u later))) ≡ Some u =
          subtree_below (number_of u) list can.rule can.alt (with_trees_after so.done (PlainTrees.next u later))
          (λ (e : list ≡ number_of u). omega (arith, e, within)) ∙ children in
          subst (λ (m : ℕ). subtree m (cut_tree tree so.cut) ≡ Some u) element.2
          (deeper_found 0 (size (whole tree)) (cut_tree tree so.cut) (tree_rises tree laws are so.cut so.of) list (number_of u)
          (list_of (with_trees_after so.done (PlainTrees.next u later))) u node below)

      facts : NodeFacts tree so.cut n u
      facts = node_facts tree laws are so.cut so.of n u found

      pub mark_here : n < length now.marks
      mark_here = subst (λ (l : List Mark). n < length l) so.marks facts.mark

      pub node_here : n < length tree.nodes
      node_here = facts.node

      pub tokens_rise : IsStrictlyIncreasing (drop p.gap.to now.kept)
      tokens_rise = rises_after (take p.gap.from now.kept) (drop p.gap.to now.kept) (subst (λ (l : List ℕ). IsStrictlyIncreasing l) so.kept facts.rising)

      pub flag_here : p.elements < length keep
      flag_here =
          let flags = so.flags in
          let many = ap count ahead in
          omega (arith, flags, many)

      tokens : drop p.gap.to now.kept ≡ leaves u ++ tokens_later
      tokens =
          so.next ∙ ap (λ (us : PlainTrees). of_leaves_all (λ k i. i) us ++ so.back) ahead ∙ append_assoc (leaves u) (of_leaves_all (λ k i. i) later) so.back

      all_tokens : leaves (cut_tree tree so.cut) ≡ take p.gap.from now.kept ++ (leaves u ++ tokens_later)
      all_tokens = sym so.of.kept ∙ so.kept ∙ ap (λ (l : List ℕ). take p.gap.from now.kept ++ l) tokens

      -- its tokens are the next ones
      pub counted : (y : Node) (m : ℕ) → slice_get tree.nodes n ≡ Some y → m ≡ length (within y.first y.end (drop p.gap.to now.kept)) → length (leaves u) ≡ m
      counted y m e is =
          let span = laws.leaves_in_span tree are (cut_tree tree so.cut) u n y so.of.part found e in
          sym
          (is ∙ ap (λ (l : List ℕ). length (within y.first y.end l)) tokens
          ∙ as_many (is_within y.first y.end) (take p.gap.from now.kept) (leaves u) tokens_later
          (span.inside ∙ ap (filter (is_within y.first y.end)) all_tokens))

      pub long_enough : (y : Node) (m : ℕ) → slice_get tree.nodes n ≡ Some y → m ≡ length (within y.first y.end (drop p.gap.to now.kept))
          → p.gap.to + m ≤ length now.kept
      long_enough y m e is =
          let many = counted y m e is in
          let rest = length-drop p.gap.to now.kept in
          let long = ap length tokens ∙ length-append (leaves u) tokens_later in
          let to = so.within in
          omega (arith, many, rest, long, to)

      after_tokens : (m : ℕ) → length (leaves u) ≡ m → drop (p.gap.to + m) now.kept ≡ tokens_later
      after_tokens m many = sym (drop-drop m p.gap.to now.kept) ∙ ap (drop m) tokens ∙ drop_at (leaves u) tokens_later m many

      more_flags : length keep ≡ (p.elements + 1) + count later
      more_flags =
          let flags = so.flags in
          let many = ap count ahead in
          omega (arith, flags, many)

      selected_so : selected_trees keep can.elements ≡ with_trees_after so.done (selected_trees (drop p.elements keep) (PlainTrees.next u later))
      selected_so = so.selected ∙ ap (λ (us : PlainTrees). with_trees_after so.done (selected_trees (drop p.elements keep) us)) ahead

      -- the element is kept
      pub passes_kept : (x : PlainTree) (q : ℕ) (y : Node) (m : ℕ) (after : CutForm) (gap : Gap) → subtree p.position (whole tree) ≡ Some x
          → q ≡ p.position + size x → slice_get tree.nodes n ≡ Some y →
          m ≡ length (within y.first y.end (drop p.gap.to now.kept)) → slice_get keep p.elements ≡ Some true → after.marks ≡ now.marks
          → after.positions ≡ now.positions → gap.from ≡ p.gap.from + m → gap.to ≡ p.gap.to + m →
          take (p.gap.from + m) after.kept ≡ take p.gap.from now.kept ++ take m (drop p.gap.to now.kept)
          → drop (p.gap.to + m) after.kept ≡ drop (p.gap.to + m) now.kept → length after.kept ≡ length now.kept →
          IsKeptSoFar tree c list keep can ts after (record { position = q; elements = p.elements + 1; gap = gap })
      passes_kept x q y m after gap e is ye me flag marks positions from to stay next len =
          let many = counted y m ye me in
          let A : List ℕ = take p.gap.from now.kept in
          let front : take gap.from after.kept ≡ A ++ leaves u =
          ap (λ (i : ℕ). take i after.kept) from ∙ stay ∙ ap (λ (l : List ℕ). A ++ l) (ap (take m) tokens ∙ take_at (leaves u) tokens_later m many) in
          let rest : drop gap.to after.kept ≡ tokens_later = ap (λ (i : ℕ). drop i after.kept) to ∙ next ∙ after_tokens m many in
          record {
            cut = so.cut;
            done = with_trees_after so.done (PlainTrees.next u PlainTrees.none);
            ahead = later;
            back = so.back;
            of = so.of;
            marks = so.marks ∙ sym marks;
            positions = so.positions ∙ sym positions;
            kept =
                so.kept ∙ ap (λ (l : List ℕ). A ++ l) tokens ∙ sym (append_assoc A (leaves u) tokens_later) ∙ ap (λ (l : List ℕ). l ++ tokens_later) (sym front)
                ∙ ap (λ (l : List ℕ). take gap.from after.kept ++ l) (sym rest);
            node = node ∙ ap (λ (us : PlainTrees). Some (list_of us)) (sym (after_more so.done u later));
            tree_is =
                so.tree_is ∙ ap (λ (us : PlainTrees). with_subtree list (list_of us) (cut_tree tree c))
                (ap (with_trees_after so.done) ahead ∙ sym (after_more so.done u later));
            rest_is = rest_after x q e is;
            ahead_is = refl;
            selected =
                selected_so ∙ ap (λ (l : List Bool). with_trees_after so.done (selected_trees l (PlainTrees.next u later)))
                (next_flag keep p.elements true flag) ∙ sym (after_more so.done u (selected_trees (drop (p.elements + 1) keep) later));
            flags = more_flags;
            next = rest;
            gap = (let g = so.gap in omega (arith, from, to, g));
            within = (let long = long_enough y m ye me in omega (arith, long, to, len));
          }

      -- the element is deleted
      module _ (y : Node) (ye : slice_get tree.nodes n ≡ Some y) (flag : slice_get keep p.elements ≡ Some false) where
        abbrev cut' : CutForm
        cut' = record { marks = slice_set so.cut.marks n Deleted; positions = so.cut.positions; kept = before y.first so.cut.kept ++ from_on y.end so.cut.kept }

        did : HasDeleted tree so.cut cut' n
        did =
            record {
              marks = refl;
              positions = refl;
              kept = λ x e. ap (λ (z : Node). before z.first so.cut.kept ++ from_on z.end so.cut.kept) (same_Some y x (sym ye ∙ e));
            }

        selected_later : selected_trees keep can.elements ≡ with_trees_after so.done (selected_trees (drop (p.elements + 1) keep) later)
        selected_later =
            selected_so ∙ ap (λ (l : List Bool). with_trees_after so.done (selected_trees l (PlainTrees.next u later))) (next_flag keep p.elements false flag)

        enough : Contains keep true → 2 ≤ count (with_trees_after so.done (PlainTrees.next u later))
        enough has =
            let some = some_selected keep can.elements has can.each in
            let parts = ap count selected_later in
            let both = after_count so.done (selected_trees (drop (p.elements + 1) keep) later) in
            let few = selected_count (drop (p.elements + 1) keep) later in
            let all = after_count so.done (PlainTrees.next u later) in
            omega (arith, some, parts, both, few, all)

        can_delete : CanDelete tree.form (cut_tree tree so.cut) list n
        can_delete = record {
          rule = can.rule;
          alt = can.alt;
          elements = with_trees_after so.done (PlainTrees.next u later);
          symbol = can.symbol;
          node = node;
          is_list = elim can.is_list [ inl star ↦ inl star | inr plus ↦ inr (plus.0, enough plus.1) ];
          is_element = subst (λ (m : ℕ). Contains (roots (with_trees_after so.done (PlainTrees.next u later))) m) element.2 (after_has so.done u later);
        }

        deleted_both : HasChildren list (without n) (cut_tree tree so.cut) (cut_tree tree cut') × IsCutOf tree cut'
        deleted_both = element_deleted tree laws are so.cut so.of cut' list n can_delete did

        tree_after : cut_tree tree cut' ≡ with_subtree list (list_of (with_trees_after so.done later)) (cut_tree tree so.cut)
        tree_after =
            deleted_both.0 can.rule can.alt (with_trees_after so.done (PlainTrees.next u later)) node
            ∙ ap (λ (us : PlainTrees). with_subtree list (list_of us) (cut_tree tree so.cut))
            (ap (λ (m : ℕ). without m (with_trees_after so.done (PlainTrees.next u later))) (sym element.2)
            ∙ after_without (list + 1) (size (whole tree)) so.done u later rising)

        same_later : left_of_each cut'.marks ts ≡ later
        same_later =
            let rises = first_rises p.position t ts so.rest_is.numbered in
            let low : ℕ = p.position + size t in
            let high : ℕ = p.position + size t + size_all ts in
            let own = number_within p.position low u (left_rises so.cut.marks p.position low t rises.0 (number_of t) u element.1) in
            let number = element.2 in
            let there : (x : PlainTree) → subtree_among n ts ≡ Some x → left_at cut'.marks n x ≡ None =
            λ x e. absurd (let within = found_among_within low high ts rises.1 n x e in omega (arith, within, own, number)) in
            left_of_each_edited so.cut.marks cut'.marks n None (λ m other. get_or-set_other so.cut.marks n m Deleted Kept other)
            (node_was tree laws are so.cut so.of n u found).1 low high ts rises.1 there
            ∙ edited_all_outside n None low high later (each_rises so.cut.marks low high ts rises.1) (inl (omega (arith, own, number)))

        kept_after : cut'.kept ≡ take p.gap.from now.kept ++ tokens_later
        kept_after =
            let all : List ℕ = leaves (cut_tree tree so.cut) in
            let span = laws.leaves_in_span tree are (cut_tree tree so.cut) u n y so.of.part found ye in
            let two : all ≡ filter (λ i. nat_lt i y.first) all ++ (leaves u ++ filter (λ i. nat_le y.end i) all) = span.all ∙ (simp append_assoc) in
            ap (λ (l : List ℕ). before y.first l ++ from_on y.end l) so.of.kept
            ∙ sym (apart_again (is_within y.first y.end) (take p.gap.from now.kept) (leaves u) tokens_later (before y.first all)
            (from_on y.end all) all span.inside all_tokens two)

        pub passes_deleted : (x : PlainTree) (q m : ℕ) (after : CutForm) (gap : Gap) → subtree p.position (whole tree) ≡ Some x → q ≡ p.position + size x
            → m ≡ length (within y.first y.end (drop p.gap.to now.kept)) →
            after.marks ≡ slice_set now.marks n Deleted → after.positions ≡ now.positions → after.kept ≡ now.kept → gap.from ≡ p.gap.from
            → gap.to ≡ p.gap.to + m →
            IsKeptSoFar tree c list keep can ts after (record { position = q; elements = p.elements + 1; gap = gap })
        passes_deleted x q m after gap e is me marks positions kept from to =
            let many = counted y m ye me in
            let front : take gap.from after.kept ≡ take p.gap.from now.kept = ap (λ (i : ℕ). take i after.kept) from ∙ ap (take p.gap.from) kept in
            let rest : drop gap.to after.kept ≡ tokens_later = ap (λ (i : ℕ). drop i after.kept) to ∙ ap (drop (p.gap.to + m)) kept ∙ after_tokens m many in
            record {
              cut = cut';
              done = so.done;
              ahead = later;
              back = so.back;
              of = deleted_both.1;
              marks = ap (λ (l : List Mark). slice_set l n Deleted) so.marks ∙ sym marks;
              positions = so.positions ∙ sym positions;
              kept = kept_after ∙ ap (λ (l : List ℕ). l ++ tokens_later) (sym front) ∙ ap (λ (l : List ℕ). take gap.from after.kept ++ l) (sym rest);
              node = ap (subtree list) tree_after
                  ∙ found_with list (list_of (with_trees_after so.done later)) refl 0 (size (whole tree)) (cut_tree tree so.cut)
                  (tree_rises tree laws are so.cut so.of) (list_of (with_trees_after so.done (PlainTrees.next u later))) node;
              tree_is =
                  tree_after ∙ ap (with_subtree list (list_of (with_trees_after so.done later))) so.tree_is
                  ∙ with_again list (list_of (with_trees_after so.done so.ahead)) refl (list_of (with_trees_after so.done later)) (cut_tree tree c);
              rest_is = rest_after x q e is;
              ahead_is = same_later;
              selected = selected_later;
              flags = more_flags;
              next = rest;
              gap = (let g = so.gap in omega (arith, from, to, g));
              within = (let long = long_enough y m ye me in let same = ap length kept in omega (arith, long, to, same));
            }

  pub can_pass : (remaining : ℕ) (now : CutForm) (p : Progress) → IsKeeping tree c list keep can remaining now p → 0 < remaining → CanPass tree keep now p
  can_pass remaining now p is some =
      let many = is.1 in
      let first = some_first is.0 (omega (arith, many, some)) in
      (c, list, can, first.0, first.1, subst (λ (us : PlainTrees). IsKeptSoFar tree c list keep can us now p) first.2 is.2)

  pub passed : (remaining : ℕ) (now after : CutForm) (p q : Progress) → IsKeeping tree c list keep can remaining now p → 0 < remaining
      → HasPassed tree keep now p after q → IsKeeping tree c list keep can (remaining - 1) after q
  passed remaining now after p q is some passes =
      let many = is.1 in
      let first = some_first is.0 (omega (arith, many, some)) in
      let next = ap count first.2 in (
        first.1,
        omega (arith, many, next, some),
        passes c list can first.0 first.1 (subst (λ (us : PlainTrees). IsKeptSoFar tree c list keep can us now p) first.2 is.2),
      )

  module _ (of : IsCutOf tree c) where
    -- no child is gone through
    pub keeping_begins : (x : Node) (p : Progress) → slice_get tree.nodes list ≡ Some x → p.position ≡ list + 1 → p.elements ≡ 0 → p.gap.to ≡ p.gap.from
        → IsSplitAt c.kept x.first p.gap.from → IsKeeping tree c list keep can x.children c p
    keeping_begins x p at position elements gap split =
        let begin = children_begin tree laws are c of list (list_of can.elements) can.node in
        let entry = laws.nodes_are_subtrees tree are list x at in
        let same : entry.0 ≡ begin.0 = same_Some entry.0 begin.0 (sym entry.1.subtree_is ∙ begin.1) in
        let all : List ℕ = leaves (cut_tree tree c) in
        let span = laws.leaves_in_span tree are (cut_tree tree c) (list_of can.elements) list x of.part can.node at in
        let two : all ≡ filter (λ i. nat_lt i x.first) all ++ (leaves (list_of can.elements) ++ filter (λ i. nat_le x.end i) all) =
        span.all ∙ (simp append_assoc) in
        let rest : List ℕ = of_leaves_all (λ k i. i) can.elements ++ from_on x.end all in
        let parts : c.kept ≡ before x.first all ++ rest = of.kept ∙ two in
        let front : before x.first all ≡ take p.gap.from c.kept = ap (before x.first) (sym of.kept) ∙ sym (take_is c.kept x.first p.gap.from split) in
        let long : length (before x.first all) ≡ p.gap.from = ap length front ∙ length-take-le p.gap.from c.kept split.among in (
          children_of begin.0,
          ap (λ (t : PlainTree). count (children_of t)) (sym same) ∙ sym entry.1.children,
          record {
            cut = c;
            done = PlainTrees.none;
            ahead = can.elements;
            back = from_on x.end all;
            of = of;
            marks = refl;
            positions = refl;
            kept = sym (take-append-drop p.gap.from c.kept) ∙ ap (λ (i : ℕ). take p.gap.from c.kept ++ drop i c.kept) (sym gap);
            node = can.node;
            tree_is = sym (with_itself 0 (size (whole tree)) (cut_tree tree c) (tree_rises tree laws are c of) list (list_of can.elements) can.node);
            rest_is = subst (λ (n : ℕ). IsRest (whole tree) n (children_of begin.0)) (sym position) begin.2;
            ahead_is = sym begin.3;
            selected =
                ap (λ (l : List Bool). selected_trees l can.elements) (sym (drop_zero keep))
                ∙ ap (λ (i : ℕ). selected_trees (drop i keep) can.elements) (sym elements);
            flags = (let each = can.each in omega (arith, each, elements));
            next = ap (λ (i : ℕ). drop i c.kept) gap ∙ ap (drop p.gap.from) parts ∙ drop_at (before x.first all) rest p.gap.from long;
            gap = omega (arith, gap);
            within = (let most = split.among in omega (arith, gap, most));
          },
        )

    pub keeping_begins_at : (nodes : List Node) (d : Node) (p : Progress) → nodes ≡ tree.nodes → list < length tree.nodes → p.position ≡ list + 1
        → p.elements ≡ 0 → p.gap.to ≡ p.gap.from →
        ((x : Node) → slice_get tree.nodes list ≡ Some x → IsSplitAt c.kept x.first p.gap.from)
        → IsKeeping tree c list keep can (slice_index_or nodes list d).children c p
    keeping_begins_at nodes d p same lt position elements gap split =
        let at = index_is tree.nodes nodes list d same lt in
        keeping_begins (slice_index_or nodes list d) p at position elements gap (split (slice_index_or nodes list d) at)

    -- all children are gone through, and the gap is closed
    pub keeping_ends : (remaining : ℕ) (now after : CutForm) (p : Progress) → IsKeeping tree c list keep can remaining now p → remaining ≡ 0
        → after.marks ≡ now.marks → after.positions ≡ now.positions →
        after.kept ≡ take p.gap.from now.kept ++ drop p.gap.to now.kept → HasChildren list (selected_trees keep) (cut_tree tree c) (cut_tree tree after)
        × IsCutOf tree after
    keeping_ends remaining now after p is end marks positions kept =
        let so = is.2 in
        let same : so.cut ≡ after = same_cut so.cut after (so.marks ∙ sym marks) (so.positions ∙ sym positions) (so.kept ∙ sym kept) in
        let none : so.ahead ≡ PlainTrees.none = sym so.ahead_is ∙ ap (left_of_each so.cut.marks) (no_more is.0 (is.1 ∙ end)) in
        let all : selected_trees keep can.elements ≡ with_trees_after so.done so.ahead =
        so.selected ∙ ap (λ (us : PlainTrees). with_trees_after so.done (selected_trees (drop p.elements keep) us)) none
        ∙ ap (with_trees_after so.done) (selected_none (drop p.elements keep) ∙ sym none) in
        let tree_is : cut_tree tree so.cut ≡ with_subtree list (list_of (selected_trees keep can.elements)) (cut_tree tree c) =
        so.tree_is ∙ ap (λ (us : PlainTrees). with_subtree list (list_of us) (cut_tree tree c)) (sym all) in
        subst (λ (d : CutForm). HasChildren list (selected_trees keep) (cut_tree tree c) (cut_tree tree d) × IsCutOf tree d) same (
          λ r a ts e. renamed tree laws are c of list can.rule can.alt r a can.elements ts (selected_trees keep) (cut_tree tree c) (cut_tree tree so.cut)
              (sym can.node ∙ e) tree_is,
          so.of,
        )
