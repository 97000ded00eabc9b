-- Trees without some of their nodes.
use Rattle.std.proofs.Common.{◌≡◌, ◌⊎◌, inl, inr, ℕ, suc, ◌+◌, ◌<◌, ◌≤◌, List, [], ◌∷◌, ◌++◌, Option, Some, None, Bool}
use Rattle.std.proofs.Common.{true, false, nat_eq, refl, sym, ap, ◌∙◌, subst, arith, append_assoc}
use Rattle.std.specs.Prelude.{◌||◌, replicate, slice_get}
use Rattle.std.proofs.lemmas.Bool.{cases_Bool, cases_eq, cond-false, cond-true, eq-eqb, ne_eqb, false≢true}
use Rattle.std.proofs.lemmas.List.Folds.{list_any-append}
use Rattle.std.proofs.lemmas.Option.{none-some, same_Some}
use Rattle.normal_form.specs.declared.normal.Sym.{Sym}
use Rattle.normal_form.specs.Form.{RuleForm, NormalForm}
use Rattle.syntax_tree.specs.Trees.{PlainTree, PlainTrees, count, leaves, of_leaves_all}
use Rattle.syntax_tree.specs.Numbered.{number_of, subtree, subtree_among}
use Rattle.syntax_tree.specs.Valid.{slot_among, slot_at, slots_of, slots_of_form}
use Rattle.syntax_tree.specs.Left.{IsRemainderOf, AreRemaindersOf, leaf_left, node_left, none_left, kept, left_out}
use Rattle.std.specs.Option.{option_map_or}
use Rattle.syntax_tree_cut.specs.Cuts.{or_next}
use Rattle.syntax_tree_cut.specs.WithoutNodes.{AreElements, AreElementsOfAll, NoneAmong, form_loses, is_among, loses_children, without_nodes, without_nodes_all}
use Rattle.syntax_tree_cut.proofs.Rising.{Rises, RiseAll, bounds_rise, cases_or, found_among_within, found_within, not_found, number_within}
use Rattle.syntax_tree_cut.proofs.Rising.{or_first, or_second, rise_wider, subtree_below, subtree_own, when_equal, when_not}
use Rattle.syntax_tree_cut.proofs.EditedTrees.{edited, edited_all}
use Rattle.syntax_tree_cut.proofs.Deletions.{edited_own, no_slot, slot_among_there, slots_are}

pub number_without : (qs : List ℕ) (t : PlainTree) → number_of (without_nodes qs t) ≡ number_of t
number_without qs (PlainTree.leaf n k i) = refl
number_without qs (PlainTree.node n r a ts) = refl

-- the first of some trees is left out, or is kept
pub first_out : (qs : List ℕ) (t : PlainTree) (ts : PlainTrees) → is_among qs (number_of t) ≡ true
    → without_nodes_all qs (PlainTrees.next t ts) ≡ without_nodes_all qs ts
first_out qs t ts e = cond-true (is_among qs (number_of t)) (without_nodes_all qs ts) (PlainTrees.next (without_nodes qs t) (without_nodes_all qs ts)) e

pub first_kept : (qs : List ℕ) (t : PlainTree) (ts : PlainTrees) → is_among qs (number_of t) ≡ false
    → without_nodes_all qs (PlainTrees.next t ts) ≡ PlainTrees.next (without_nodes qs t) (without_nodes_all qs ts)
first_kept qs t ts e = cond-false (is_among qs (number_of t)) (without_nodes_all qs ts) (PlainTrees.next (without_nodes qs t) (without_nodes_all qs ts)) e

-- one number
pub is_the_one : (q n : ℕ) → n ≡ q → is_among (q ∷ []) n ≡ true
is_the_one q n e = ap (λ (b : Bool). b || false) (eq-eqb n q e)

pub is_not_the_one : (q n : ℕ) → (n ≡ q → ⊥) → is_among (q ∷ []) n ≡ false
is_not_the_one q n e = ap (λ (b : Bool). b || false) (ne_eqb n q e)

-- without nothing
mutual
  pub nothing_out : (t : PlainTree) → without_nodes [] t ≡ t
  nothing_out (PlainTree.leaf n k i) = refl
  nothing_out (PlainTree.node n r a ts) = ap (λ (us : PlainTrees). PlainTree.node n r a us) (nothing_out_all ts)

  pub nothing_out_all : (ts : PlainTrees) → without_nodes_all [] ts ≡ ts
  nothing_out_all PlainTrees.none = refl
  nothing_out_all (PlainTrees.next t ts) =
      ap (λ (u : PlainTree). PlainTrees.next u (without_nodes_all [] ts)) (nothing_out t) ∙ ap (λ (us : PlainTrees). PlainTrees.next t us) (nothing_out_all ts)

-- without some, and then without others
module _ (ps qs : List ℕ) where
  in_both : (n : ℕ) (b : Bool) → is_among ps n ≡ b → is_among (ps ++ qs) n ≡ (b || is_among qs n)
  in_both n b e = list_any-append (nat_eq n) ps qs ∙ ap (λ (c : Bool). c || is_among qs n) e

  mutual
    pub without_both : (t : PlainTree) → without_nodes qs (without_nodes ps t) ≡ without_nodes (ps ++ qs) t
    without_both (PlainTree.leaf n k i) = refl
    without_both (PlainTree.node n r a ts) = ap (λ (us : PlainTrees). PlainTree.node n r a us) (without_both_all ts)

    pub without_both_all : (ts : PlainTrees) → without_nodes_all qs (without_nodes_all ps ts) ≡ without_nodes_all (ps ++ qs) ts
    without_both_all PlainTrees.none = refl
    without_both_all (PlainTrees.next t ts) =
        elim (cases_Bool (is_among ps (number_of t))) [
          | inl out ↦ ap (without_nodes_all qs) (first_out ps t ts out) ∙ without_both_all ts ∙ sym (first_out (ps ++ qs) t ts (in_both (number_of t) true out))
          | inr stays ↦
              ap (without_nodes_all qs) (first_kept ps t ts stays)
              ∙ (elim (cases_Bool (is_among qs (number_of t))) [
                | inl out ↦
                    first_out qs (without_nodes ps t) (without_nodes_all ps ts) (ap (is_among qs) (number_without ps t) ∙ out)
                    ∙ without_both_all ts
                    ∙ sym (first_out (ps ++ qs) t ts (in_both (number_of t) false stays ∙ out))
                | inr neither ↦
                    first_kept qs (without_nodes ps t) (without_nodes_all ps ts) (ap (is_among qs) (number_without ps t) ∙ neither)
                    ∙ ap (λ (u : PlainTree). PlainTrees.next u (without_nodes_all qs (without_nodes_all ps ts))) (without_both t)
                    ∙ ap (λ (us : PlainTrees). PlainTrees.next (without_nodes (ps ++ qs) t) us) (without_both_all ts)
                    ∙ sym (first_kept (ps ++ qs) t ts (in_both (number_of t) false stays ∙ neither))
              ])
        ]

-- a node below the root deleted
mutual
  pub edited_without : (q : ℕ) (t : PlainTree) → (number_of t ≡ q → ⊥) → edited q None t ≡ Some (without_nodes (q ∷ []) t)
  edited_without q (PlainTree.leaf n k i) other = when_not n q None (Some (PlainTree.leaf n k i)) other
  edited_without q (PlainTree.node n r a ts) other =
      when_not n q None (Some (PlainTree.node n r a (edited_all q None ts))) other
      ∙ ap (λ (us : PlainTrees). Some (PlainTree.node n r a us)) (edited_without_all q ts)

  edited_without_all : (q : ℕ) (ts : PlainTrees) → edited_all q None ts ≡ without_nodes_all (q ∷ []) ts
  edited_without_all q PlainTrees.none = refl
  edited_without_all q (PlainTrees.next t ts) =
      elim (cases_eq (number_of t) q) [
        | inl same ↦
            ap (λ (x : Option PlainTree). or_next x (edited_all q None ts)) (edited_own q None t same)
            ∙ edited_without_all q ts
            ∙ sym (first_out (q ∷ []) t ts (is_the_one q (number_of t) same))
        | inr other ↦
            ap (λ (x : Option PlainTree). or_next x (edited_all q None ts)) (edited_without q t other)
            ∙ ap (λ (us : PlainTrees). PlainTrees.next (without_nodes (q ∷ []) t) us) (edited_without_all q ts)
            ∙ sym (first_kept (q ∷ []) t ts (is_not_the_one q (number_of t) other))
      ]

-- Of the numbers from one up to another there is none.
abbrev pub NoneFrom : List ℕ → ℕ → ℕ → Type 0
NoneFrom qs low high = (n : ℕ) → low ≤ n → n < high → is_among qs n ≡ false

pub one_outside : (q low high : ℕ) → (q < low) ⊎ (high ≤ q) → NoneFrom (q ∷ []) low high
one_outside q low high out n le lt =
    is_not_the_one q n (λ (e : n ≡ q). elim out [ inl below ↦ omega (arith, e, below, le) | inr above ↦ omega (arith, e, above, lt) ])

-- a tree below whose root there is none of the numbers is as it was
mutual
  pub without_others : (qs : List ℕ) (low high : ℕ) (t : PlainTree) → Rises low high t → NoneFrom qs (number_of t + 1) high → without_nodes qs t ≡ t
  without_others qs low high (PlainTree.leaf n k i) h none = refl
  without_others qs low high (PlainTree.node n r a ts) h none =
      ap (λ (us : PlainTrees). PlainTree.node n r a us) (without_others_all qs (n + 1) high ts h.1 none)

  pub without_others_all : (qs : List ℕ) (low high : ℕ) (ts : PlainTrees) → RiseAll low high ts → NoneFrom qs low high → without_nodes_all qs ts ≡ ts
  without_others_all qs low high PlainTrees.none h none = refl
  without_others_all qs low high (PlainTrees.next t ts) h none =
      let own = number_within low h.0 t h.1 in
      let rest = bounds_rise h.0 high ts h.2 in
      first_kept qs t ts (none (number_of t) own.0 (omega (arith, own, rest)))
      ∙ ap (λ (u : PlainTree). PlainTrees.next u (without_nodes_all qs ts))
      (without_others qs low h.0 t h.1 (λ n le lt. none n (omega (arith, le, own)) (omega (arith, lt, rest))))
      ∙ ap (λ (us : PlainTrees). PlainTrees.next t us) (without_others_all qs h.0 high ts h.2 (λ n le lt. none n (omega (arith, le, own)) lt))

pub without_outside : (q low high : ℕ) (t : PlainTree) → Rises low high t → (q < low) ⊎ (high ≤ q) → without_nodes (q ∷ []) t ≡ t
without_outside q low high t h out =
    let own = number_within low high t h in
    without_others (q ∷ []) low high t h (one_outside q (number_of t + 1) high
    (elim out [ inl below ↦ inl (omega (arith, below, own)) | inr above ↦ inr above ]))

-- the numbers rise as before
mutual
  pub without_rises : (qs : List ℕ) (low high : ℕ) (t : PlainTree) → Rises low high t → Rises low high (without_nodes qs t)
  without_rises qs low high (PlainTree.leaf n k i) h = h
  without_rises qs low high (PlainTree.node n r a ts) h = (h.0, without_rise qs (n + 1) high ts h.1)

  pub without_rise : (qs : List ℕ) (low high : ℕ) (ts : PlainTrees) → RiseAll low high ts → RiseAll low high (without_nodes_all qs ts)
  without_rise qs low high PlainTrees.none h = h
  without_rise qs low high (PlainTrees.next t ts) h =
      let own = number_within low h.0 t h.1 in
      elim (cases_Bool (is_among qs (number_of t))) [
        | inl out ↦
            subst (λ us. RiseAll low high us) (sym (first_out qs t ts out))
            (rise_wider h.0 high low high (without_nodes_all qs ts) (omega (arith, own)) (omega arith) (without_rise qs h.0 high ts h.2))
        | inr stays ↦ subst (λ us. RiseAll low high us) (sym (first_kept qs t ts stays)) (h.0, without_rises qs low h.0 t h.1, without_rise qs h.0 high ts h.2)
      ]

-- it is what edits can leave
mutual
  pub without_left : (qs : List ℕ) (t : PlainTree) → IsRemainderOf t (without_nodes qs t)
  without_left qs (PlainTree.leaf n k i) = leaf_left n k i
  without_left qs (PlainTree.node n r a ts) = node_left n r a ts (without_nodes_all qs ts) (without_left_all qs ts)

  pub without_left_all : (qs : List ℕ) (ts : PlainTrees) → AreRemaindersOf ts (without_nodes_all qs ts)
  without_left_all qs PlainTrees.none = none_left
  without_left_all qs (PlainTrees.next t ts) =
      elim (cases_Bool (is_among qs (number_of t))) [
        | inl out ↦ subst (λ us. AreRemaindersOf (PlainTrees.next t ts) us) (sym (first_out qs t ts out))
            (left_out t ts (without_nodes_all qs ts) (without_left_all qs ts))
        | inr stays ↦
            subst (λ us. AreRemaindersOf (PlainTrees.next t ts) us) (sym (first_kept qs t ts stays))
            (kept t (without_nodes qs t) ts (without_nodes_all qs ts) (without_left qs t) (without_left_all qs ts))
      ]

leaf_found : (n k i q : ℕ) (v : PlainTree) → (n ≡ q → ⊥) → subtree q (PlainTree.leaf n k i) ≡ Some v → ⊥
leaf_found n k i q v other e = none-some v (sym (when_not n q (Some (PlainTree.leaf n k i)) None other) ∙ e)

-- What is deleted of the leaves: those of the node v, which are between others.
pub record LosesLeaves (all gone left : List ℕ) : Type 0 where
  pub front : List ℕ
  pub back : List ℕ
  pub before : all ≡ front ++ (gone ++ back)
  pub after : left ≡ front ++ back

loses_first : (all gone left more : List ℕ) → LosesLeaves all gone left → LosesLeaves (all ++ more) gone (left ++ more)
loses_first all gone left more l = record {
  front = l.front;
  back = l.back ++ more;
  before =
      ap (λ (x : List ℕ). x ++ more) l.before ∙ append_assoc l.front (gone ++ l.back) more ∙ ap (λ (x : List ℕ). l.front ++ x) (append_assoc gone l.back more);
  after = ap (λ (x : List ℕ). x ++ more) l.after ∙ append_assoc l.front l.back more;
}

loses_later : (all gone left more : List ℕ) → LosesLeaves all gone left → LosesLeaves (more ++ all) gone (more ++ left)
loses_later all gone left more l = record {
  front = more ++ l.front;
  back = l.back;
  before = ap (λ (x : List ℕ). more ++ x) l.before ∙ sym (append_assoc more l.front (gone ++ l.back));
  after = ap (λ (x : List ℕ). more ++ x) l.after ∙ sym (append_assoc more l.front l.back);
}

abbrev tokens_of : PlainTrees → List ℕ
tokens_of ts = of_leaves_all (λ k i. i) ts

mutual
  pub loses_leaves : (q low high : ℕ) (t v : PlainTree) → Rises low high t → (number_of t ≡ q → ⊥) → subtree q t ≡ Some v
      → LosesLeaves (leaves t) (leaves v) (leaves (without_nodes (q ∷ []) t))
  loses_leaves q low high (PlainTree.leaf n k i) v h other e = absurd (leaf_found n k i q v other e)
  loses_leaves q low high (PlainTree.node n r a ts) v h other e = loses_leaves_all q (n + 1) high ts v h.1 (sym (subtree_below q n r a ts other) ∙ e)

  pub loses_leaves_all : (q low high : ℕ) (ts : PlainTrees) (v : PlainTree) → RiseAll low high ts → subtree_among q ts ≡ Some v
      → LosesLeaves (tokens_of ts) (leaves v) (tokens_of (without_nodes_all (q ∷ []) ts))
  loses_leaves_all q low high PlainTrees.none v h e = absurd (none-some v e)
  loses_leaves_all q low high (PlainTrees.next t ts) v h e =
      elim (cases_or (subtree q t) (subtree_among q ts) v e) [
        | inl found ↦
            let at = found_within low h.0 t h.1 q v found in
            let rest : without_nodes_all (q ∷ []) ts ≡ ts = without_others_all (q ∷ []) h.0 high ts h.2 (one_outside q h.0 high (inl at.1)) in
            elim (cases_eq (number_of t) q) [
              | inl same ↦
                  let is : t ≡ v = same_Some t v (sym (subtree_own q t same) ∙ found) in
                  record {
                    front = [];
                    back = tokens_of ts;
                    before = ap (λ (x : PlainTree). leaves x ++ tokens_of ts) is;
                    after = ap tokens_of (first_out (q ∷ []) t ts (is_the_one q (number_of t) same) ∙ rest);
                  }
              | inr other ↦
                  subst (λ us. LosesLeaves (leaves t ++ tokens_of ts) (leaves v) (tokens_of us))
                  (sym (first_kept (q ∷ []) t ts (is_not_the_one q (number_of t) other)
                  ∙ ap (λ (us : PlainTrees). PlainTrees.next (without_nodes (q ∷ []) t) us) rest))
                  (loses_first (leaves t) (leaves v) (leaves (without_nodes (q ∷ []) t)) (tokens_of ts) (loses_leaves q low h.0 t v h.1 other found))
            ]
        | inr both ↦
            let at = found_among_within h.0 high ts h.2 q v both.1 in
            let own = number_within low h.0 t h.1 in
            subst (λ us. LosesLeaves (leaves t ++ tokens_of ts) (leaves v) (tokens_of us))
            (sym (first_kept (q ∷ []) t ts (is_not_the_one q (number_of t) (λ (f : number_of t ≡ q). omega (arith, f, at, own)))
            ∙ ap (λ (u : PlainTree). PlainTrees.next u (without_nodes_all (q ∷ []) ts)) (without_outside q low h.0 t h.1 (inr at.0))))
            (loses_later (tokens_of ts) (leaves v) (tokens_of (without_nodes_all (q ∷ []) ts)) (leaves t) (loses_leaves_all q h.0 high ts v h.2 both.1))
      ]

-- A later node q that isn't in the node p, which is deleted, stays as it is.
module _ (p q : ℕ) (v u : PlainTree) (less : p < q) (apart : subtree q v ≡ None) where
  mutual
    pub later_stays : (low high : ℕ) (t : PlainTree) → Rises low high t → (number_of t ≡ p → ⊥) → subtree p t ≡ Some v → subtree q t ≡ Some u
        → subtree q (without_nodes (p ∷ []) t) ≡ Some u
    later_stays low high (PlainTree.leaf n k i) h other e f = absurd (leaf_found n k i p v other e)
    later_stays low high (PlainTree.node n r a ts) h other e f =
        let below : subtree_among p ts ≡ Some v = sym (subtree_below p n r a ts other) ∙ e in
        let at = found_among_within (n + 1) high ts h.1 p v below in
        let after : n ≡ q → ⊥ = λ g. omega (arith, g, at, less) in
        subtree_below q n r a (without_nodes_all (p ∷ []) ts) after ∙ later_stays_among (n + 1) high ts h.1 below (sym (subtree_below q n r a ts after) ∙ f)

    later_stays_among : (low high : ℕ) (ts : PlainTrees) → RiseAll low high ts → subtree_among p ts ≡ Some v → subtree_among q ts ≡ Some u
        → subtree_among q (without_nodes_all (p ∷ []) ts) ≡ Some u
    later_stays_among low high PlainTrees.none h e f = absurd (none-some v e)
    later_stays_among low high (PlainTrees.next t ts) h e f =
        elim (cases_or (subtree p t) (subtree_among p ts) v e) [
          | inl found ↦
              let at = found_within low h.0 t h.1 p v found in
              let rest : without_nodes_all (p ∷ []) ts ≡ ts = without_others_all (p ∷ []) h.0 high ts h.2 (one_outside p h.0 high (inl at.1)) in
              elim (cases_eq (number_of t) p) [
                | inl same ↦
                    let is : t ≡ v = same_Some t v (sym (subtree_own p t same) ∙ found) in
                    ap (subtree_among q) (first_out (p ∷ []) t ts (is_the_one p (number_of t) same) ∙ rest)
                    ∙ sym (or_second (subtree q t) (subtree_among q ts) (ap (subtree q) is ∙ apart))
                    ∙ f
                | inr other ↦
                    ap (subtree_among q) (first_kept (p ∷ []) t ts (is_not_the_one p (number_of t) other))
                    ∙ (elim (cases_or (subtree q t) (subtree_among q ts) u f) [
                      | inl in_it ↦ or_first (subtree q (without_nodes (p ∷ []) t)) (subtree_among q (without_nodes_all (p ∷ []) ts)) u
                          (later_stays low h.0 t h.1 other found in_it)
                      | inr after ↦
                          let here = found_among_within h.0 high ts h.2 q u after.1 in
                          or_second (subtree q (without_nodes (p ∷ []) t)) (subtree_among q (without_nodes_all (p ∷ []) ts))
                          (not_found low h.0 (without_nodes (p ∷ []) t) (without_rises (p ∷ []) low h.0 t h.1) q (inr here.0))
                          ∙ ap (subtree_among q) rest
                          ∙ after.1
                    ])
              ]
          | inr both ↦
              let at = found_among_within h.0 high ts h.2 p v both.1 in
              let own = number_within low h.0 t h.1 in
              elim (cases_or (subtree q t) (subtree_among q ts) u f) [
                | inl in_it ↦ absurd (let here = found_within low h.0 t h.1 q u in_it in omega (arith, here, at, less))
                | inr after ↦
                    ap (subtree_among q) (first_kept (p ∷ []) t ts (is_not_the_one p (number_of t) (λ (g : number_of t ≡ p). omega (arith, g, at, own))))
                    ∙ ap (λ (x : PlainTree). subtree_among q (PlainTrees.next x (without_nodes_all (p ∷ []) ts))) (without_outside p low h.0 t h.1 (inr at.0))
                    ∙ or_second (subtree q t) (subtree_among q (without_nodes_all (p ∷ []) ts)) after.0
                    ∙ later_stays_among h.0 high ts h.2 both.1 after.1
              ]
        ]

-- a rule whose nodes can lose children
pub loses_one_slot : (N : NormalForm) (r a : ℕ) → loses_children N r ≡ true → (form : RuleForm) × (y : Sym) × (slice_get N.rules r ≡ Some form)
    × ((children : ℕ) → slots_of_form form a children ≡ replicate children y)
loses_one_slot N r a is = by_form (slice_get N.rules r) refl is
  where
    of_form : (form : RuleForm) → slice_get N.rules r ≡ Some form → form_loses form ≡ true → (form : RuleForm) × (y : Sym) × (slice_get N.rules r ≡ Some form)
        × ((children : ℕ) → slots_of_form form a children ≡ replicate children y)
    of_form (RuleForm.regular alts) e f = absurd (false≢true f)
    of_form (RuleForm.star y) e f = (RuleForm.star y, y, e, λ n. refl)
    of_form (RuleForm.plus y) e f = (RuleForm.plus y, y, e, λ n. refl)
    of_form (RuleForm.opt y) e f = (RuleForm.opt y, y, e, λ n. refl)

    by_form : (o : Option RuleForm) → slice_get N.rules r ≡ o → option_map_or form_loses o false ≡ true → (form : RuleForm) × (y : Sym)
        × (slice_get N.rules r ≡ Some form) × ((children : ℕ) → slots_of_form form a children ≡ replicate children y)
    by_form None e f = absurd (false≢true f)
    by_form (Some form) e f = of_form form e f

-- where none of the trees is left out there are as many
pub same_count : (qs : List ℕ) (ts : PlainTrees) → NoneAmong qs ts → count (without_nodes_all qs ts) ≡ count ts
same_count qs PlainTrees.none none = refl
same_count qs (PlainTrees.next t ts) none = ap count (first_kept qs t ts none.0) ∙ ap suc (same_count qs ts none.1)

-- the nodes that stay have the slots that they had
module _ (N : NormalForm) (qs : List ℕ) (q : ℕ) (x : Sym) where
  -- what comes after the first of some trees isn't in it
  no_slot_first : (y : Sym) (ss : List Sym) (low high : ℕ) (t : PlainTree) (ts us : PlainTrees) → RiseAll low high (PlainTrees.next t ts)
      → ((m : ℕ) → RiseAll m high ts → RiseAll m high us) → slot_among N ss q us ≡ Some x → slot_at N y q t ≡ None
  no_slot_first y ss low high t ts us h rises e =
      let there = slot_among_there N ss q us x e in
      let at = found_among_within h.0 high us (rises h.0 h.2) q there.0 there.1 in
      no_slot N y q low h.0 t h.1 (inr at.0)

  mutual
    pub same_slot : (s : Sym) (low high : ℕ) (t : PlainTree) → Rises low high t → AreElements N qs t → slot_at N s q (without_nodes qs t) ≡ Some x
        → slot_at N s q t ≡ Some x
    same_slot s low high (PlainTree.leaf n k i) h of e = e
    same_slot s low high (PlainTree.node n r a ts) h of e =
        elim (cases_eq n q) [
          | inl same ↦ when_equal n q (Some s) (slot_among N (slots_of N r a ts) q ts) same
              ∙ sym (when_equal n q (Some s) (slot_among N (slots_of N r a (without_nodes_all qs ts)) q (without_nodes_all qs ts)) same) ∙ e
          | inr other ↦
              let f : slot_among N (slots_of N r a (without_nodes_all qs ts)) q (without_nodes_all qs ts) ≡ Some x =
              sym (when_not n q (Some s) (slot_among N (slots_of N r a (without_nodes_all qs ts)) q (without_nodes_all qs ts)) other) ∙ e in
              when_not n q (Some s) (slot_among N (slots_of N r a ts) q ts) other
              ∙ (elim of.0 [
                | inl loses ↦
                    let one = loses_one_slot N r a loses in
                    ap (λ (ss : List Sym). slot_among N ss q ts) (slots_are N one.0 one.1 r a one.2 one.3 ts)
                    ∙ list_slot one.1 (n + 1) high ts h.1 of.1
                    (ap (λ (ss : List Sym). slot_among N ss q (without_nodes_all qs ts))
                    (sym (slots_are N one.0 one.1 r a one.2 one.3 (without_nodes_all qs ts))) ∙ f)
                | inr none ↦
                    same_slots (slots_of N r a ts) (n + 1) high ts h.1 of.1 none
                    (ap (λ (m : ℕ). slot_among N (option_map_or (λ form. slots_of_form form a m) (slice_get N.rules r) []) q (without_nodes_all qs ts))
                    (sym (same_count qs ts none)) ∙ f)
              ])
        ]

    list_slot : (y : Sym) (low high : ℕ) (ts : PlainTrees) → RiseAll low high ts → AreElementsOfAll N qs ts
        → slot_among N (replicate (count (without_nodes_all qs ts)) y) q (without_nodes_all qs ts) ≡ Some x →
        slot_among N (replicate (count ts) y) q ts ≡ Some x
    list_slot y low high PlainTrees.none h of e = e
    list_slot y low high (PlainTrees.next t ts) h of e =
        let rises : (m : ℕ) → RiseAll m high ts → RiseAll m high (without_nodes_all qs ts) = λ m r. without_rise qs m high ts r in
        elim (cases_Bool (is_among qs (number_of t))) [
          | inl out ↦
              let f : slot_among N (replicate (count (without_nodes_all qs ts)) y) q (without_nodes_all qs ts) ≡ Some x =
              subst (λ us. slot_among N (replicate (count us) y) q us ≡ Some x) (first_out qs t ts out) e in
              or_second (slot_at N y q t) (slot_among N (replicate (count ts) y) q ts)
              (no_slot_first y (replicate (count (without_nodes_all qs ts)) y) low high t ts (without_nodes_all qs ts) h rises f)
              ∙ list_slot y h.0 high ts h.2 of.1 f
          | inr stays ↦
              let f : slot_among N (replicate (suc (count (without_nodes_all qs ts))) y) q (PlainTrees.next (without_nodes qs t) (without_nodes_all qs ts))
              ≡ Some x =
              subst (λ us. slot_among N (replicate (count us) y) q us ≡ Some x) (first_kept qs t ts stays) e in
              elim (cases_or (slot_at N y q (without_nodes qs t))
              (slot_among N (replicate (count (without_nodes_all qs ts)) y) q (without_nodes_all qs ts)) x f) [
                | inl found ↦ or_first (slot_at N y q t) (slot_among N (replicate (count ts) y) q ts) x (same_slot y low h.0 t h.1 of.0 found)
                | inr both ↦
                    or_second (slot_at N y q t) (slot_among N (replicate (count ts) y) q ts)
                    (no_slot_first y (replicate (count (without_nodes_all qs ts)) y) low high t ts (without_nodes_all qs ts) h rises both.1)
                    ∙ list_slot y h.0 high ts h.2 of.1 both.1
              ]
        ]

    same_slots : (ss : List Sym) (low high : ℕ) (ts : PlainTrees) → RiseAll low high ts → AreElementsOfAll N qs ts → NoneAmong qs ts
        → slot_among N ss q (without_nodes_all qs ts) ≡ Some x → slot_among N ss q ts ≡ Some x
    same_slots ss low high PlainTrees.none h of none e = e
    same_slots [] low high (PlainTrees.next t ts) h of none e = absurd (none-some x (sym (ap (slot_among N [] q) (first_kept qs t ts none.0)) ∙ e))
    same_slots (s ∷ ss) low high (PlainTrees.next t ts) h of none e =
        let f : slot_among N (s ∷ ss) q (PlainTrees.next (without_nodes qs t) (without_nodes_all qs ts)) ≡ Some x =
        sym (ap (slot_among N (s ∷ ss) q) (first_kept qs t ts none.0)) ∙ e in
        elim (cases_or (slot_at N s q (without_nodes qs t)) (slot_among N ss q (without_nodes_all qs ts)) x f) [
          | inl found ↦ or_first (slot_at N s q t) (slot_among N ss q ts) x (same_slot s low h.0 t h.1 of.0 found)
          | inr both ↦
              or_second (slot_at N s q t) (slot_among N ss q ts)
              (no_slot_first s ss low high t ts (without_nodes_all qs ts) h (λ m r. without_rise qs m high ts r) both.1)
              ∙ same_slots ss h.0 high ts h.2 of.1 none.1 both.1
        ]
