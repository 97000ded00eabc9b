-- What holds of valid trees.
use Rattle.std.proofs.Common.{◌≡◌, ◌⊎◌, inl, inr, ℕ, List, [], ◌∷◌, ◌++◌, Some, slice_get, sym, subst, arith}
use Rattle.std.proofs.lemmas.Bool.{cases_lt}
use Rattle.std.proofs.lemmas.List.{append-nil}
use Rattle.grammar_tree.proofs.Lent.{contains_at}
use Rattle.normal_form.specs.declared.normal.Sym.{Sym}
use Rattle.normal_form.specs.declared.normal.Sym.TheVariants.{Kind, Rule}
use Rattle.normal_form.specs.Form.{RuleForm, NormalForm}
use Rattle.normal_form.specs.NormalDerives.{NormalDerives, NormalDerivesSeq, NormalDerivesMany, of_kind, of_set, of_done, of_end, of_more}
use Rattle.normal_form.specs.NormalDerives as derives
use Rattle.normal_form.specs.FormLaws.{ElementsAreNotEmpty}
use Rattle.compat_table.proofs.Lent.{derive_more}
use Rattle.syntax_tree.specs.Trees.{PlainTree, PlainTrees, kinds_of, weight}
use Rattle.syntax_tree.specs.inner.Trees.{kinds_of_all}
use Rattle.syntax_tree.specs.Valid.{IsValid, AreValid, EachIsValid, of_leaf, of_regular, of_absent, of_present}
use Rattle.syntax_tree.specs.Valid.{of_star, of_plus, of_no_slots, of_slot, of_none, of_next}
use Rattle.syntax_tree.specs.Laws.{ElementsHaveTokens, ValidTreesAreDerived}
use Rattle.syntax_tree.proofs.LeftTrees.{no_leaves}

module _ (N : NormalForm) where
  mutual
    -- a slot derives the kinds of each tree that is valid for it
    pub derived : (s : Sym) (t : PlainTree) → IsValid N s t → NormalDerives N s (kinds_of t)
    derived s t (of_leaf s' n k i fits) = derive_more N (Kind k) s fits (k ∷ []) (of_kind k)
    derived s t (of_regular s' n r a ts alts alt fits at_rule at valid) =
        derive_more N (Rule r) s fits (kinds_of_all ts)
        (derives.of_regular r alts alt (kinds_of_all ts) at_rule (contains_at alts a alt at) (derived_seq alt ts valid))
    derived s t (of_absent s' n r x fits at_rule) = derive_more N (Rule r) s fits [] (derives.of_absent r x at_rule)
    derived s t (of_present s' n r u x fits at_rule valid) =
        let P : List ℕ → Type 0 = λ w. NormalDerives N x w in
        derive_more N (Rule r) s fits (kinds_of u ++ [])
        (derives.of_present r x (kinds_of u ++ []) at_rule (subst P (sym (append-nil (kinds_of u))) (derived x u valid)))
    derived s t (of_star s' n r ts x fits at_rule each) =
        derive_more N (Rule r) s fits (kinds_of_all ts) (derives.of_star r x (kinds_of_all ts) at_rule (derived_each x ts each))
    derived s t (of_plus s' n r u ts x fits at_rule (of_next x' u' ts' valid each)) =
        derive_more N (Rule r) s fits (kinds_of u ++ kinds_of_all ts)
        (derives.of_plus r x (kinds_of u) (kinds_of_all ts) at_rule (derived x u valid) (derived_each x ts each))

    derived_seq : (ss : List Sym) (ts : PlainTrees) → AreValid N ss ts → NormalDerivesSeq N ss (kinds_of_all ts)
    derived_seq ss ts of_no_slots = of_done
    derived_seq ss ts (of_slot s ss' t ts' valid rest) = derives.of_next s ss' (kinds_of t) (kinds_of_all ts') (derived s t valid) (derived_seq ss' ts' rest)

    derived_each : (s : Sym) (ts : PlainTrees) → EachIsValid N s ts → NormalDerivesMany N s (kinds_of_all ts)
    derived_each s ts (of_none s') = of_end s
    derived_each s ts (of_next s' t ts' valid rest) = of_more s (kinds_of t) (kinds_of_all ts') (derived s t valid) (derived_each s ts' rest)

pub valid_derived : ValidTreesAreDerived
valid_derived N s t valid = derived N s t valid

pub elements_weigh : ElementsAreNotEmpty → ElementsHaveTokens
elements_weigh law N normal r x t rule valid = elim (cases_lt 0 (weight t)) [
  | inl has ↦ has
  | inr none ↦ absurd (not_empty rule (empty (omega (arith, none))))
]
  where
    empty : weight t ≡ 0 → NormalDerives N x []
    empty e = let P : List ℕ → Type 0 = λ w. NormalDerives N x w in subst P (no_leaves (λ k i. k) t e) (derived N x t valid)

    not_empty : (slice_get N.rules r ≡ Some (RuleForm.star x)) ⊎ (slice_get N.rules r ≡ Some (RuleForm.plus x)) → NormalDerives N x [] → ⊥
    not_empty (inl star) d = (law N normal).star r x star d
    not_empty (inr plus) d = (law N normal).plus r x plus d
