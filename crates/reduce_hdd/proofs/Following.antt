-- Each tree that is tried comes from the last that had a yes by deletions in one level.
use Rattle.std.proofs.Common.{◌≡◌, inl, inr, ℕ, zero, suc, ◌-◌, Bool, true, false, cond, List, [], ◌∷◌, ◌++◌, length, nat_eq, refl, sym, ap, ◌∙◌, subst, arith}
use Rattle.std.specs.Prelude.{◌||◌, if◌then◌else◌}
use Rattle.std.specs.List.{Contains}
use Rattle.std.proofs.lemmas.Bool.{cases_Bool, cond-false, cond-true, eqb-true, false≢true}
use Rattle.std.proofs.lemmas.List.Folds.{list_any-append}
use Rattle.grammar_tree.proofs.Lent.{contains_none}
use Rattle.normal_form.specs.Form.{NormalForm}
use Rattle.list_ddmin.specs.Asked.{KeepsFewer, KeepsOnlyOf}
use Rattle.reduce_rounds.specs.Trials.{Trials, Done, Try, EachFollows}
use Rattle.syntax_tree.specs.Trees.{PlainTree, PlainTrees}
use Rattle.syntax_tree.specs.Numbered.{NumbersRise, number_of}
use Rattle.syntax_tree.specs.Levels.{depth}
use Rattle.syntax_tree.specs.LeftLaws.{LeftIsPart}
use Rattle.syntax_tree_cut.specs.WithoutNodes.{dropped, is_among, without_nodes, without_nodes_all}
use Rattle.syntax_tree_cut.proofs.Lent.{without_both}
use Rattle.hdd_levels.specs.Levels.{fills_pluses, is_so_deep, kept_tree, level}
use Rattle.hdd_levels.specs.Laws.{KeepingAllKeepsTree, KeptTreesAreLeft}
use Rattle.hdd_levels.proofs.Lent.{dropped_in}
use Rattle.reduce_rounds.proofs.Lent.{list_follows}
use Rattle.reduce_hdd.specs.Allowed.{allowed_trials}
use Rattle.reduce_hdd.specs.Round.{level_tried, levels_within}
use Rattle.reduce_hdd.specs.Deletions.{DeletesInLevel, TriesLevelDeletions}
use Rattle.reduce_hdd.proofs.KeptLevels.{stays_in_level}

-- those of the second numbers that aren't among the first
abbrev others : List ℕ → List ℕ → List ℕ
others ps [] = []
others ps (q ∷ qs) = if is_among ps q then others ps qs else q ∷ others ps qs

-- each is one of the second numbers, and not among the first
others_in : (ps qs : List ℕ) (q : ℕ) → Contains (others ps qs) q → Contains qs q × (is_among ps q ≡ false)
others_in ps [] q has = absurd (contains_none q has)
others_in ps (p ∷ qs) q has =
    elim (cases_Bool (is_among ps p)) [
      | inl is ↦ later (others_in ps qs q (subst (λ (l : List ℕ). Contains l q) (cond-true (is_among ps p) (others ps qs) (p ∷ others ps qs) is) has))
      | inr not_is ↦ either not_is (λ one. others_in ps qs q one)
          (subst (λ (l : List ℕ). Contains l q) (cond-false (is_among ps p) (others ps qs) (p ∷ others ps qs) not_is) has)
    ]
  where
    later : Contains qs q × (is_among ps q ≡ false) → Contains (p ∷ qs) q × (is_among ps q ≡ false)
    later ((k, lt, e), stays) = ((suc k, omega (arith, lt), e), stays)

    either : is_among ps p ≡ false → (Contains (others ps qs) q → Contains qs q × (is_among ps q ≡ false)) → Contains (p ∷ others ps qs) q → Contains (p ∷ qs) q
        × (is_among ps q ≡ false)
    either not_is rest (zero, lt, e) = ((zero, omega arith, e), ap (is_among ps) (sym e) ∙ not_is)
    either not_is rest (suc k, lt, e) = later (rest (k, omega (arith, lt), e))

-- with the first numbers they are all of both
or_others : (ps qs : List ℕ) (n : ℕ) → (is_among ps n || is_among (others ps qs) n) ≡ (is_among ps n || is_among qs n)
or_others ps [] n = refl
or_others ps (q ∷ qs) n =
    elim (cases_Bool (is_among ps q)) [
      | inl is ↦ ap (λ (l : List ℕ). is_among ps n || is_among l n) (cond-true (is_among ps q) (others ps qs) (q ∷ others ps qs) is) ∙ or_others ps qs n
          ∙ seen is
      | inr not_is ↦ ap (λ (l : List ℕ). is_among ps n || is_among l n) (cond-false (is_among ps q) (others ps qs) (q ∷ others ps qs) not_is)
          ∙ in_between (is_among ps n) (nat_eq n q) (is_among (others ps qs) n) (is_among qs n) (or_others ps qs n)
    ]
  where
    in_between : (a b c d : Bool) → (a || c) ≡ (a || d) → (a || (b || c)) ≡ (a || (b || d))
    in_between true b c d e = refl
    in_between false true c d e = refl
    in_between false false c d e = e

    seen : is_among ps q ≡ true → (is_among ps n || is_among qs n) ≡ (is_among ps n || (nat_eq n q || is_among qs n))
    seen is =
        elim (cases_Bool (nat_eq n q)) [
          | inl same ↦
              let among : is_among ps n ≡ true = ap (is_among ps) (eqb-true n q same) ∙ is in
              ap (λ (b : Bool). b || is_among qs n) among ∙ sym (ap (λ (b : Bool). b || (nat_eq n q || is_among qs n)) among)
          | inr other ↦ ap (λ (b : Bool). is_among ps n || (b || is_among qs n)) (sym other)
        ]

-- of some nodes, those that more flags don't keep are among those that fewer don't keep
both_dropped : (nodes : List ℕ) (fewer keep : List Bool) → KeepsOnlyOf fewer keep → (n : ℕ)
    → (is_among (dropped nodes keep) n || is_among (dropped nodes fewer) n) ≡ is_among (dropped nodes fewer) n
both_dropped [] fewer keep only n = refl
both_dropped (q ∷ nodes) [] [] only n = twice (is_among (q ∷ dropped nodes []) n)
  where
    twice : (b : Bool) → (b || b) ≡ b
    twice true = refl
    twice false = refl
both_dropped (q ∷ nodes) [] (k ∷ keep) only n = absurd only
both_dropped (q ∷ nodes) (f ∷ fewer) [] only n = absurd only
both_dropped (q ∷ nodes) (true ∷ fewer) (true ∷ keep) only n = both_dropped nodes fewer keep only.1 n
both_dropped (q ∷ nodes) (true ∷ fewer) (false ∷ keep) only n = absurd (false≢true (only.0 refl))
both_dropped (q ∷ nodes) (false ∷ fewer) (true ∷ keep) only n =
    one (is_among (dropped nodes keep) n) (nat_eq n q) (is_among (dropped nodes fewer) n) (both_dropped nodes fewer keep only.1 n)
  where
    one : (a b d : Bool) → (a || d) ≡ d → (a || (b || d)) ≡ (b || d)
    one true true d e = refl
    one false true d e = refl
    one a false d e = e
both_dropped (q ∷ nodes) (false ∷ fewer) (false ∷ keep) only n =
    both (nat_eq n q) (is_among (dropped nodes keep) n) (is_among (dropped nodes fewer) n) (both_dropped nodes fewer keep only.1 n)
  where
    both : (b a d : Bool) → (a || d) ≡ d → ((b || a) || (b || d)) ≡ (b || d)
    both true a d e = refl
    both false a d e = e

-- without the same numbers a tree is the same
module _ (ps qs : List ℕ) (same : (n : ℕ) → is_among ps n ≡ is_among qs n) where
  mutual
    without_same : (t : PlainTree) → without_nodes ps t ≡ without_nodes qs t
    without_same (PlainTree.leaf n k i) = refl
    without_same (PlainTree.node n r a ts) = ap (λ (us : PlainTrees). PlainTree.node n r a us) (without_same_all ts)

    without_same_all : (ts : PlainTrees) → without_nodes_all ps ts ≡ without_nodes_all qs ts
    without_same_all PlainTrees.none = refl
    without_same_all (PlainTrees.next t ts) =
        λ i. if same (number_of t) i then without_same_all ts i else PlainTrees.next (without_same t i) (without_same_all ts i)

-- where fewer of a level's nodes are kept, nodes of the level that is left are deleted
deletes : (N : NormalForm) (d : ℕ) (t : PlainTree) (fewer keep : List Bool) → NumbersRise t → KeepsFewer fewer keep
    → DeletesInLevel N (kept_tree (level N d t) keep t) (kept_tree (level N d t) fewer t)
deletes N d t fewer keep rise less =
    let nodes : List ℕ = level N d t in
    let ps : List ℕ = dropped nodes keep in
    let qs : List ℕ = dropped nodes fewer in
    let same : (n : ℕ) → is_among qs n ≡ is_among (ps ++ others ps qs) n =
    λ n. sym (both_dropped nodes fewer keep less.only n) ∙ sym (or_others ps qs n) ∙ sym (list_any-append (nat_eq n) ps (others ps qs)) in
    record {
      depth = d;
      nodes = others ps qs;
      of_level = λ q has. (let it = others_in ps qs q has in stays_in_level N d t keep q rise (dropped_in nodes fewer q it.0) it.1);
      rest = without_same qs (ps ++ others ps qs) same t ∙ sym (without_both ps (others ps qs) t);
    }

-- what follows does so too where only some states may be tried
allowed_follows : {T : Type 0} (test : T → Bool) (R : T → T → Type 0) (state : T) (trials : Trials T) → EachFollows R state trials
    → EachFollows R state (allowed_trials test trials)
allowed_follows test R state Done follows = tt
allowed_follows test R state (Try other y z) follows =
    by_test (test other) follows.0 (allowed_follows test R other y follows.1.0) (allowed_follows test R state z follows.1.1)
  where
    by_test : (b : Bool) → R state other → EachFollows R other (allowed_trials test y) → EachFollows R state (allowed_trials test z) →
        EachFollows R state (cond b (Try other (allowed_trials test y) (allowed_trials test z)) (allowed_trials test z))
    by_test true one at_yes at_no = (one, (at_yes, at_no))
    by_test false one at_yes at_no = at_no

module _ (all : KeepingAllKeepsTree) (left : KeptTreesAreLeft) (part : LeftIsPart) (N : NormalForm) where
  within_follows : (times d : ℕ) (t : PlainTree) → NumbersRise t → EachFollows (DeletesInLevel N) t (levels_within N times d t)
  unfolding levels_within
  within_follows zero d t rise = tt
  within_follows (suc times) d t rise =
      let nodes : List ℕ = level N d t in
      by_deep (is_so_deep d t)
      (subst (λ (u : PlainTree). EachFollows (DeletesInLevel N) u (level_tried (λ w. levels_within N times (suc d) w) N d t)) (all nodes t)
      (list_follows (DeletesInLevel N) (λ keep. kept_tree nodes keep t) (λ keep. levels_within N times (suc d) (kept_tree nodes keep t)) (length nodes) true
      (λ fewer keep remain some less. deletes N d t fewer keep rise less)
      (λ keep remain. within_follows times (suc d) (kept_tree nodes keep t) ((part t (kept_tree nodes keep t) (left nodes keep t)).numbers_rise rise))))
    where
      by_deep : (b : Bool) → EachFollows (DeletesInLevel N) t (level_tried (λ w. levels_within N times (suc d) w) N d t) →
          EachFollows (DeletesInLevel N) t (cond b (level_tried (λ w. levels_within N times (suc d) w) N d t) Done)
      by_deep true follows = follows
      by_deep false follows = tt

pub tries_level_deletions : KeepingAllKeepsTree → KeptTreesAreLeft → LeftIsPart → TriesLevelDeletions
tries_level_deletions all left part N t rise =
    allowed_follows (fills_pluses N) (DeletesInLevel N) t (levels_within N (suc (depth t) - 0) 0 t)
    (within_follows all left part N (suc (depth t) - 0) 0 t rise)
