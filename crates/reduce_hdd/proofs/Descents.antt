-- The way down to the next level that asks something.
use Rattle.std.proofs.Common.{◌≡◌, ℕ, suc, ◌+◌, ◌-◌, ◌<◌, ◌≤◌, Bool, true, false, [], Option, Some, None, length, refl, sym, ap, ◌∙◌, subst, arith}
use Rattle.std.proofs.lemmas.Bool.{cond-false, cond-true, le-leb, leb-true}
use Rattle.normal_form.specs.declared.normal.Sym.{Sym}
use Rattle.normal_form.specs.Form.{NormalForm}
use Rattle.list_ddmin.specs.Machine.{State, kept, start}
use Rattle.list_ddmin.proofs.Lent.{keeps_all_at_first, starts_with_all}
use Rattle.reduce_rounds.specs.Trials.{Done}
use Rattle.syntax_tree.specs.Trees.{PlainTree}
use Rattle.syntax_tree.specs.Valid.{IsValid}
use Rattle.syntax_tree.specs.Levels.{depth}
use Rattle.hdd_levels.specs.Levels.{fills_pluses, is_so_deep, kept_tree}
use Rattle.hdd_levels.specs.LevelForms.{IsLevelAt, IsLevelIfDeep, LevelForm, parents_at}
use Rattle.hdd_levels.specs.Laws.{KeepingAllKeepsTree, ValidTreesFillPluses}
use Rattle.reduce_hdd.specs.Allowed.{allowed_trials}
use Rattle.reduce_hdd.specs.Round.{level_tried, levels, levels_from}
use Rattle.reduce_hdd.proofs.Going.{goes_by_levels}
use Rattle.reduce_hdd.specs.inner.Passing.{HasPassed, allowed_from}
use Rattle.reduce_hdd.specs.inner.Walking.{IsAskingStep, levels_below, step_trials}
use Rattle.reduce_hdd.proofs.Passed.{goes_on_at_end, passing_length}

-- The levels down to this depth ask nothing, and the level has the nodes above the next one.
pub record IsDescending (N : NormalForm) (t : PlainTree) (from : ℕ) (above : LevelForm) (d : ℕ) : Type 0 where
  pub parents : above.parents ≡ parents_at d t
  pub rest : levels_below N (suc d) t ≡ levels_below N (suc from) t

pub descent_begins : (N : NormalForm) (t : PlainTree) (from : ℕ) (above : LevelForm) → above.parents ≡ parents_at from t → IsDescending N t from above from
descent_begins N t from above e = record { parents = e; rest = refl }

-- nothing is so deep
pub nothing_deeper : (N : NormalForm) (t : PlainTree) (d : ℕ) → is_so_deep d t ≡ false → levels_below N d t ≡ Done
nothing_deeper N t d e =
    ap (allowed_trials (fills_pluses N)) (goes_by_levels N d t ∙ cond-false (is_so_deep d t) (level_tried (λ u. levels_from N (suc d) u) N d t) Done e)

pub descent_ends : (N : NormalForm) (t : PlainTree) (from d : ℕ) (above : LevelForm) → IsDescending N t from above d → is_so_deep (suc d) t ≡ false
    → Done ≡ levels_below N (suc from) t
descent_ends N t from d above so e = sym (nothing_deeper N t (suc d) e) ∙ so.rest

module _ (all : KeepingAllKeepsTree) (valid : ValidTreesFillPluses) (N : NormalForm) (symbol : Sym) (t : PlainTree) (fits : IsValid N symbol t) (d : ℕ)
    (l : LevelForm) (is : IsLevelAt N t d l) where
  -- the list step of a level, with the levels below
  begun_trials : allowed_from N t l.nodes (λ u. levels_from N (suc d) u) (start (length l.nodes) true) ≡ levels_below N d t
  begun_trials =
      ap (λ nodes. allowed_from N t nodes (λ u. levels_from N (suc d) u) (start (length nodes) true)) is.nodes
      ∙ sym (ap (allowed_trials (fills_pluses N))
      (goes_by_levels N d t ∙ cond-true (is_so_deep d t) (level_tried (λ u. levels_from N (suc d) u) N d t) Done is.deep))

  module _ (step : State) (asking : Bool) (so : HasPassed N t l.nodes (start (length l.nodes) true) step asking) where
    -- nothing is deleted yet
    kept_all : kept_tree l.nodes (kept step) t ≡ t
    kept_all = ap (λ keep. kept_tree l.nodes keep t) (so.passed.kept_is ∙ keeps_all_at_first (length l.nodes) true) ∙ all l.nodes t

    pub begun_asking : asking ≡ true → IsAskingStep N t (record { depth = d; level = l; step = step })
    begun_asking more = record {
      step_is = record {
        level_is = is;
        sound = so.passed.sound;
        each = passing_length N t l.nodes (start (length l.nodes) true) step so.passed (starts_with_all (length l.nodes) true);
        full = ap (fills_pluses N) kept_all ∙ valid N symbol t fits;
      };
      asking = so.asks_more more;
    }

    pub begun_rest : step_trials N t (record { depth = d; level = l; step = step }) ≡ levels_below N d t
    begun_rest = so.passed.rest (λ u. levels_from N (suc d) u) ∙ begun_trials

    pub over_rest : asking ≡ false → levels_below N (suc d) t ≡ levels_below N d t
    over_rest none =
        ap (levels_below N (suc d)) (sym kept_all)
        ∙ sym (goes_on_at_end N t l.nodes (λ u. levels_from N (suc d) u) step (so.is_over none))
        ∙ begun_rest

-- the level of the root has no nodes, and asks nothing
pub root_rest : KeepingAllKeepsTree → (N : NormalForm) (t : PlainTree) → levels_below N 1 t ≡ levels N t
root_rest all N t =
    ap (levels_below N 1) (sym (all [] t))
    ∙ sym (goes_on_at_end N t [] (λ u. levels_from N 1 u) (start 0 true) refl)
    ∙ sym (ap (allowed_trials (fills_pluses N))
    (goes_by_levels N 0 t ∙ cond-true (is_so_deep 0 t) (level_tried (λ u. levels_from N 1 u) N 0 t) Done (le-leb 0 (depth t) (omega arith))))

-- the next level, as it is found
pub at_next : (N : NormalForm) (t : PlainTree) (d : ℕ) (found : Option LevelForm) (l : LevelForm) → IsLevelIfDeep N t (suc d) found → found ≡ Some l
    → IsLevelAt N t (d + 1) l
at_next N t d found l next is = let one : suc d ≡ d + 1 = omega arith in subst (λ (n : ℕ). IsLevelAt N t n l) one (subst (IsLevelIfDeep N t (suc d)) is next)

pub none_next : (N : NormalForm) (t : PlainTree) (d : ℕ) (found : Option LevelForm) → IsLevelIfDeep N t (suc d) found → found ≡ None
    → is_so_deep (suc d) t ≡ false
none_next N t d found next is = subst (IsLevelIfDeep N t (suc d)) is next

-- the levels from the next one on
pub next_rest : (N : NormalForm) (t : PlainTree) (from d : ℕ) (above : LevelForm) → IsDescending N t from above d
    → levels_below N (d + 1) t ≡ levels_below N (suc from) t
next_rest N t from d above so = let one : d + 1 ≡ suc d = omega arith in ap (λ n. levels_below N n t) one ∙ so.rest

-- they go on below one that asks nothing
pub descent_goes_on : (N : NormalForm) (t : PlainTree) (from d : ℕ) (above l : LevelForm) → IsDescending N t from above d → IsLevelAt N t (d + 1) l
    → levels_below N (suc (d + 1)) t ≡ levels_below N (d + 1) t → IsDescending N t from l (d + 1)
descent_goes_on N t from d above l so is same = record { parents = is.parents; rest = same ∙ next_rest N t from d above so }

-- fewer levels are below
pub deeper : (N : NormalForm) (t : PlainTree) (d : ℕ) (l : LevelForm) → IsLevelAt N t (d + 1) l → d + 1 ≤ depth t
deeper N t d l is = leb-true (d + 1) (depth t) is.deep

pub fewer_below : (n d : ℕ) → d + 1 ≤ n → suc n - (d + 1) < suc n - d
fewer_below n d le = omega (arith, le)
