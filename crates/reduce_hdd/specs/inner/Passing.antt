-- Questions of a list step over nodes that are passed over, since a plus would be empty.
use Rattle.std.specs.Prelude.{◌≡◌, not, true, false, Bool, List, ℕ, Some, None}
use Rattle.std.specs.Option.{option_map_or}
use Rattle.normal_form.specs.Form.{NormalForm}
use Rattle.list_ddmin.specs.Machine.{State, IsSound, asks, kept}
use Rattle.reduce_rounds.specs.Trials.{Trials}
use Rattle.syntax_tree.specs.Trees.{PlainTree}
use Rattle.hdd_levels.specs.Levels.{fills_pluses, kept_tree}
use Rattle.reduce_hdd.specs.Allowed.{allowed_trials}
use Rattle.reduce_hdd.specs.Round.{nodes_tried}

module _ (N : NormalForm) (t : PlainTree) (nodes : List ℕ) where
  -- the trials from a state of the list step over these nodes of the tree t, where the round goes on by `go`
  abbrev pub allowed_from : (PlainTree → Trials PlainTree) → State → Trials PlainTree
  allowed_from go step = allowed_trials (fills_pluses N) (nodes_tried go nodes t step)

  -- whether it asks for a tree that may not be tried
  abbrev pub refuses : State → Bool
  refuses step = option_map_or (λ question. not (fills_pluses N (kept_tree nodes question t))) (asks step) false

  -- It asks for a tree that may be tried.
  pub record IsAsking (step : State) : Type 0 where
    pub question : List Bool
    pub asked : asks step ≡ Some question
    pub may : fills_pluses N (kept_tree nodes question t) ≡ true

  -- Some questions have been passed over: what is tried is the same, and what is kept.
  pub record IsPassing (old new : State) : Type 0 where
    pub sound : IsSound new
    pub kept_is : kept new ≡ kept old
    pub rest : (go : PlainTree → Trials PlainTree) → allowed_from go new ≡ allowed_from go old

  -- All such questions have been passed over, up to one that may be asked or to the end.
  pub record HasPassed (old new : State) (asking : Bool) : Type 0 where
    pub passed : IsPassing old new
    pub asks_more : asking ≡ true → IsAsking new
    pub is_over : asking ≡ false → asks new ≡ None
