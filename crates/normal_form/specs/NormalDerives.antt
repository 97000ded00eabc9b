-- Which lists of kinds the symbols of a normal form derive.
use Rattle.std.specs.Prelude.{◌≡◌, ℕ, List, [], ◌∷◌, ◌++◌, Some, slice_get}
use Rattle.std.specs.List.{Contains}
use Rattle.normal_form.specs.declared.normal.Sym.{Sym}
use Rattle.normal_form.specs.declared.normal.Sym.TheVariants.{Kind, Set, Rule}
use Rattle.normal_form.specs.Form.{RuleForm, NormalForm}

mutual
  -- The least relation: the symbol derives the list of kinds, in the normal form.
  pub data NormalDerives (N : NormalForm) : Sym → List ℕ → Type 0 where
    -- a kind derives itself
    of_kind : (k : ℕ) → NormalDerives N (Kind k) (k ∷ [])
    -- a set derives one kind in it
    of_set : (i k : ℕ) (ks : List ℕ) → slice_get N.sets i ≡ Some ks → Contains ks k → NormalDerives N (Set i) (k ∷ [])
    -- a regular rule derives what one of its alternatives derives in sequence
    of_regular : (r : ℕ) (alts : List (List Sym)) (alt : List Sym) (w : List ℕ) → slice_get N.rules r ≡ Some (RuleForm.regular alts) → Contains alts alt
        → NormalDerivesSeq N alt w → NormalDerives N (Rule r) w
    -- an optional nothing, or what its symbol derives
    of_absent : (r : ℕ) (s : Sym) → slice_get N.rules r ≡ Some (RuleForm.opt s) → NormalDerives N (Rule r) []
    of_present : (r : ℕ) (s : Sym) (w : List ℕ) → slice_get N.rules r ≡ Some (RuleForm.opt s) → NormalDerives N s w → NormalDerives N (Rule r) w
    -- a star any number of these
    of_star : (r : ℕ) (s : Sym) (w : List ℕ) → slice_get N.rules r ≡ Some (RuleForm.star s) → NormalDerivesMany N s w → NormalDerives N (Rule r) w
    -- a plus at least one
    of_plus : (r : ℕ) (s : Sym) (u v : List ℕ) → slice_get N.rules r ≡ Some (RuleForm.plus s) → NormalDerives N s u → NormalDerivesMany N s v
        → NormalDerives N (Rule r) (u ++ v)

  -- The list is cut into parts that the symbols derive, in their order.
  pub data NormalDerivesSeq (N : NormalForm) : List Sym → List ℕ → Type 0 where
    of_done : NormalDerivesSeq N [] []
    of_next : (s : Sym) (ss : List Sym) (u v : List ℕ) → NormalDerives N s u → NormalDerivesSeq N ss v → NormalDerivesSeq N (s ∷ ss) (u ++ v)

  -- The list is cut into any number of parts, each of which the symbol derives.
  pub data NormalDerivesMany (N : NormalForm) : Sym → List ℕ → Type 0 where
    of_end : (s : Sym) → NormalDerivesMany N s []
    of_more : (s : Sym) (u v : List ℕ) → NormalDerives N s u → NormalDerivesMany N s v → NormalDerivesMany N s (u ++ v)
