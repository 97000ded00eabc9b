-- Which symbol of a normal form represents which term: its rules have the shape of the term.
use Rattle.std.specs.Prelude.{◌≡◌, ℕ, List, [], ◌∷◌, Some, slice_get, ◌⊎◌}
use Rattle.grammar_tree.specs.Derives.{Term, Seq, Alts, kind, among, rule, block, opt, star, plus, eof, done, next, none, or}
use Rattle.grammar_tree.specs.Corners.{bases, rests}
use Rattle.normal_form.specs.declared.normal.Sym.{Sym}
use Rattle.normal_form.specs.declared.normal.Sym.TheVariants.{Kind, Set, Rule}
use Rattle.normal_form.specs.Form.{RuleForm, NormalForm}

abbrev mutual
  pub Represents : List Alts → NormalForm → (ℕ → ℕ) → Sym → Term → Type 0
  Represents G N own_rule s (kind k) = s ≡ Kind k
  Represents G N own_rule s (among ks) = (i : ℕ) × (s ≡ Set i) × (slice_get N.sets i ≡ Some ks)
  Represents G N own_rule s (rule r) = (s ≡ Rule (own_rule r)) × ((a : Alts) × (slice_get G r ≡ Some a))
  Represents G N own_rule s (block a) =
      (n : ℕ) × (alts : List (List Sym)) × (s ≡ Rule n) × (slice_get N.rules n ≡ Some (RuleForm.regular alts)) × RepresentsAlts G N own_rule alts a
  Represents G N own_rule s (opt t) = (n : ℕ) × (of : Sym) × (s ≡ Rule n) × (slice_get N.rules n ≡ Some (RuleForm.opt of)) × Represents G N own_rule of t
  Represents G N own_rule s (star t) = (n : ℕ) × (of : Sym) × (s ≡ Rule n) × (slice_get N.rules n ≡ Some (RuleForm.star of)) × Represents G N own_rule of t
  Represents G N own_rule s (plus t) = (n : ℕ) × (of : Sym) × (s ≡ Rule n) × (slice_get N.rules n ≡ Some (RuleForm.plus of)) × Represents G N own_rule of t
  Represents G N own_rule s eof = ⊥

  -- `EOF` is left out
  pub RepresentsSeq : List Alts → NormalForm → (ℕ → ℕ) → List Sym → Seq → Type 0
  RepresentsSeq G N own_rule ss done = ss ≡ []
  RepresentsSeq G N own_rule ss (next t rest) =
      ((t ≡ eof) × RepresentsSeq G N own_rule ss rest)
      ⊎ ((s : Sym) × (more : List Sym) × (ss ≡ s ∷ more) × Represents G N own_rule s t × RepresentsSeq G N own_rule more rest)

  pub RepresentsAlts : List Alts → NormalForm → (ℕ → ℕ) → List (List Sym) → Alts → Type 0
  RepresentsAlts G N own_rule alts none = alts ≡ []
  RepresentsAlts G N own_rule alts (or s a) =
      (ss : List Sym) × (more : List (List Sym)) × (alts ≡ ss ∷ more) × RepresentsSeq G N own_rule ss s × RepresentsAlts G N own_rule more a

-- a rule that doesn't begin with itself
pub record IsPlainRule (G : List Alts) (N : NormalForm) (own_rule : ℕ → ℕ) (r : ℕ) (a : Alts) : Type 0 where
  pub plain : rests r a ≡ none
  pub alts : List (List Sym)
  pub at : slice_get N.rules (own_rule r) ≡ Some (RuleForm.regular alts)
  pub represented : RepresentsAlts G N own_rule alts a

-- a rule with bases and rests
pub record IsRecursiveRule (G : List Alts) (N : NormalForm) (own_rule : ℕ → ℕ) (r : ℕ) (a : Alts) : Type 0 where
  pub base : ℕ
  pub many : ℕ
  pub rest : ℕ
  pub base_alts : List (List Sym)
  pub rest_alts : List (List Sym)
  pub at : slice_get N.rules (own_rule r) ≡ Some (RuleForm.regular ((Rule base ∷ Rule many ∷ []) ∷ []))
  pub base_at : slice_get N.rules base ≡ Some (RuleForm.regular base_alts)
  pub many_at : slice_get N.rules many ≡ Some (RuleForm.star (Rule rest))
  pub rest_at : slice_get N.rules rest ≡ Some (RuleForm.regular rest_alts)
  pub bases_are : RepresentsAlts G N own_rule base_alts (bases r a)
  pub rests_are : RepresentsAlts G N own_rule rest_alts (rests r a)

-- the normal form has a rule for each rule of the grammar
abbrev pub HasEachRule : List Alts → NormalForm → (ℕ → ℕ) → Type 0
HasEachRule G N own_rule = (r : ℕ) (a : Alts) → slice_get G r ≡ Some a → IsPlainRule G N own_rule r a ⊎ IsRecursiveRule G N own_rule r a
