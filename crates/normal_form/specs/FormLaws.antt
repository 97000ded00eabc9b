-- What holds of every normal form, for the proofs of other crates.
use Rattle.std.specs.Prelude.{◌≡◌, ◌↔◌, ◌⊎◌, ℕ, ◌<◌, ◌≤◌, ◌^◌, false, List, [], ◌∷◌, ◌++◌, suc, Some, None, length, slice_get}
use Rattle.std.specs.List.{Contains}
use Rattle.std.specs.List.Sorted.{IsStrictlyIncreasing}
use Rattle.grammar_tree.specs.Written.{TokenKind, WrittenGrammar}
use Rattle.grammar_tree.specs.Kinds.{any_kinds, kinds_of}
use Rattle.grammar_tree.specs.Laws.{CutsInto}
use Rattle.grammar_names.specs.KindLists.{IsPartOf}
use Rattle.normal_form.specs.declared.normal.Sym.{Sym}
use Rattle.normal_form.specs.declared.normal.Sym.TheVariants.{Kind, Set, Rule}
use Rattle.normal_form.specs.Form.{RuleForm, NormalForm}
use Rattle.normal_form.specs.NormalDerives.{NormalDerives, NormalDerivesSeq, NormalDerivesMany}
use Rattle.normal_form.specs.NormalOf.{IsNormal}
use Rattle.normal_form.specs.Symbols.{HasSymbol, IsSymbolOf}

-- The form has at most 65,535 rules, each of them has a name, and the start rule is one of them.
pub record HasFewRules (N : NormalForm) : Type 0 where
  pub few : length N.rules ≤ 65535
  pub named : length N.names ≡ length N.rules
  pub start_is_there : N.start < length N.rules

-- Each normal form has few rules.
abbrev pub RulesAreFew : Type 0
RulesAreFew = (N : NormalForm) → IsNormal N → HasFewRules N

-- The symbols in the rules of the form are symbols of the form, and the kinds among them are the grammar's.
pub record HasKnownSymbols (N : NormalForm) : Type 0 where
  pub known : (r : ℕ) (form : RuleForm) (s : Sym) → slice_get N.rules r ≡ Some form → HasSymbol form s → IsSymbolOf N s
  pub kinds : (normal : IsNormal N) (r : ℕ) (form : RuleForm) (k : ℕ) → slice_get N.rules r ≡ Some form → HasSymbol form (Kind k)
      → k < length normal.grammar.kinds

-- Each normal form has known symbols.
abbrev pub SymbolsAreKnown : Type 0
SymbolsAreKnown = (N : NormalForm) → IsNormal N → HasKnownSymbols N

-- Each set of a normal form is some of the kinds that aren't gap kinds, in their order. It may have none.
abbrev pub SetsAreVisibleKinds : Type 0
SetsAreVisibleKinds = (N : NormalForm) (normal : IsNormal N) (i : ℕ) (ks : List ℕ) →
    slice_get N.sets i ≡ Some ks → IsPartOf (any_kinds normal.grammar.grammar) ks

-- The numbers rise strictly, and each is that of a kind that isn't a gap kind.
pub record AreVisibleKinds (kinds : List TokenKind) (ks : List ℕ) : Type 0 where
  pub rising : IsStrictlyIncreasing ks
  pub visible : (k : ℕ) → Contains ks k → (kind : TokenKind) × (slice_get kinds k ≡ Some kind) × (kind.gap ≡ false)

-- Some of the kinds of a grammar that aren't gap kinds, in their order, are such numbers; and all of them have each such number.
pub record PartsAreVisible (G : WrittenGrammar) : Type 0 where
  pub part : (ks : List ℕ) → IsPartOf (any_kinds G) ks → AreVisibleKinds (kinds_of G) ks
  pub all : (k : ℕ) (kind : TokenKind) → slice_get (kinds_of G) k ≡ Some kind → kind.gap ≡ false → Contains (any_kinds G) k

-- What it is to be some of the kinds that aren't gap kinds.
abbrev pub PartsAreVisibleKinds : Type 0
PartsAreVisibleKinds = (G : WrittenGrammar) → PartsAreVisible G

-- A regular rule has fewer than 2^32 alternatives, and each of them fewer than 2^32 symbols; and there are fewer than 2^32 sets, and kinds.
pub record HasSmallNumbers (N : NormalForm) : Type 0 where
  pub alternatives : (r : ℕ) (alts : List (List Sym)) → slice_get N.rules r ≡ Some (RuleForm.regular alts) → length alts < 2 ^ 32
  pub symbols : (r : ℕ) (alts : List (List Sym)) (alt : List Sym) → slice_get N.rules r ≡ Some (RuleForm.regular alts) → Contains alts alt → length alt < 2 ^ 32
  pub sets : length N.sets < 2 ^ 32
  pub kinds : (normal : IsNormal N) → length normal.grammar.kinds < 2 ^ 32

-- Each normal form has small numbers.
abbrev pub NumbersAreSmall : Type 0
NumbersAreSmall = (N : NormalForm) → IsNormal N → HasSmallNumbers N

-- What a star or plus repeats is never empty.
pub record HasNoEmptyElements (N : NormalForm) : Type 0 where
  pub star : (r : ℕ) (s : Sym) → slice_get N.rules r ≡ Some (RuleForm.star s) → ¬ NormalDerives N s []
  pub plus : (r : ℕ) (s : Sym) → slice_get N.rules r ≡ Some (RuleForm.plus s) → ¬ NormalDerives N s []

-- No normal form has empty elements.
abbrev pub ElementsAreNotEmpty : Type 0
ElementsAreNotEmpty = (N : NormalForm) → IsNormal N → HasNoEmptyElements N

-- How a symbol derives, by its form. Each of these equivalences says all that is derived.
pub record NormalDerivesByForm (N : NormalForm) : Type 0 where
  -- a kind derives itself
  pub kind : (k : ℕ) (w : List ℕ) → NormalDerives N (Kind k) w ↔ (w ≡ k ∷ [])
  -- a set derives one of its kinds, and a number that no set has derives nothing
  pub set : (i : ℕ) (w : List ℕ) → NormalDerives N (Set i) w ↔ ((ks : List ℕ) × (k : ℕ) × (slice_get N.sets i ≡ Some ks) × Contains ks k × (w ≡ k ∷ []))
  -- a number that no rule has derives nothing
  pub no_rule : (r : ℕ) (w : List ℕ) → slice_get N.rules r ≡ None → ¬ NormalDerives N (Rule r) w
  -- a regular rule derives what one of its alternatives does
  pub regular : (r : ℕ) (alts : List (List Sym)) (w : List ℕ) → slice_get N.rules r ≡ Some (RuleForm.regular alts) →
      NormalDerives N (Rule r) w ↔ ((alt : List Sym) × Contains alts alt × NormalDerivesSeq N alt w)
  -- which is one with a number, counted from 0
  pub numbered : (r : ℕ) (alts : List (List Sym)) (w : List ℕ) → slice_get N.rules r ≡ Some (RuleForm.regular alts) →
      NormalDerives N (Rule r) w ↔ ((a : ℕ) × (alt : List Sym) × (slice_get alts a ≡ Some alt) × NormalDerivesSeq N alt w)
  -- a regular rule without alternatives derives nothing
  pub no_alternative : (r : ℕ) (w : List ℕ) → slice_get N.rules r ≡ Some (RuleForm.regular []) → ¬ NormalDerives N (Rule r) w
  -- an optional derives the empty list, and what its symbol does
  pub opt : (r : ℕ) (s : Sym) (w : List ℕ) → slice_get N.rules r ≡ Some (RuleForm.opt s) →
      NormalDerives N (Rule r) w ↔ ((w ≡ []) ⊎ NormalDerives N s w)
  -- a star derives its symbol any number of times
  pub star : (r : ℕ) (s : Sym) (w : List ℕ) → slice_get N.rules r ≡ Some (RuleForm.star s) →
      NormalDerives N (Rule r) w ↔ NormalDerivesMany N s w
  -- a plus derives its symbol once, and then any number of times
  pub plus : (r : ℕ) (s : Sym) (w : List ℕ) → slice_get N.rules r ≡ Some (RuleForm.plus s) →
      NormalDerives N (Rule r) w ↔ CutsInto (NormalDerives N s) (NormalDerivesMany N s) w
  -- any number of times is not at all, or once and then any number of times
  pub many : (s : Sym) (w : List ℕ) → NormalDerivesMany N s w ↔ ((w ≡ []) ⊎ CutsInto (NormalDerives N s) (NormalDerivesMany N s) w)
  -- any number of times, and then any number of times again
  pub many_append : (s : Sym) (u v : List ℕ) → NormalDerivesMany N s u → NormalDerivesMany N s v → NormalDerivesMany N s (u ++ v)
  -- no symbols derive the empty list
  pub done : (w : List ℕ) → NormalDerivesSeq N [] w ↔ (w ≡ [])
  -- one symbol alone derives what it derives
  pub one : (s : Sym) (w : List ℕ) → NormalDerivesSeq N (s ∷ []) w ↔ NormalDerives N s w
  -- symbols one after another derive what is cut into what the first derives and what the rest does
  pub next : (s : Sym) (ss : List Sym) (w : List ℕ) → NormalDerivesSeq N (s ∷ ss) w ↔ CutsInto (NormalDerives N s) (NormalDerivesSeq N ss) w
  -- symbols, and then others
  pub append : (ss ts : List Sym) (w : List ℕ) → NormalDerivesSeq N (ss ++ ts) w ↔ CutsInto (NormalDerivesSeq N ss) (NormalDerivesSeq N ts) w

-- The rule b can be first in what a rule of this form derives: it is in an alternative, after
-- symbols that derive the empty list; or the form is a star, plus or optional of it.
abbrev pub CanBeFirst : NormalForm → ℕ → RuleForm → Type 0
CanBeFirst N b (RuleForm.regular alts) = (before : List Sym) × (after : List Sym) × Contains alts (before ++ Rule b ∷ after) × NormalDerivesSeq N before []
CanBeFirst N b (RuleForm.star s) = s ≡ Rule b
CanBeFirst N b (RuleForm.plus s) = s ≡ Rule b
CanBeFirst N b (RuleForm.opt s) = s ≡ Rule b

-- The rule b is a left corner of the rule a.
abbrev pub IsNormalCorner : NormalForm → ℕ → ℕ → Type 0
IsNormalCorner N a b = (form : RuleForm) × (slice_get N.rules a ≡ Some form) × CanBeFirst N b form

-- Left corners lead from the rule a to the rule b, by so many steps.
pub data NormalLeadsTo (N : NormalForm) : ℕ → ℕ → ℕ → Type 0 where
  no_step : (a : ℕ) → NormalLeadsTo N 0 a a
  one_more : (n a m b : ℕ) → NormalLeadsTo N n a m → IsNormalCorner N m b → NormalLeadsTo N (suc n) a b

-- No rule of a normal form is on a cycle of left corners.
abbrev pub NoLeftRecursion : Type 0
NoLeftRecursion = (N : NormalForm) → IsNormal N → (n r : ℕ) → ¬ NormalLeadsTo N (suc n) r r

-- In a normal form left corners lead on by fewer steps than there are rules.
abbrev pub CornerChainsAreShort : Type 0
CornerChainsAreShort = (N : NormalForm) → IsNormal N → (n a b : ℕ) → NormalLeadsTo N n a b → n < length N.rules

-- Left corners lead on from the rule by finitely many steps alone: so they do from each of
-- its left corners. A recursion from rules to their left corners ends by this.
pub data CornersEnd (N : NormalForm) : ℕ → Type 0 where
  of_corners : (a : ℕ) → ((b : ℕ) → IsNormalCorner N a b → CornersEnd N b) → CornersEnd N a

-- In a normal form left corners end from each rule.
abbrev pub AllCornersEnd : Type 0
AllCornersEnd = (N : NormalForm) → IsNormal N → (a : ℕ) → CornersEnd N a
