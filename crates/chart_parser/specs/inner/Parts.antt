-- How the span of a node is cut into those of its children.
use Rattle.std.specs.Prelude.{◌≡◌, ℕ, ◌<◌, ◌≤◌, ◌++◌, List, [], ◌∷◌, Some, drop, length, slice_get}
use Rattle.std.specs.List.{Contains}
use Rattle.std.specs.List.Sorted.{IsStrictlyIncreasing}
use Rattle.normal_form.specs.declared.normal.Sym.{Sym}
use Rattle.normal_form.specs.Form.{RuleForm, NormalForm}
use Rattle.normal_form.specs.Spans.{DerivesSpan, DerivesSpanSeq, DerivesSpanMany}
use Rattle.syntax_tree.specs.Preferred.{IsLeast, IsLongest}
use Rattle.chart_parser.specs.declared.part.Part.{Part}

-- The part is of the symbol, begins at i, and is as long as the rest allows.
pub record IsPart (N : NormalForm) (kinds : List ℕ) (s : Sym) (i : ℕ) (Rest : ℕ → Type 0) (p : Part) : Type 0 where
  pub slot : p.slot ≡ s
  pub first : p.first ≡ i
  pub derived : DerivesSpan N kinds s i p.end
  pub longest : IsLongest N kinds s i p.end Rest

-- The parts of the symbols, one after another, from i up to but not including j.
abbrev pub AreParts : NormalForm → List ℕ → List Sym → ℕ → ℕ → List Part → Type 0
AreParts N kinds [] i j [] = (i ≡ j) × (i ≤ length kinds)
AreParts N kinds [] i j (p ∷ ps) = ⊥
AreParts N kinds (s ∷ ss) i j [] = ⊥
AreParts N kinds (s ∷ ss) i j (p ∷ ps) = IsPart N kinds s i (λ e. DerivesSpanSeq N kinds ss e j) p × AreParts N kinds ss p.end j ps

-- After the old parts come those of the symbols.
abbrev pub HasParts : NormalForm → List ℕ → List Sym → ℕ → ℕ → List Part → List Part → Type 0
HasParts N kinds ss i j old new = (more : List Part) × (new ≡ old ++ more) × AreParts N kinds ss i j more

-- The parts of the first n symbols, which end at p, and with which the symbols derive the kinds only as the others derive those from p on.
pub record IsKnownTo (N : NormalForm) (kinds : List ℕ) (ss : List Sym) (i j n p : ℕ) (parts : List Part) : Type 0 where
  pub count : n ≤ length ss
  pub within : p ≤ length kinds
  pub only : DerivesSpanSeq N kinds ss i j → DerivesSpanSeq N kinds (drop n ss) p j
  pub parts_are : (more : List Part) → AreParts N kinds (drop n ss) p j more → AreParts N kinds ss i j (parts ++ more)

-- The first symbol can end at these positions, which rise, and at no others up to j from which the second one goes on to j.
pub record AreEndsLeft (N : NormalForm) (kinds : List ℕ) (s t : Sym) (i j : ℕ) (ends : List ℕ) : Type 0 where
  pub rising : IsStrictlyIncreasing ends
  pub only : (x : ℕ) → Contains ends x → DerivesSpan N kinds s i x
  pub all : (x : ℕ) → DerivesSpan N kinds s i x → DerivesSpan N kinds t x j → Contains ends x

-- The parts of the symbol any number of times, from i up to but not including j. Over no kinds there is none.
abbrev pub AreElements : NormalForm → List ℕ → Sym → ℕ → ℕ → List Part → Type 0
AreElements N kinds s i j [] = (i ≡ j) × (i ≤ length kinds)
AreElements N kinds s i j (p ∷ ps) = (i < j) × IsPart N kinds s i (λ e. DerivesSpanMany N kinds s e j) p × AreElements N kinds s p.end j ps

-- The part of the symbol alone, if that derives the kinds; else there are none.
abbrev pub IsContent : NormalForm → List ℕ → Sym → ℕ → ℕ → List Part → Type 0
IsContent N kinds s i j [] = (i ≡ j) × (i ≤ length kinds) × (¬ DerivesSpan N kinds s i j)
IsContent N kinds s i j (p ∷ []) = (p.slot ≡ s) × (p.first ≡ i) × (p.end ≡ j) × DerivesSpan N kinds s i j
IsContent N kinds s i j (p ∷ q ∷ ps) = ⊥

-- The parts of the first alternative that derives the kinds, which has the number a.
abbrev pub AreOfLeast : NormalForm → List ℕ → List (List Sym) → ℕ → ℕ → ℕ → List Part → Type 0
AreOfLeast N kinds alts a i j ps = (alt : List Sym) × (slice_get alts a ≡ Some alt) × IsLeast N kinds alts a i j × AreParts N kinds alt i j ps

-- The parts of a rule of this form, which takes the alternative a.
abbrev pub AreOfForm : NormalForm → List ℕ → RuleForm → ℕ → ℕ → ℕ → List Part → Type 0
AreOfForm N kinds (RuleForm.regular alts) a i j ps = AreOfLeast N kinds alts a i j ps
AreOfForm N kinds (RuleForm.opt s) a i j ps = (a ≡ 0) × IsContent N kinds s i j ps
AreOfForm N kinds (RuleForm.star s) a i j ps = (a ≡ 0) × AreElements N kinds s i j ps
AreOfForm N kinds (RuleForm.plus s) a i j ps = (a ≡ 0) × (i < j) × AreElements N kinds s i j ps

-- The parts of the rule.
abbrev pub AreOfRule : NormalForm → List ℕ → ℕ → ℕ → ℕ → ℕ → List Part → Type 0
AreOfRule N kinds r a i j ps = (form : RuleForm) × (slice_get N.rules r ≡ Some form) × AreOfForm N kinds form a i j ps
