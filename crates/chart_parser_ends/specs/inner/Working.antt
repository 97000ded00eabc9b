-- What the work on an entry has come to.
use Rattle.std.specs.Prelude.{◌≡◌, ◌⊎◌, ℕ, ◌+◌, ◌*◌, ◌^◌, ◌<◌, ◌≤◌, Bool, true, false, List, [], take, length, Some, None, slice_get, slice_index_or}
use Rattle.std.specs.List.{Contains}
use Rattle.std.specs.List.Sorted.{IsStrictlyIncreasing}
use Rattle.normal_form.specs.declared.normal.Sym.{Sym}
use Rattle.normal_form.specs.declared.normal.Sym.TheVariants.{Kind, Rule}
use Rattle.normal_form.specs.Form.{RuleForm, NormalForm}
use Rattle.normal_form.specs.Spans.{DerivesSpan, DerivesSpanSeq, DerivesSpanMany}
use Rattle.chart_parser_ends.specs.declared.choice.Choice.{Choice}
use Rattle.chart_parser_ends.specs.declared.optional.Optional.{Optional}
use Rattle.chart_parser_ends.specs.declared.repetition.Repetition.{Repetition}
use Rattle.chart_parser_ends.specs.declared.work.RuleEnds.{RuleEnds}
use Rattle.chart_parser_ends.specs.declared.work.Step.{Step}
use Rattle.chart_parser_ends.specs.declared.work.Step.TheVariants.{Done, Needs}
use Rattle.chart_parser_ends.specs.declared.work.Work.{Work}
use Rattle.chart_parser_ends.specs.declared.work.Work.TheVariants as W
use Rattle.chart_parser_ends.specs.Positions.{HasExactly}

-- The rule has these alternatives; where there is no such rule, it has none.
abbrev pub HasAlternatives : NormalForm → ℕ → List (List Sym) → Type 0
HasAlternatives N r alts = (slice_get N.rules r ≡ Some (RuleForm.regular alts)) ⊎ ((slice_get N.rules r ≡ None) × (alts ≡ []))

-- One of the first alternatives, fewer than a, derives the kinds from i up to but not including j.
abbrev pub DerivesEarlier : NormalForm → List ℕ → List (List Sym) → ℕ → ℕ → ℕ → Type 0
DerivesEarlier N kinds alts a i j = (b : ℕ) × (alt : List Sym) × (b < a) × (slice_get alts b ≡ Some alt) × DerivesSpanSeq N kinds alt i j

-- The symbol derives the kinds from one of these positions up to but not including j.
abbrev pub DerivesFrom : NormalForm → List ℕ → Sym → List ℕ → ℕ → Type 0
DerivesFrom N kinds s positions j = (p : ℕ) × Contains positions p × DerivesSpan N kinds s p j

abbrev pub alternative_at : List (List Sym) → ℕ → List Sym
alternative_at alts a = slice_index_or alts a []

abbrev pub symbol_at : List Sym → ℕ → Sym
symbol_at alt k = slice_index_or alt k (Kind 0)

-- The work on a rule with alternatives.
pub record IsChoice (N : NormalForm) (kinds : List ℕ) (w : Choice) : Type 0 where
  pub alts : List (List Sym)
  pub has : HasAlternatives N w.rule alts
  pub within : w.first ≤ length kinds
  pub ends : HasExactly (DerivesEarlier N kinds alts w.alternative w.first) w.ends.items
  pub current : HasExactly (DerivesSpanSeq N kinds (take w.symbol (alternative_at alts w.alternative)) w.first) w.current.items
  pub next : HasExactly (DerivesFrom N kinds (symbol_at (alternative_at alts w.alternative) w.symbol) (take w.done w.current.items)) w.next.items

-- The work on an optional.
pub record IsOptional (N : NormalForm) (kinds : List ℕ) (w : Optional) : Type 0 where
  pub optional : slice_get N.rules w.rule ≡ Some (RuleForm.opt w.symbol)
  pub within : w.first ≤ length kinds

abbrev pub repeated : Bool → Sym → RuleForm
repeated true s = RuleForm.plus s
repeated false s = RuleForm.star s

-- The positions are reached by the symbol from `first`, any number of times. All that it reaches
-- from those of them before `from` is among them, and from those that are covered.
pub record IsClosing (N : NormalForm) (kinds : List ℕ) (s : Sym) (first : ℕ) (reached : List ℕ) (from : ℕ) (covered : List ℕ) : Type 0 where
  pub rising : IsStrictlyIncreasing reached
  pub rising_covered : IsStrictlyIncreasing covered
  pub has : Contains reached first
  pub sound : (j : ℕ) → Contains reached j → DerivesSpanMany N kinds s first j
  pub closed : (p j : ℕ) → Contains reached p → p < from → DerivesSpan N kinds s p j → Contains reached j
  pub closed_covered : (p j : ℕ) → Contains covered p → DerivesSpan N kinds s p j → Contains reached j

-- The work on a star or plus.
pub record IsRepetition (N : NormalForm) (kinds : List ℕ) (w : Repetition) : Type 0 where
  pub repeats : slice_get N.rules w.rule ≡ Some (repeated w.plus w.symbol)
  pub closing : IsClosing N kinds w.symbol w.first w.reached.items w.from w.covered.items

-- the least of the positions from `from` on
pub record IsNext (positions : List ℕ) (from position : ℕ) : Type 0 where
  pub has : Contains positions position
  pub above : from ≤ position
  pub least : (x : ℕ) → Contains positions x → from ≤ x → position ≤ x

abbrev pub IsWork : NormalForm → List ℕ → Work → Type 0
IsWork N kinds (W.Choice w) = IsChoice N kinds w
IsWork N kinds (W.Optional w) = IsOptional N kinds w
IsWork N kinds (W.Repetition w) = IsRepetition N kinds w

-- the rule and the position of the work
abbrev pub rule_of : Work → ℕ
rule_of (W.Choice w) = w.rule
rule_of (W.Optional w) = w.rule
rule_of (W.Repetition w) = w.rule

abbrev pub first_of : Work → ℕ
first_of (W.Choice w) = w.first
first_of (W.Optional w) = w.first
first_of (W.Repetition w) = w.first

-- The work is on the rule at the position `first`.
pub record IsOn (rule first : ℕ) (w : Work) : Type 0 where
  pub rule_is : rule_of w ≡ rule
  pub first_is : first_of w ≡ first

-- It has exactly the positions where its rule can end.
abbrev pub HasRuleEnds : NormalForm → List ℕ → RuleEnds → Type 0
HasRuleEnds N kinds e = HasExactly (DerivesSpan N kinds (Rule e.rule) e.first) e.ends.items

abbrev pub IsStep : NormalForm → List ℕ → Step → Type 0
IsStep N kinds (Done e) = HasRuleEnds N kinds e
IsStep N kinds (Needs w rule first) = IsWork N kinds w × (first ≤ length kinds)

-- The step is one of the work on the rule at the position `first`.
abbrev pub IsStepOn : ℕ → ℕ → Step → Type 0
IsStepOn rule first (Done e) = (e.rule ≡ rule) × (e.first ≡ first)
IsStepOn rule first (Needs w _ _) = IsOn rule first w

-- how far the work on a rule with alternatives has come: it grows with each step in place
abbrev pub choice_progress : Choice → ℕ
choice_progress w = (w.alternative * 2 ^ 64 + w.symbol) * 2 ^ 64 + w.done

-- The choice is done, or waits where it has come to since `from`: it never begins anew.
abbrev pub IsChoiceOnward : ℕ → Step → Type 0
IsChoiceOnward from (Done e) = Unit {0}
IsChoiceOnward from (Needs (W.Choice w) _ _) = from ≤ choice_progress w
IsChoiceOnward from (Needs _ _ _) = ⊥

-- The repetition is done, or waits at the position `from` or a later one: it never begins anew.
abbrev pub IsOnward : ℕ → Step → Type 0
IsOnward from (Done e) = Unit {0}
IsOnward from (Needs (W.Repetition w) _ _) = from ≤ w.from
IsOnward from (Needs _ _ _) = ⊥
