-- How the work on a rule goes on.
use Rattle.std.specs.Prelude.{◌≡◌, ℕ, ◌+◌, ◌<◌, ◌≤◌, Bool, List, [], ◌∷◌, length, Option, slice_get}
use Rattle.std.specs.List.{Contains}
use Rattle.std.specs.List.Sorted.{IsStrictlyIncreasing}
use Rattle.normal_form.specs.declared.normal.Sym.{Sym}
use Rattle.normal_form.specs.declared.normal.Sym.TheVariants.{Rule}
use Rattle.normal_form.specs.Form.{NormalForm}
use Rattle.normal_form.specs.Spans.{DerivesSpan}
use Rattle.chart_parser_ends.specs.declared.choice.Choice.{Choice}
use Rattle.chart_parser_ends.specs.declared.repetition.Repetition.{Repetition}
use Rattle.chart_parser_ends.specs.declared.work.Progress.{Progress}
use Rattle.chart_parser_ends.specs.declared.work.Progress.TheVariants.{Done, More, Needs}
use Rattle.chart_parser_ends.specs.Positions.{HasAll, HasExactly, IsGrown}
use Rattle.chart_parser_ends.specs.inner.Working.{HasAlternatives, IsChoice, IsRepetition, alternative_at, symbol_at}

-- It is the alternative with this number, of the rule's alternatives.
abbrev pub FindsAlternative : NormalForm → ℕ → ℕ → Option (List Sym) → Type 0
FindsAlternative N r number found = (alts : List (List Sym)) → HasAlternatives N r alts → found ≡ slice_get alts number

-- The symbol comes next in the work.
abbrev pub IsNextSymbol : NormalForm → Choice → Sym → Type 0
IsNextSymbol N w s = (alts : List (List Sym)) → HasAlternatives N w.rule alts → symbol_at (alternative_at alts w.alternative) w.symbol ≡ s

-- The work on the rule at the position `first` is at the beginning of this alternative.
pub record Begins (rule first alternative : ℕ) (w : Choice) : Type 0 where
  pub same_rule : w.rule ≡ rule
  pub same_first : w.first ≡ first
  pub at : w.alternative ≡ alternative
  pub symbol : w.symbol ≡ 0
  pub current : w.current.items ≡ first ∷ []
  pub done : w.done ≡ 0
  pub next : w.next.items ≡ []

-- The next alternative is begun, and where the work on the last one has come to is among the ends.
pub record HasNextAlternative (old new : Choice) : Type 0 where
  pub begins : Begins old.rule old.first (old.alternative + 1) new
  pub rising : IsStrictlyIncreasing new.ends.items
  pub grown : IsGrown (Contains old.current.items) old.ends.items new.ends.items
  pub all : HasAll (Contains old.current.items) new.ends.items

-- The next symbol is begun, from where the last one ends.
pub record HasNextSymbol (old new : Choice) : Type 0 where
  pub rule : new.rule ≡ old.rule
  pub first : new.first ≡ old.first
  pub alternative : new.alternative ≡ old.alternative
  pub symbol : new.symbol ≡ old.symbol + 1
  pub current : new.current.items ≡ old.next.items
  pub done : new.done ≡ 0
  pub next : new.next.items ≡ []
  pub ends : new.ends.items ≡ old.ends.items

-- The work on a star or plus at the position `first` is at its beginning.
pub record BeginsRepetition (rule first : ℕ) (symbol : Sym) (plus : Bool) (w : Repetition) : Type 0 where
  pub same_rule : w.rule ≡ rule
  pub same_first : w.first ≡ first
  pub same_symbol : w.symbol ≡ symbol
  pub same_plus : w.plus ≡ plus
  pub reached : w.reached.items ≡ first ∷ []
  pub from : w.from ≡ first
  pub covered : w.covered.items ≡ []

-- What an entry has from the position is reached and covered, and all before the next position is gone on from.
pub record TakesEntry (old : Repetition) (position : ℕ) (ends : List ℕ) (new : Repetition) : Type 0 where
  pub rule : new.rule ≡ old.rule
  pub first : new.first ≡ old.first
  pub symbol : new.symbol ≡ old.symbol
  pub plus : new.plus ≡ old.plus
  pub from : new.from ≡ position + 1
  pub rising : IsStrictlyIncreasing new.reached.items
  pub grown : IsGrown (Contains ends) old.reached.items new.reached.items
  pub all : HasAll (Contains ends) new.reached.items
  pub rising_covered : IsStrictlyIncreasing new.covered.items
  pub grown_covered : IsGrown (Contains ends) old.covered.items new.covered.items

-- What a step in place of the work on a rule with alternatives comes to.
abbrev pub IsChoiceProgress : NormalForm → List ℕ → Choice → Progress → Type 0
IsChoiceProgress N kinds w Done = HasExactly (DerivesSpan N kinds (Rule w.rule) w.first) w.ends.items
IsChoiceProgress N kinds w More = IsChoice N kinds w
IsChoiceProgress N kinds w (Needs rule first) = IsChoice N kinds w × (first ≤ length kinds)

-- What a step in place of the work on a star or plus comes to.
abbrev pub IsRepetitionProgress : NormalForm → List ℕ → Repetition → Progress → Type 0
IsRepetitionProgress N kinds w Done = IsRepetition N kinds w × ((x : ℕ) → Contains w.reached.items x → x < w.from)
IsRepetitionProgress N kinds w More = IsRepetition N kinds w
IsRepetitionProgress N kinds w (Needs rule first) = IsRepetition N kinds w × (first ≤ length kinds)

-- The work was at `from`, and is at `to`: a step in place leads on. So it never begins anew.
abbrev pub IsOnwardTo : ℕ → ℕ → Progress → Type 0
IsOnwardTo from to Done = from ≤ to
IsOnwardTo from to More = from < to
IsOnwardTo from to (Needs rule first) = from ≤ to
