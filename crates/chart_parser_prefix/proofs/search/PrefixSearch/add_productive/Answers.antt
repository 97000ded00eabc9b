use Rattle.std.proofs.Common.{ap, arith, false, length, subst, sym, true, ◌∙◌, ◌≡◌}
use Rattle.chart_parser_ends.specs.Input.{ChartInput}
use Rattle.chart_parser_prefix.proofs.Growing.{grown_none, grown_weaker}
use Rattle.chart_parser_prefix.specs.inner.Expected.{IsInAlternative}
use Rattle.chart_parser_prefix.specs.inner.Productive.{AreProductive}
use Rattle.chart_parser_prefix.specs.inner.Walk.{ExpectsAll, IsGrownBy}
use Rattle.chart_parser_prefix.proofs.search.PrefixSearch.add_productive.Goals as goal

false_true : false ≡ true → ⊥
false_true e = absurd (cc)

pub all_derive_some-requires : goal.all_derive_some-requires
all_derive_some-requires c = subst (AreProductive c.args.self.now.normal.now) (sym c.deref.ensures.value) c.requires.productive

pub returns-then-not-all_derive_some-clause-grown : goal.returns-then-not-all_derive_some-clause-grown
returns-then-not-all_derive_some-clause-grown c = grown_none c.args.lists.now.items

pub returns-then-not-all_derive_some-clause-all : goal.returns-then-not-all_derive_some-clause-all
returns-then-not-all_derive_some-clause-all c s m h = absurd (false_true (sym c.if-not-all_derive_some.true ∙ c.all_derive_some.ensures.1 h.0))

pub add_alternative-requires-clause-last : goal.add_alternative-requires-clause-last
add_alternative-requires-clause-last c = c.last.ensures ∙ ap (λ (x : ChartInput). length x.kinds) (sym c.requires.chart)

pub add_alternative-requires-clause-within : goal.add_alternative-requires-clause-within
add_alternative-requires-clause-within c = omega (arith, c.requires.within, ap (λ (x : ChartInput). length x.kinds) c.requires.chart)

pub add_alternative-requires-clause-count : goal.add_alternative-requires-clause-count
add_alternative-requires-clause-count c = omega (arith, c.requires.count, ap (λ (x : ChartInput). length x.kinds) c.requires.chart)

pub returns-clause-grown : goal.returns-clause-grown
returns-clause-grown c =
    let some = c.all_derive_some.ensures.0 c.if-not-all_derive_some.false in
    let grown =
    subst (λ (x : ChartInput). IsGrownBy (IsInAlternative x.normal x.kinds c.args.symbols.now c.args.first) c.args.lists.now.items
    c.add_alternative.new.lists.items) c.requires.chart c.in_ok-add_alternative.ensures.grown in
    grown_weaker (λ s m x. (some, x)) grown

pub returns-clause-all : goal.returns-clause-all
returns-clause-all c s m h =
    subst (λ (x : ChartInput). ExpectsAll (IsInAlternative x.normal x.kinds c.args.symbols.now c.args.first) c.add_alternative.new.lists.items) c.requires.chart
    c.in_ok-add_alternative.ensures.all s m h.1
