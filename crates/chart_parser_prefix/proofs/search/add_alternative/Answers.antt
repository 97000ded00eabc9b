use Rattle.std.proofs.Common.{List, ap, arith, get_or, length, refl, subst, sym, take, ℕ, ◌∙◌}
use Rattle.chart_parser_ends.proofs.Lent.{lists}
use Rattle.chart_parser_ends.specs.Input.{ChartInput}
use Rattle.chart_parser_ends.specs.Positions.{HasExactly}
use Rattle.chart_parser_ends.specs.inner.Working.{DerivesFrom}
use Rattle.chart_parser_prefix.proofs.Alternatives.{alternative_all, alternative_more, begun, next_reached, none_early}
use Rattle.chart_parser_prefix.proofs.Growing.{grown_none}
use Rattle.chart_parser_prefix.specs.inner.Walk.{ExpectsAll, IsAtOneOf, IsGrownBy}
use Rattle.normal_form.specs.declared.normal.Sym.TheVariants.{Kind}
use Rattle.normal_form.specs.Spans.{DerivesSpanSeq}
use Rattle.std.specs.List.{Contains}
use Rattle.chart_parser_prefix.proofs.search.add_alternative.Goals as goal

pub loop-symbol-init : goal.loop-symbol-init
loop-symbol-init c =
    let N = c.args.chart.now.normal in
    let K = c.args.chart.now.kinds in
    let alt = c.args.symbols.now in
    record {
      same = refl;
      reached =
          subst (HasExactly (DerivesSpanSeq N K (take 0 alt) c.args.first)) (sym c.in_ok-reached.ensures.items) (begun N K alt c.args.first c.requires.within);
      grown = grown_none c.args.lists.now.items;
      early = none_early N K alt c.args.first c.args.lists.now.items;
    }

pub add_at_each-requires : goal.add_at_each-requires
add_at_each-requires c m h =
    let inv = c.loop-symbol.invariant in
    let K = c.args.chart.now.kinds in
    let front = take c.loop-symbol.symbol-index c.args.symbols.now in
    let span = inv.reached.only m (subst (λ (l : List ℕ). Contains l m) c.deref.ensures.value h) in
    omega (arith, (((lists c.args.chart.now.normal K).seq front c.args.first m).0 span).1, inv.grown.count, c.requires.count)

pub ends_from-requires : goal.ends_from-requires
ends_from-requires c = c.requires.last ∙ ap (λ (x : ChartInput). length x.kinds) (sym c.loop-symbol.invariant.same)

pub loop-symbol-preserved : goal.loop-symbol-preserved
loop-symbol-preserved c =
    let N = c.args.chart.now.normal in
    let K = c.args.chart.now.kinds in
    let alt = c.args.symbols.now in
    let first = c.args.first in
    let inv = c.loop-symbol.invariant in
    let i = c.loop-symbol.symbol-index in
    let s = get_or alt i (Kind 0) in
    let mid = c.loop-symbol.lists.items in
    let new = c.add_at_each.new.lists.items in
    let reached = c.loop-symbol.reached.items in
    let next = c.in_ok-reached-2.reached.items in
    let grown = subst (λ (l : List ℕ). IsGrownBy (IsAtOneOf s l) mid new) c.deref.ensures.value c.in_ok-add_at_each.ensures.grown in
    let all = subst (λ (l : List ℕ). ExpectsAll (IsAtOneOf s l) new) c.deref.ensures.value c.in_ok-add_at_each.ensures.all in
    let more =
    alternative_more N K alt i first (Kind 0) reached c.args.lists.now.items mid new c.loop-symbol-test.true inv.reached inv.grown inv.early grown all in
    let from =
    subst (λ (x : ChartInput). HasExactly (DerivesFrom x.normal x.kinds s c.deref-in-loop-symbol.result.now) next) inv.same c.in_ok-reached-2.ensures.ends in
    let ends = subst (λ (l : List ℕ). HasExactly (DerivesFrom N K s l) next) c.deref-in-loop-symbol.ensures.value from in
    record {
      same = c.in_ok-reached-2.ensures.same ∙ inv.same;
      reached = next_reached N K alt i first (Kind 0) reached next c.loop-symbol-test.true inv.reached ends;
      grown = more.0;
      early = more.1;
    }

pub returns-clause-all : goal.returns-clause-all
returns-clause-all c =
    alternative_all c.args.chart.now.normal c.args.chart.now.kinds c.args.symbols.now c.loop-symbol.symbol-index c.args.first c.loop-symbol.lists.items
    c.loop-symbol-test.false c.loop-symbol.invariant.early
