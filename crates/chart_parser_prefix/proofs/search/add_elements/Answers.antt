use Rattle.std.proofs.Common.{List, arith, subst, sym, ℕ}
use Rattle.chart_parser_ends.proofs.Lent.{many_within}
use Rattle.chart_parser_prefix.proofs.Alternatives.{at_element, element_at}
use Rattle.chart_parser_prefix.proofs.Growing.{grown_weaker}
use Rattle.std.specs.List.{Contains}
use Rattle.chart_parser_prefix.proofs.search.add_elements.Goals as goal

pub add_at_each-requires : goal.add_at_each-requires
add_at_each-requires c m h =
    let N = c.args.chart.now.normal in
    let K = c.args.chart.now.kinds in
    let new = c.add_ends.new.positions.items in
    let many =
    element_at N K c.args.rule c.args.symbol c.args.first c.args.last c.in_ok-reached.reached.items new c.requires.repeats c.requires.within c.requires.last
    c.in_ok-reached.ensures.items c.in_ok-add_ends.ensures.grown c.in_ok-add_ends.ensures.all m
    (subst (λ (l : List ℕ). Contains l m) c.deref.ensures.value h) in
    omega (arith, (many_within many).1, c.requires.count)

pub returns-clause-grown : goal.returns-clause-grown
returns-clause-grown c =
    let N = c.args.chart.now.normal in
    let K = c.args.chart.now.kinds in
    let new = c.add_ends.new.positions.items in
    let at =
    element_at N K c.args.rule c.args.symbol c.args.first c.args.last c.in_ok-reached.reached.items new c.requires.repeats c.requires.within c.requires.last
    c.in_ok-reached.ensures.items c.in_ok-add_ends.ensures.grown c.in_ok-add_ends.ensures.all in
    grown_weaker (λ s m h. (h.0, at m (subst (λ (l : List ℕ). Contains l m) c.deref.ensures.value h.1))) c.in_ok-add_at_each.ensures.grown

pub returns-clause-all : goal.returns-clause-all
returns-clause-all c s m h =
    let N = c.args.chart.now.normal in
    let K = c.args.chart.now.kinds in
    let new = c.add_ends.new.positions.items in
    let at =
    at_element N K c.args.rule c.args.symbol c.args.first c.args.last c.in_ok-reached.reached.items new c.requires.repeats c.requires.within c.requires.last
    c.in_ok-reached.ensures.items c.in_ok-add_ends.ensures.grown c.in_ok-add_ends.ensures.all in
    c.in_ok-add_at_each.ensures.all s m (h.0, subst (λ (l : List ℕ). Contains l m) (sym c.deref.ensures.value) (at m h.1))
