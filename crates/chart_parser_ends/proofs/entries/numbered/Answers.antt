use Rattle.std.proofs.Common.{sym, subst, arith}
use Rattle.std.proofs.lemmas.List.Elements.{Contains-get_or}
use Rattle.chart_parser_ends.specs.inner.Ranges.{IsNumberOf}
use Rattle.chart_parser_ends.proofs.Numbered.{number_is, number_within}
use Rattle.chart_parser_ends.proofs.entries.numbered.Goals as goal

pub bounds-ranges-number : goal.bounds-ranges-number
bounds-ranges-number c =
    let ranges = c.args.ranges.now in
    let is = subst (IsNumberOf ranges c.args.rule c.args.first) (sym c.in-Some.ensures.value) (c.requires c.args.rule c.args.first) in
    omega (arith, number_within ranges c.args.rule c.args.first c.in-Some.number.now is)

pub returns-in-Some-clause-found : goal.returns-in-Some-clause-found
returns-in-Some-clause-found c =
    let ranges = c.args.ranges.now in
    let is = subst (IsNumberOf ranges c.args.rule c.args.first) (sym c.in-Some.ensures.value) (c.requires c.args.rule c.args.first) in
    Contains-get_or ranges c.in-Some.number.now _ (number_within ranges c.args.rule c.args.first c.in-Some.number.now is)

pub returns-in-Some-clause-of : goal.returns-in-Some-clause-of
returns-in-Some-clause-of c =
    let ranges = c.args.ranges.now in
    let is = subst (IsNumberOf ranges c.args.rule c.args.first) (sym c.in-Some.ensures.value) (c.requires c.args.rule c.args.first) in
    number_is ranges c.args.rule c.args.first c.in-Some.number.now _ is

pub returns-in-None-clause-none : goal.returns-in-None-clause-none
returns-in-None-clause-none c =
    subst (IsNumberOf c.args.ranges.now c.args.rule c.args.first) (sym c.in-None.ensures.value) (c.requires c.args.rule c.args.first)
