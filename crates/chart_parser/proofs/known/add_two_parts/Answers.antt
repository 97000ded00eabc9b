use Rattle.std.proofs.Common.{List, ◌∷◌, [], ◌++◌, refl, ◌∙◌, ap, subst, sym, arith, append_assoc}
use Rattle.std.specs.Global.{Vec}
use Rattle.normal_form.specs.Spans.{DerivesSpan}
use Rattle.chart_parser_ends.specs.Input.{ChartInput}
use Rattle.chart_parser.specs.declared.part.Part.{Part}
use Rattle.chart_parser.proofs.KnownParts.{all_ends, fewer_ends, no_ends, not_true, two_at_last}
use Rattle.chart_parser.proofs.known.add_two_parts.Goals as goal

pub loop-end-init : goal.loop-end-init
loop-end-init c = (
  c.in_ok-add_ends.ensures.same,
  refl,
  all_ends c.args.chart.now.normal c.args.chart.now.kinds c.args.symbol c.args.last c.args.part.first c.args.part.end c.new-ends.result.items
      c.add_ends.new.positions.items c.new-ends.ensures.items c.in_ok-add_ends.ensures.rising c.in_ok-add_ends.ensures.grown c.in_ok-add_ends.ensures.all,
)

pub returns-then-branch-clause-yes : goal.returns-then-branch-clause-yes
returns-then-branch-clause-yes c t =
    let part : Part = record { slot = c.args.symbol; first = c.args.part.first; end = c.in-Some.end } in
    let last : Part = record { slot = c.args.last; first = c.in-Some.end; end = c.args.part.end } in
    let on = subst (λ (x : ChartInput). DerivesSpan x.normal x.kinds c.args.last c.in-Some.end c.args.part.end) c.loop-end.invariant.0
    (c.in_ok-reaches.ensures.answer.0 c.if-branch.true) in (
      part ∷ last ∷ [],
      c.in_ok-push-2.ensures.items
          ∙ ap (λ (l : List Part). l ++ last ∷ [])
          (c.in_ok-push.ensures.items ∙ ap (λ (v : Vec Part). v.items ++ part ∷ []) c.loop-end.invariant.1)
          ∙ append_assoc c.args.parts.now.items (part ∷ []) (last ∷ []),
      two_at_last c.args.chart.now.normal c.args.chart.now.kinds c.args.symbol c.args.last c.args.part.first c.args.part.end c.in-Some.end
          c.loop-end.ends.items c.pop.new.self.items part last c.in-Some.ensures.items c.loop-end.invariant.2 on refl refl refl refl refl refl,
    )

pub loop-end-preserved : goal.loop-end-preserved
loop-end-preserved c = (
  c.in_ok-reaches.ensures.same ∙ c.loop-end.invariant.0,
  c.loop-end.invariant.1,
  fewer_ends c.args.chart.now.normal c.args.chart.now.kinds c.args.symbol c.args.last c.args.part.first c.args.part.end c.in-Some.end
      c.loop-end.ends.items c.pop.new.self.items c.in-Some.ensures.items c.loop-end.invariant.2
      (λ d. not_true c.in_ok-reaches.field-0 c.if-branch.false (c.in_ok-reaches.ensures.answer.1
      (subst (λ (x : ChartInput). DerivesSpan x.normal x.kinds c.args.last c.in-Some.end c.args.part.end) (sym c.loop-end.invariant.0) d))),
)

pub returns-clause-no : goal.returns-clause-no
returns-clause-no c e d =
    no_ends c.args.chart.now.normal c.args.chart.now.kinds c.args.symbol c.args.last c.args.part.first c.args.part.end c.loop-end.ends.items
    (omega (arith, c.in_default.ensures.cases.0, c.loop-end.ends.ok)) c.loop-end.invariant.2 d
