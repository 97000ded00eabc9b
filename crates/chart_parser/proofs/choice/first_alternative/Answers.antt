use Rattle.std.proofs.Common.{refl, ◌∙◌, subst, arith}
use Rattle.normal_form.specs.View.{alts_form}
use Rattle.normal_form.specs.Spans.{DerivesSpanSeq}
use Rattle.chart_parser_ends.specs.Input.{ChartInput}
use Rattle.chart_parser.specs.inner.Parts.{AreParts}
use Rattle.chart_parser.proofs.Alternatives.{alternative_before, alternative_is, one_more_refused}
use Rattle.chart_parser.proofs.choice.first_alternative.Goals as goal

pub loop-number-init : goal.loop-number-init
loop-number-init c = (refl, λ b alt l at d. absurd (omega (arith, l)))

pub returns-then-branch-clause-parts : goal.returns-then-branch-clause-parts
returns-then-branch-clause-parts c =
    let symbols = c.deref.result.now in
    let at =
    alternative_is c.args.alternatives.now c.loop-number.number c.index-alternatives-number.result symbols c.loop-number-test.true
    c.index-alternatives-number.is c.deref.ensures.value in (
      symbols,
      at,
      c.loop-number.invariant.1,
      subst (λ (x : ChartInput). AreParts x.normal x.kinds symbols c.args.part.first c.args.part.end c.alternative_parts.new.parts.items)
          c.loop-number.invariant.0 (c.in_ok-alternative_parts.ensures.yes c.if-branch.true),
    )

pub loop-number-preserved : goal.loop-number-preserved
loop-number-preserved c =
    let symbols = c.deref.result.now in
    let at = alternative_is c.args.alternatives.now c.loop-number.number c.index-alternatives-number.result symbols c.loop-number-test.true
    c.index-alternatives-number.is c.deref.ensures.value in
    let no =
    subst (λ (x : ChartInput). DerivesSpanSeq x.normal x.kinds symbols c.args.part.first c.args.part.end → ⊥) c.loop-number.invariant.0
    (c.in_ok-alternative_parts.ensures.no c.if-branch.false) in (
      c.in_ok-alternative_parts.ensures.same ∙ c.loop-number.invariant.0,
      one_more_refused (λ alt. DerivesSpanSeq c.args.chart.now.normal c.args.chart.now.kinds alt c.args.part.first c.args.part.end)
          (alts_form c.args.alternatives.now) c.loop-number.number symbols at no c.loop-number.invariant.1,
    )

pub unreachable-requires : goal.unreachable-requires
unreachable-requires c =
    let (a, alt, at, d) = c.requires.derived in
    c.loop-number.invariant.1 a alt (alternative_before c.args.alternatives.now c.loop-number.number a alt c.loop-number-test.false at) at d
