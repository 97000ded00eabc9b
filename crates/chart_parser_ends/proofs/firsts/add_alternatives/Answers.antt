use Rattle.std.proofs.Common.{◌∙◌, ap, subst, arith}
use Rattle.std.proofs.lemmas.List.{length-map}
use Rattle.chart_parser_ends.specs.inner.Firsts.{CoversAlternative}
use Rattle.chart_parser_ends.proofs.FirstRows.{covers_all, covers_first_more}
use Rattle.chart_parser_ends.proofs.firsts.add_alternatives.Goals as goal

pub loop-symbols-preserved : goal.loop-symbols-preserved
loop-symbols-preserved c =
    let N = c.args.normal.now in
    let rows = c.args.rows.now in
    let new = c.add_alternative.new.row in
    let covers =
    subst (λ alt. CoversAlternative N rows alt new) (c.deref.ensures.value ∙ ap (λ v. v.items) c.symbols-item.is) c.add_alternative.ensures.covers in (
      c.add_alternative.ensures.len ∙ c.loop-symbols.invariant.0,
      covers_first_more N rows c.args.alternatives.now c.loop-symbols.symbols-index c.symbols-item.result c.loop-symbols.row new c.add_alternative.ensures.kept
          covers c.loop-symbols.invariant.1,
    )

pub returns-clause-covers : goal.returns-clause-covers
returns-clause-covers c =
    let alts = c.args.alternatives.now in
    covers_all c.args.normal.now c.args.rows.now alts c.loop-symbols.symbols-index c.loop-symbols.row
    (omega (arith, c.loop-symbols-test.false, length-map alts (λ alt. alt.items))) c.loop-symbols.invariant.1
