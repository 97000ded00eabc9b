use Rattle.std.proofs.Common.{◌≡◌, true, false, sym, ◌∙◌}
use Rattle.normal_form.specs.declared.normal.Sym.TheVariants.{Kind}
use Rattle.chart_parser_ends.proofs.FirstRows.{covers_stopped, first_more}
use Rattle.chart_parser_ends.proofs.firsts.add_alternative.Goals as goal

false_true : false ≡ true → ⊥
false_true e = absurd (cc)

pub returns-then-not-may_be_empty-clause-covers : goal.returns-then-not-may_be_empty-clause-covers
returns-then-not-may_be_empty-clause-covers c =
    let N = c.args.normal.now in
    let rows = c.args.rows.now in
    let alt = c.args.symbols.now in
    let n = c.loop-symbol.symbol-index in
    let new = c.add_symbol.new.row in
    covers_stopped N rows alt n (Kind 0) new c.loop-symbol-test.true (λ m. false_true (sym c.if-not-may_be_empty.true ∙ c.may_be_empty.ensures.1 m))
    (first_more N rows alt n (Kind 0) c.loop-symbol.row new c.add_symbol.ensures.kept c.add_symbol.ensures.has c.loop-symbol.invariant.2)
