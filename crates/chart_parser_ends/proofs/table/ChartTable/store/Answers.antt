use Rattle.std.proofs.Common.{◌++◌, ◌∷◌, [], ap, ◌∙◌, sym, subst}
use Rattle.std.proofs.lemmas.Result.{on_err_weaker, on_ok_weaker}
use Rattle.normal_form.specs.declared.normal.Sym.TheVariants.{Rule}
use Rattle.normal_form.specs.Spans.{DerivesSpan}
use Rattle.chart_parser_ends.specs.inner.Entries.{entry}
use Rattle.chart_parser_ends.specs.inner.Filled.{Filled}
use Rattle.chart_parser_ends.specs.Positions.{HasExactly}
use Rattle.chart_parser_ends.specs.inner.Working.{HasRuleEnds}
use Rattle.chart_parser_ends.proofs.SymbolEnds.{exact_stored}
use Rattle.chart_parser_ends.proofs.table.ChartTable.store.Goals as goal

pub invariant_of-self : goal.invariant_of-self
invariant_of-self c =
    let N = c.self.inside.normal.now in
    let K = c.self.inside.kinds.now in
    let e = c.args.found in
    let exact = subst (λ x. HasRuleEnds x.input.normal x.input.kinds e) (sym c.self.view_is) c.requires in
    record {
      few = c.self.invariant.few;
      positions_are = c.self.invariant.positions_are;
      firsts_are = c.self.invariant.firsts_are;
      exact =
          exact_stored N K c.self.inside.entries c.store.new.self (entry e.rule e.first c.deref.result.now) c.store.result c.self.invariant.exact
          (subst (HasExactly (DerivesSpan N K (Rule e.rule) e.first)) (sym c.deref.ensures.value) exact) c.store.ensures.ok c.store.ensures.err;
    }

pub returns-clause-same : goal.returns-clause-same
returns-clause-same c = ap (λ (f : Filled). f.input) c.self.view_is

pub returns-clause-ok : goal.returns-clause-ok
returns-clause-ok c =
    let e = c.args.found in
    on_ok_weaker c.store.result
    (λ more.
    more ∙ ap (λ (f : Filled). f.entries ++ entry e.rule e.first c.deref.result.now ∷ []) c.self.view_is
    ∙ ap (λ es. c.args.self.now.entries ++ entry e.rule e.first es ∷ []) c.deref.ensures.value)
    c.store.ensures.ok

pub returns-clause-err : goal.returns-clause-err
returns-clause-err c = on_err_weaker c.store.result (λ same. same ∙ ap (λ (f : Filled). f.entries) c.self.view_is) c.store.ensures.err
