use Rattle.std.proofs.Common.{List, arith, refl, subst, ◌∙◌}
use Rattle.chart_parser_prefix.proofs.Alternatives.{alternatives_more, form_at}
use Rattle.chart_parser_prefix.proofs.Growing.{contains_none, grown_none}
use Rattle.chart_parser_prefix.specs.inner.Expected.{IsInAlternatives}
use Rattle.chart_parser_prefix.specs.inner.Walk.{ExpectsAll}
use Rattle.normal_form.specs.View.{alts_form}
use Rattle.normal_form.specs.declared.normal.Sym.{Sym}
use Rattle.std.proofs.lemmas.List.{take_all}
use Rattle.std.specs.Global.{Vec}
use Rattle.std.proofs.lemmas.List.{length-map}
use Rattle.chart_parser_prefix.proofs.search.PrefixSearch.add_alternatives.Goals as goal

pub loop-symbols-init : goal.loop-symbols-init
loop-symbols-init c = record { same = refl; grown = grown_none c.args.lists.now.items; all = λ s m h. absurd (contains_none h.0 h.1) }

pub add_productive-requires-clause-chart : goal.add_productive-requires-clause-chart
add_productive-requires-clause-chart c = c.loop-symbols.invariant.same ∙ c.requires.chart

pub add_productive-requires-clause-count : goal.add_productive-requires-clause-count
add_productive-requires-clause-count c = c.loop-symbols.invariant.grown.count ∙ c.requires.count

pub loop-symbols-preserved : goal.loop-symbols-preserved
loop-symbols-preserved c =
    let N = c.args.self.now.normal.now in
    let K = c.args.self.now.kinds.now in
    let inv = c.loop-symbols.invariant in
    let alts = c.args.alternatives.now in
    let i = c.loop-symbols.symbols-index in
    let alt = c.deref.result.now in
    let at = form_at alts i c.symbols-item.result alt c.loop-symbols-test.true c.symbols-item.is c.deref.ensures.value in
    let more =
    alternatives_more N K (alts_form alts) i c.args.first alt c.args.lists.now.items c.loop-symbols.lists.items c.add_productive.new.lists.items at.0 at.1
    inv.grown inv.all c.in_ok-add_productive.ensures.grown c.in_ok-add_productive.ensures.all in
    record { same = c.in_ok-add_productive.ensures.same ∙ inv.same; grown = more.0; all = more.1 }

pub returns-clause-all : goal.returns-clause-all
returns-clause-all c =
    let alts = c.args.alternatives.now in
    subst (λ (l : List (List Sym)). ExpectsAll
    (IsInAlternatives c.args.self.now.normal.now c.args.self.now.kinds.now l c.args.first) c.loop-symbols.lists.items)
    (take_all c.loop-symbols.symbols-index (alts_form alts) (omega (arith, c.loop-symbols-test.false, length-map alts (λ (a : Vec Sym). a.items))))
    c.loop-symbols.invariant.all
