use Rattle.std.proofs.Common.{List, arith, false, get_or, refl, subst, sym, true, ◌+◌, ◌∙◌, ◌≡◌}
use Rattle.chart_parser_ends.specs.Input.{ChartInput}
use Rattle.chart_parser_prefix.proofs.Growing.{contains_none, read_at}
use Rattle.chart_parser_prefix.proofs.Walking.{goes_on, none_more, stops}
use Rattle.normal_form.specs.declared.normal.Sym.{Sym}
use Rattle.normal_form.specs.declared.normal.Sym.TheVariants.{Kind}
use Rattle.normal_form.specs.Spans.{DerivesSpan}
use Rattle.std.proofs.lemmas.List.{take_all}
use Rattle.std.proofs.lemmas.List.Elements.{Contains-get_or}
use Rattle.std.specs.List.{Contains}
use Rattle.chart_parser_prefix.proofs.search.PrefixSearch.goes_on.Goals as goal

false_true : false ≡ true → ⊥
false_true e = absurd (cc)

pub loop-symbol-init : goal.loop-symbol-init
loop-symbol-init c = record { same = refl; none = λ s h. absurd (contains_none s h) }

pub returns-then-branch-clause-answer : goal.returns-then-branch-clause-answer
returns-then-branch-clause-answer c =
    let N = c.args.self.now.normal.now in
    let K = c.args.self.now.kinds.now in
    let p = c.args.position in
    let i = c.loop-symbol.symbol-index in
    let symbols = c.as_slice-symbols.result.now in
    let s = get_or symbols i (Kind 0) in
    let at =
    c.as_slice-symbols.ensures.value ∙ read_at c.args.lists.now p c.index-lists-position.result
    (omega (arith, c.requires.walk.count, c.requires.within)) c.index-lists-position.is in
    let d =
    subst (λ (x : ChartInput). DerivesSpan x.normal x.kinds s p (p + 1)) (c.loop-symbol.invariant.same ∙ c.requires.chart)
    (c.in_ok-is_next.ensures.yes c.if-branch.true) in
    let there = subst (λ (l : List Sym). Contains l s) at (Contains-get_or symbols i (Kind 0) c.loop-symbol-test.true) in
    (λ t. goes_on N K c.args.self.now.start p c.args.lists.now c.requires.walk c.requires.closed s there d, λ v. refl)

pub loop-symbol-preserved : goal.loop-symbol-preserved
loop-symbol-preserved c =
    let N = c.args.self.now.normal.now in
    let K = c.args.self.now.kinds.now in
    let p = c.args.position in
    let i = c.loop-symbol.symbol-index in
    let symbols = c.as_slice-symbols.result.now in
    let same = c.loop-symbol.invariant.same in
    let no = subst (λ (x : ChartInput). DerivesSpan x.normal x.kinds (get_or symbols i (Kind 0)) p (p + 1) → ⊥) (same ∙ c.requires.chart) in
    record {
      same = c.in_ok-is_next.ensures.same ∙ same;
      none =
          λ s h token d. none_more N K p symbols i s c.loop-symbol-test.true c.loop-symbol.invariant.none
          (λ one. no (c.in_ok-is_next.ensures.no c.if-branch.false one)) h token d;
    }

pub returns-clause-answer : goal.returns-clause-answer
returns-clause-answer c =
    let N = c.args.self.now.normal.now in
    let K = c.args.self.now.kinds.now in
    let p = c.args.position in
    let symbols = c.as_slice-symbols.result.now in
    let at = c.as_slice-symbols.ensures.value
    ∙ read_at c.args.lists.now p c.index-lists-position.result (omega (arith, c.requires.walk.count, c.requires.within)) c.index-lists-position.is in
    let all = take_all c.loop-symbol.symbol-index symbols c.loop-symbol-test.false in (
      λ e. absurd (false_true e),
      λ v. absurd (stops N K c.args.self.now.start p c.args.lists.now c.requires.walk c.requires.closed c.requires.within
          (λ s h token d. c.loop-symbol.invariant.none s (subst (λ (l : List Sym). Contains l s) (sym (all ∙ at)) h) token d) v),
    )
