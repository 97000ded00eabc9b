use Rattle.std.proofs.Common.{ℕ, List, [], ◌≤◌, ◌-◌, ◌≡◌, length, take, drop, refl, sym, ◌∙◌, ap, subst, arith}
use Rattle.std.proofs.lemmas.List.{take_rest}
use Rattle.normal_form.specs.Spans.{DerivesSpanMany}
use Rattle.chart_parser_ends.specs.Input.{ChartInput}
use Rattle.chart_parser_ends.specs.Positions.{EndsUpTo, HasAll, HasExactly, IsGrown}
use Rattle.chart_parser.specs.inner.GoingOn.{ElementsGoOn, HasEndsOfElements, IsClosedBefore, MovesOn}
use Rattle.chart_parser.specs.inner.Parts.{AreElements}
use Rattle.chart_parser.proofs.Asking.{on_ok}
use Rattle.chart_parser.proofs.ElementEnds.{begins_before, ends_before, ends_closed, ends_of_elements, no_elements, one_element_after, within_kinds}
use Rattle.chart_parser.proofs.elements.add_list.Goals as goal

pub returns-then-part-clause-elements : goal.returns-then-part-clause-elements
returns-then-part-clause-elements c =
    no_elements c.args.chart.now.normal c.args.chart.now.kinds c.args.symbol c.args.part.first c.args.part.end c.args.elements.now.items c.requires.none
    c.if-part.true c.requires.derived

pub returns-then-branch-clause-elements : goal.returns-then-branch-clause-elements
returns-then-branch-clause-elements c =
    let d = c.in_ok-reaches.ensures.answer.0 c.if-branch.true in
    one_element_after c.args.chart.now.normal c.args.chart.now.kinds c.args.symbol c.args.part.first c.args.part.end _ c.args.elements.now.items
    c.push.new.self.items (c.requires.moves_on c.args.part.first c.args.part.end d) d refl refl refl c.requires.none c.in_ok-push.ensures.items

pub keep_going_on-requires-clause-before : goal.keep_going_on-requires-clause-before
keep_going_on-requires-clause-before c =
    let new = c.add_ends.new.positions.items in
    let i = c.args.part.first in
    let j = c.args.part.end in
    let lt = begins_before c.args.chart.now.normal c.args.chart.now.kinds c.args.symbol i j c.requires.derived c.if-part.false in
    let grown =
    subst (λ (x : ChartInput). IsGrown (EndsUpTo x.normal x.kinds c.args.part.slot i (j - 1)) [] new) c.in_ok-reaches.ensures.same
    (subst (λ (l : List ℕ). IsGrown (EndsUpTo c.reaches.new.self.normal c.reaches.new.self.kinds c.args.part.slot i (j - 1)) l
    new) c.new-positions.ensures.items c.in_ok-add_ends.ensures.grown) in
    let all =
    subst (λ (x : ChartInput). HasAll (EndsUpTo x.normal x.kinds c.args.part.slot i (j - 1)) new) c.in_ok-reaches.ensures.same c.in_ok-add_ends.ensures.all in
    ends_before c.args.chart.now.normal c.args.chart.now.kinds c.args.symbol c.args.part.slot i j c.requires.list lt new grown all

pub keep_going_on-requires-clause-closed : goal.keep_going_on-requires-clause-closed
keep_going_on-requires-clause-closed c =
    let new = c.add_ends.new.positions.items in
    let i = c.args.part.first in
    let j = c.args.part.end in
    let lt = begins_before c.args.chart.now.normal c.args.chart.now.kinds c.args.symbol i j c.requires.derived c.if-part.false in
    let grown = subst (λ (x : ChartInput). IsGrown (EndsUpTo x.normal x.kinds c.args.part.slot i (j - 1)) [] new) c.in_ok-reaches.ensures.same
    (subst (λ (l : List ℕ). IsGrown (EndsUpTo c.reaches.new.self.normal c.reaches.new.self.kinds c.args.part.slot i (j - 1)) l new)
    c.new-positions.ensures.items c.in_ok-add_ends.ensures.grown) in
    let all = subst (λ (x : ChartInput). HasAll (EndsUpTo x.normal x.kinds c.args.part.slot i (j - 1)) new) c.in_ok-reaches.ensures.same
    c.in_ok-add_ends.ensures.all in
    let same = c.in_ok-add_ends.ensures.same ∙ c.in_ok-reaches.ensures.same in
    subst (λ (x : ChartInput). IsClosedBefore x.normal x.kinds c.args.symbol j new) (sym same)
    (ends_closed c.args.chart.now.normal c.args.chart.now.kinds c.args.symbol c.args.part.slot i j c.requires.list lt new grown all c.requires.moves_on)

pub keep_going_on-requires-clause-moves_on : goal.keep_going_on-requires-clause-moves_on
keep_going_on-requires-clause-moves_on c =
    subst (λ (x : ChartInput). MovesOn x.normal x.kinds c.args.symbol) (sym (c.in_ok-add_ends.ensures.same ∙ c.in_ok-reaches.ensures.same)) c.requires.moves_on

pub keep_going_on-requires-clause-within : goal.keep_going_on-requires-clause-within
keep_going_on-requires-clause-within c =
    subst (λ (x : ChartInput). c.args.part.end ≤ length x.kinds) (sym (c.in_ok-add_ends.ensures.same ∙ c.in_ok-reaches.ensures.same))
    (within_kinds c.args.chart.now.normal c.args.chart.now.kinds c.args.symbol c.args.part.first c.args.part.end c.requires.derived)

pub add_elements-requires-clause-ends : goal.add_elements-requires-clause-ends
add_elements-requires-clause-ends c =
    let new = c.add_ends.new.positions.items in
    let i = c.args.part.first in
    let j = c.args.part.end in
    let from = c.in_ok-from.from in
    let lt = begins_before c.args.chart.now.normal c.args.chart.now.kinds c.args.symbol i j c.requires.derived c.if-part.false in
    let grown = subst (λ (x : ChartInput). IsGrown (EndsUpTo x.normal x.kinds c.args.part.slot i (j - 1)) [] new)
    c.in_ok-reaches.ensures.same (subst (λ (l : List ℕ). IsGrown (EndsUpTo c.reaches.new.self.normal c.reaches.new.self.kinds c.args.part.slot i (j - 1)) l new)
    c.new-positions.ensures.items c.in_ok-add_ends.ensures.grown) in
    let all = subst (λ (x : ChartInput). HasAll (EndsUpTo x.normal x.kinds c.args.part.slot i (j - 1)) new)
    c.in_ok-reaches.ensures.same c.in_ok-add_ends.ensures.all in
    let same = c.in_ok-add_ends.ensures.same ∙ c.in_ok-reaches.ensures.same in
    let ends = drop from c.keep_going_on.new.positions.items in
    let going = subst (λ (x : ChartInput). HasExactly (ElementsGoOn x.normal x.kinds c.args.symbol j new) ends) same c.in_ok-from.ensures.going_on in
    let are = ends_of_elements c.args.chart.now.normal c.args.chart.now.kinds c.args.symbol c.args.part.slot i j c.requires.list lt new grown all ends going in
    let among : take (length c.deref.result.now - from) (drop from c.deref.result.now) ≡ ends =
    take_rest c.deref.result.now from ∙ ap (drop from) c.deref.ensures.value in
    subst (λ (x : ChartInput). HasEndsOfElements x.normal x.kinds c.args.symbol i j (take (length c.deref.result.now - from) (drop from c.deref.result.now)))
    (sym (c.in_ok-from.ensures.same ∙ same)) (subst (HasEndsOfElements c.args.chart.now.normal c.args.chart.now.kinds c.args.symbol i j) (sym among) are)

pub add_elements-requires-clause-derived : goal.add_elements-requires-clause-derived
add_elements-requires-clause-derived c =
    subst (λ (x : ChartInput). DerivesSpanMany x.normal x.kinds c.args.symbol c.args.part.first c.args.part.end)
    (sym (c.in_ok-from.ensures.same ∙ c.in_ok-add_ends.ensures.same ∙ c.in_ok-reaches.ensures.same)) c.requires.derived

pub add_elements-requires-clause-moves_on : goal.add_elements-requires-clause-moves_on
add_elements-requires-clause-moves_on c =
    subst (λ (x : ChartInput). MovesOn x.normal x.kinds c.args.symbol)
    (sym (c.in_ok-from.ensures.same ∙ c.in_ok-add_ends.ensures.same ∙ c.in_ok-reaches.ensures.same)) c.requires.moves_on

pub returns-clause-elements : goal.returns-clause-elements
returns-clause-elements c =
    let same = c.in_ok-from.ensures.same ∙ c.in_ok-add_ends.ensures.same ∙ c.in_ok-reaches.ensures.same in
    let parts = c.add_elements.new.elements.items in
    on_ok c.add_elements.result (AreElements c.keep_going_on.new.chart.normal c.keep_going_on.new.chart.kinds c.args.symbol c.args.part.first c.args.part.end
    parts) (AreElements c.args.chart.now.normal c.args.chart.now.kinds c.args.symbol c.args.part.first c.args.part.end parts)
    (λ h. subst (λ (x : ChartInput). AreElements x.normal x.kinds c.args.symbol c.args.part.first c.args.part.end parts) same h) c.add_elements.ensures.elements

pub overflow_sub-part : goal.overflow_sub-part
overflow_sub-part c =
    omega (
      arith,
      begins_before c.args.chart.now.normal c.args.chart.now.kinds c.args.symbol c.args.part.first c.args.part.end c.requires.derived
          c.if-part.false,
    )
