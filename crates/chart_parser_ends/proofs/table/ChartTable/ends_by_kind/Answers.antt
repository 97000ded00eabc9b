use Rattle.std.proofs.Common.{◌≡◌, ◌+◌, ◌-◌, ◌≤◌, true, false, length, [], take, drop, sym, ap, ◌∙◌, subst, arith}
use Rattle.normal_form.specs.declared.normal.Sym.TheVariants.{Rule}
use Rattle.normal_form.specs.Spans.{DerivesSpan}
use Rattle.chart_parser_ends.specs.inner.Firsts.{AreFirsts, MayBeEmpty}
use Rattle.chart_parser_ends.specs.Positions.{HasExactly}
use Rattle.chart_parser_ends.proofs.FirstKinds.{here_exact, left_out_here, none_exact}
use Rattle.chart_parser_ends.proofs.AllPositions.{one_position}
use Rattle.chart_parser_ends.proofs.table.ChartTable.ends_by_kind.Goals as goal

false_true : false ≡ true → ⊥
false_true e = absurd (cc)

pub returns-then-can_be_left_out : goal.returns-then-can_be_left_out
returns-then-can_be_left_out c =
    let N = c.self.inside.normal.now in
    let K = c.self.inside.kinds.now in
    let r = c.args.rule in
    let i = c.args.first in
    let m = i + 1 - i in
    let within = subst (λ x. i ≤ length x.input.kinds) (sym c.self.view_is) c.requires in
    let one =
    ap (λ l. take m (drop i l)) c.deref-then-can_be_left_out.ensures.value
    ∙ one_position (length K) c.self.inside.positions.items i m c.self.invariant.positions_are within (omega arith) in
    let firsts = subst (AreFirsts N) (sym c.deref.ensures.value) c.self.invariant.firsts_are in
    let exact =
    here_exact N K c.deref.result.now firsts r i (c.may_begin_at.ensures c.if-may_begin_at.false)
    (left_out_here N K r i (c.can_be_left_out.ensures c.if-can_be_left_out.true) within) in
    subst (λ x. HasExactly (DerivesSpan x.input.normal x.input.kinds (Rule r) i) (take m (drop i c.deref-then-can_be_left_out.result.now))) c.self.view_is
    (subst (HasExactly (DerivesSpan N K (Rule r) i)) (sym one) exact)

pub returns : goal.returns
returns c =
    let N = c.self.inside.normal.now in
    let K = c.self.inside.kinds.now in
    let r = c.args.rule in
    let i = c.args.first in
    let firsts = subst (AreFirsts N) (sym c.deref.ensures.value) c.self.invariant.firsts_are in
    let same = c.deref.ensures.value ∙ sym c.deref-2.ensures.value in
    let exact =
    none_exact N K c.deref.result.now firsts r i (c.may_begin_at.ensures c.if-may_begin_at.false)
    (λ e. false_true (sym c.if-may_be_empty.false ∙ c.may_be_empty.ensures.1 (subst (λ rows. MayBeEmpty rows (Rule r)) same e))) in
    subst (λ x. HasExactly (DerivesSpan x.input.normal x.input.kinds (Rule r) i) []) c.self.view_is exact
