use Rattle.std.proofs.Common.{◌≡◌, ◌+◌, ◌-◌, ◌<◌, true, false, length, [], take, drop, get_or, sym, ap, ◌∙◌, subst, arith}
use Rattle.normal_form.specs.Spans.{DerivesSpan}
use Rattle.chart_parser_ends.specs.inner.Exact.{IsTokenOf}
use Rattle.chart_parser_ends.specs.Positions.{HasExactly}
use Rattle.chart_parser_ends.proofs.AllPositions.{one_position}
use Rattle.chart_parser_ends.proofs.SymbolEnds.{no_token, token_exact}
use Rattle.chart_parser_ends.proofs.table.ChartTable.token_ends.Goals as goal
use Rattle.chart_parser_ends.proofs.table.ChartTable.token_ends.Goals.{else-index-self-via-then-index-self+else-is_token, else-index-self-via-else-index-self}

false_true : false ≡ true → ⊥
false_true e = absurd (cc)

pub returns-then-is_token : goal.returns-then-is_token
returns-then-is_token c =
    let N = c.self.inside.normal.now in
    let K = c.self.inside.kinds.now in
    let s = c.args.symbol in
    let i = c.args.first in
    let m = i + 2 - (i + 1) in
    let one =
    ap (λ l. take m (drop (i + 1) l)) c.deref.ensures.value
    ∙ one_position (length K) c.self.inside.positions.items (i + 1) m c.self.invariant.positions_are (omega (arith, c.if-index-self.true)) (omega arith) in
    subst (λ x. HasExactly (DerivesSpan x.input.normal x.input.kinds s i) (take m (drop (i + 1) c.deref.result.now))) c.self.view_is
    (subst (HasExactly (DerivesSpan N K s i)) (sym one) (token_exact N K s i c.requires c.if-index-self.true (c.is_token.ensures.0 c.if-is_token.true)))

pub returns-else-index-self : goal.returns-else-index-self
returns-else-index-self c =
    let N = c.self.inside.normal.now in
    let K = c.self.inside.kinds.now in
    let s = c.args.symbol in
    let i = c.args.first in
    let none : i < length K → IsTokenOf N s (get_or K i 0) → ⊥ =
    elim c.else-index-self.branch [
      | else-index-self-via-then-index-self+else-is_token w ↦ λ l is. false_true
          (sym w.if-is_token.false ∙ w.is_token.ensures.1 is)
      | else-index-self-via-else-index-self w ↦ λ l is. omega (arith, l, w.if-index-self.false)
    ] in
    subst (λ x. HasExactly (DerivesSpan x.input.normal x.input.kinds s i) []) c.self.view_is (no_token N K s i c.requires none)
