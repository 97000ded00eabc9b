use Rattle.std.proofs.Common.{◌+◌, ℕ, List, ◌++◌, ap, ◌∙◌, arith, drop, subst, sym, length}
use Rattle.keep_guard.specs.Relation.{Rises}
use Rattle.reduce_core.specs.Lines.{lines_of}
use Rattle.line_guard.specs.Lines.{ends_from, line_ends}
use Rattle.line_guard.proofs.EndsLemmas.{ended-more, ends-whole, going-more, length-ends, line_ends-rise}
use Rattle.line_guard.proofs.index.LineIndex.of.Goals.{then-ends_line+in_ok-push, else-ends_line}
use Rattle.line_guard.proofs.index.LineIndex.of.Goals as goal

pub loop-at-preserved : goal.loop-at-preserved
loop-at-preserved c =
    let ends = c.loop-at.ends.items in
    let text = c.args.text.now in
    let at = c.loop-at.at in
    let rest = ends_from (at + 1) (lines_of (drop (at + 1) text)) in
    elim c.if-ends_line.branch [
      | then-ends_line+in_ok-push w ↦
          ap (λ (l : List ℕ). l ++ rest) (ap (λ v. v.items) w.ends-is ∙ w.in_ok-push.ensures.items)
          ∙ ended-more ends (line_ends text) text at c.loop-at-test.true (sym c.ends_line.ensures ∙ w.if-ends_line.true) c.loop-at.invariant
      | else-ends_line w ↦
          ap (λ (l : List ℕ). l ++ rest) (ap (λ v. v.items) w.ends-is)
          ∙ going-more ends (line_ends text) text at c.loop-at-test.true (sym c.ends_line.ensures ∙ w.if-ends_line.false) c.loop-at.invariant
    ]

pub invariant_of-result : goal.invariant_of-result
invariant_of-result c =
    let is = ends-whole c.loop-at.ends.items c.args.text.now c.loop-at.at (omega arith) c.loop-at.invariant in
    subst Rises (sym is) (line_ends-rise c.args.text.now)

pub returns-clause-count : goal.returns-clause-count
returns-clause-count c =
    let is = ends-whole c.loop-at.ends.items c.args.text.now c.loop-at.at (omega arith) c.loop-at.invariant in
    ap length is ∙ length-ends 0 (lines_of c.args.text.now)
