use Rattle.std.proofs.Common.{◌≡◌, ◌<◌, ◌≤◌, ◌+◌, ℕ, Bool, slice_index_or, List, length, vec_len, take, sym, ap, ◌∙◌, subst, true≢false, arith}
use Rattle.std.proofs.lemmas.List.{take_all}
use Rattle.cases_languages.specs.Positions.{IsIn}
use Rattle.cases_languages.specs.declared.chart.Row.{Row}
use Rattle.cases_languages.proofs.Marks.{IsUnion, in_union}
use Rattle.cases_languages.proofs.Rows.{Reached, reached_more, reached_same}
use Rattle.cases_languages.proofs.chart.known_ends.Goals.{then-row-rule+then-from-row+in_ok-to-2, else-row-rule}
use Rattle.cases_languages.proofs.chart.known_ends.Goals.{else-row-rule-via-then-row-rule+else-from-row, else-row-rule-via-else-row-rule}
use Rattle.cases_languages.proofs.chart.known_ends.Goals as goal

-- what the loop has reached, one row later
next_reached : (rows : List Row) (i : ℕ) (row : Row) (r : ℕ) (from old new : List Bool) → i < length rows → row ≡ slice_index_or rows i row → row.rule ≡ r
    → IsIn from row.start →
    IsUnion new old row.ends.items → Reached (take i rows) r from old → Reached (take (i + 1) rows) r from new
next_reached rows i row r from old new h e same start u b = reached_more rows i row r from old h e new same start (in_union new old row.ends.items u) b

all_reached : (rows : List Row) (i r : ℕ) (from to : List Bool) → length rows ≤ i → Reached (take i rows) r from to → Reached rows r from to
all_reached rows i r from to h b = let P : List Row → Type 0 = λ l. Reached l r from to in subst P (take_all i rows h) b

pub bounds-from-row : goal.bounds-from-row
bounds-from-row c = (c.requires c.row-item.result (c.loop-row.row-index, c.loop-row-test.true, sym c.row-item.is)).1

pub union-requires : goal.union-requires
union-requires c =
    let h =
    c.requires c.row-item.result (c.loop-row.row-index, c.loop-row-test.true, sym c.row-item.is) in
    omega (arith, h.0, c.deref.ensures.len, c.loop-row.invariant.len, ap length c.deref-then-from-row.ensures.value)

pub loop-row-preserved : goal.loop-row-preserved
loop-row-preserved c = elim c.if-row-rule.branch [
  | then-row-rule+then-from-row+in_ok-to-2 w ↦
      let P : List Bool → Type 0 = λ x. IsUnion w.in_ok-to-2.to.items x w.deref-then-from-row.result.now in
      let Q : List Bool → Type 0 = λ x. IsUnion w.in_ok-to-2.to.items c.loop-row.to.items x in
      let u = subst Q w.deref-then-from-row.ensures.value (subst P w.deref.ensures.value w.in_ok-to-2.ensures.either) in
      record {
        len = ap vec_len w.to-is ∙ w.in_ok-to-2.ensures.len ∙ w.deref.ensures.len ∙ c.loop-row.invariant.len;
        marks = let R : List Bool → Type 0 = λ x. Reached (take (c.loop-row.row-index + 1) c.args.rows.now) c.args.rule c.args.from.now x in
            subst R (ap (λ v. v.items) (sym w.to-is))
            (next_reached c.args.rows.now c.loop-row.row-index c.row-item.result c.args.rule c.args.from.now c.loop-row.to.items w.in_ok-to-2.to.items
            c.loop-row-test.true c.row-item.is w.if-row-rule.true w.if-from-row.true u c.loop-row.invariant.marks);
      }
  | else-row-rule w ↦
      let R : List Bool → Type 0 = λ x. Reached (take (c.loop-row.row-index + 1) c.args.rows.now) c.args.rule c.args.from.now x in
      let none : c.row-item.result.rule ≡ c.args.rule → IsIn c.args.from.now c.row-item.result.start → ⊥ = elim w.else-row-rule.branch [
        | else-row-rule-via-then-row-rule+else-from-row x ↦ λ e h. true≢false (sym h ∙ x.if-from-row.false)
        | else-row-rule-via-else-row-rule x ↦ λ e h. x.if-row-rule.false e
      ] in
      record {
        len = ap vec_len w.to-is ∙ c.loop-row.invariant.len;
        marks =
            subst R (ap (λ v. v.items) (sym w.to-is))
            (reached_same c.args.rows.now c.loop-row.row-index c.row-item.result c.args.rule c.args.from.now c.loop-row.to.items c.loop-row-test.true
            c.row-item.is none c.loop-row.invariant.marks);
      }
]

pub returns-clause-marks : goal.returns-clause-marks
returns-clause-marks c =
    all_reached c.args.rows.now c.loop-row.row-index c.args.rule c.args.from.now c.loop-row.to.items c.loop-row-test.false c.loop-row.invariant.marks
