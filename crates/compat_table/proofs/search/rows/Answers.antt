use Rattle.std.proofs.Common.{◌≡◌, inl, inr, ℕ, List, ◌++◌, [], ◌∷◌, Some, length, map, slice_get, ap, ◌∙◌, subst, arith}
use Rattle.std.proofs.lemmas.List.{length-append, map-append}
use Rattle.std.proofs.lemmas.List.Sums.{sum_by-append, sum_by-cons}
use Rattle.compat_table.specs.declared.row.Row.{Row}
use Rattle.compat_table.specs.inner.Rows.{IsRowOf, Symbols, size, size_of_all}
use Rattle.compat_table.specs.inner.Table.{IsSortedRow}
use Rattle.compat_table.specs.inner.View.{edges_of, symbols_of}
use Rattle.compat_table.proofs.Searching.{got_more}
use Rattle.compat_table.proofs.search.rows.Goals as goal

pub loop-rule-preserved : goal.loop-rule-preserved
loop-rule-preserved c =
    let E = edges_of c.args.edges.now in
    let old = c.loop-rule.rows.items in
    let row = c.in_ok-row.row in
    let pushed : c.push.new.self.items ≡ old ++ row ∷ [] = c.in_ok-push.ensures.items in
    let Q : List Row → ℕ → Symbols → Type 0 = λ rows r y. slice_get (map symbols_of rows) r ≡ Some y in
    let at : (r : ℕ) (y : Symbols) → Q c.push.new.self.items r y → Q (old ++ row ∷ []) r y = λ r y e. subst (λ (rows : List Row). Q rows r y) pushed e in
    record {
      marks_len = c.row_of.auto.marks ∙ c.loop-rule.invariant.marks_len;
      below = λ k d lt. omega (arith, c.in_ok-row.ensures.marks k d lt);
      so_far = omega (arith, ap length pushed, length-append old (row ∷ []), c.loop-rule.invariant.so_far);
      are = λ r y e. elim (got_more symbols_of old row r y (at r y e)) [
        | inl before ↦ c.loop-rule.invariant.are r y before
        | inr last ↦
            let same : c.loop-rule.rule ≡ r = omega (arith, last.0, c.loop-rule.invariant.so_far) in
            subst (λ (i : ℕ). IsRowOf E i y) same (subst (λ (z : Symbols). IsRowOf E c.loop-rule.rule z) last.1 c.in_ok-row.ensures.row)
      ];
      few = c.in_ok-row.ensures.few_found;
      found =
          let all = ap (λ (rows : List Row). size_of_all (map symbols_of rows)) pushed in
          let more = sum_by-append size (map symbols_of old) (symbols_of row ∷ []) in
          let one = sum_by-cons size (symbols_of row) [] in
          omega (arith, all, ap size_of_all (map-append symbols_of old (row ∷ [])), more, one, c.in_ok-row.ensures.found, c.loop-rule.invariant.found);
      sorted = λ r y e. elim (got_more symbols_of old row r y (at r y e)) [
        | inl before ↦ c.loop-rule.invariant.sorted r y before
        | inr last ↦ subst IsSortedRow last.1 c.in_ok-row.ensures.sorted
      ];
    }
