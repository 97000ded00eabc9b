use Rattle.std.proofs.Common.{◌≡◌, inl, inr, ℕ, List, ◌++◌, [], ◌∷◌, Some, length, map, slice_get, sym, ap, ◌∙◌, subst, arith}
use Rattle.std.proofs.lemmas.List.{length-append}
use Rattle.std.proofs.lemmas.Option.{same_Some}
use Rattle.normal_form.specs.View.{rule_form}
use Rattle.compat_table.specs.declared.row.Row.{Row}
use Rattle.compat_table.specs.inner.Rows.{AreStars, Symbols}
use Rattle.compat_table.specs.inner.Table.{IsSortedRow}
use Rattle.compat_table.specs.inner.View.{symbols_of}
use Rattle.compat_table.proofs.Searching.{got_at, got_more}
use Rattle.compat_table.proofs.stars.stars.Goals as goal

pub loop-rule-preserved : goal.loop-rule-preserved
loop-rule-preserved c =
    let rules = map rule_form c.args.rules.now in
    let rows = c.args.rows.now in
    let old = c.loop-rule.stars.items in
    let found = c.in_ok-found.found in
    let pushed : c.push.new.self.items ≡ old ++ found ∷ [] = c.in_ok-push.ensures.items in
    let Q : List Row → ℕ → Symbols → Type 0 = λ l r y. slice_get (map symbols_of l) r ≡ Some y in
    let at : (r : ℕ) (y : Symbols) → Q c.push.new.self.items r y → Q (old ++ found ∷ []) r y = λ r y e. subst (λ (l : List Row). Q l r y) pushed e in
    let own : Q rows c.loop-rule.rule (symbols_of c.index-rows-rule.result) =
    got_at symbols_of rows c.loop-rule.rule c.index-rows-rule.result (omega arith) c.index-rows-rule.is in
    record {
      so_far = omega (arith, ap length pushed, length-append old (found ∷ []), c.loop-rule.invariant.so_far);
      are = λ r row y there e. elim (got_more symbols_of old found r y (at r y e)) [
        | inl before ↦ c.loop-rule.invariant.are r row y there before
        | inr last ↦
            let same : c.loop-rule.rule ≡ r = omega (arith, last.0, c.loop-rule.invariant.so_far) in
            let is : symbols_of c.index-rows-rule.result ≡ row =
            same_Some (symbols_of c.index-rows-rule.result) row (sym own ∙ subst (λ (i : ℕ). Q rows i row) (sym same) there) in
            subst (λ (i : ℕ). AreStars rules i row.rules y) same
            (subst (λ (z : Symbols). AreStars rules c.loop-rule.rule z.rules y) is
            (subst (λ (z : Symbols). AreStars rules c.loop-rule.rule c.index-rows-rule.result.rules.items z) last.1 c.in_ok-found.ensures.are))
      ];
      sorted = λ r y e. elim (got_more symbols_of old found r y (at r y e)) [
        | inl before ↦ c.loop-rule.invariant.sorted r y before
        | inr last ↦ subst IsSortedRow last.1 c.in_ok-found.ensures.sorted
      ];
    }
