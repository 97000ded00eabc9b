use Rattle.std.proofs.Common.{◌≡◌, ◌↔◌, ◌+◌, ◌⊎◌, inl, inr, ◌++◌, ℕ, Bool, List, [], ◌∷◌, Some, slice_get, map}
use Rattle.std.proofs.Common.{take, length, vec_len, refl, sym, ap, ◌∙◌, subst, arith}
use Rattle.std.proofs.lemmas.List.{take_more}
use Rattle.cases_languages.specs.Patterns as plain
use Rattle.cases_languages.specs.Positions.{AreEnds, BodySpans, Grows, IsIn, Known, Pairs, SpansBy}
use Rattle.cases_languages.specs.View.{pattern}
use Rattle.cases_languages.specs.declared.chart.Row.{Row}
use Rattle.cases_languages.proofs.Marks.{IsUnion, in_union}
use Rattle.cases_languages.proofs.Pairs.{pairs_more}
use Rattle.cases_languages.proofs.chart.grown_rows.Goals as goal

pub only-requires : goal.only-requires
only-requires c = (c.requires.fit c.row-item.result (c.loop-row.row-index, c.loop-row-test.true, sym c.row-item.is)).1

pub body_of-requires : goal.body_of-requires
body_of-requires c = c.requires.within c.row-item.result (c.loop-row.row-index, c.loop-row-test.true, sym c.row-item.is)

pub union-requires : goal.union-requires
union-requires c =
    let f = c.requires.fit c.row-item.result (c.loop-row.row-index, c.loop-row-test.true, sym c.row-item.is) in
    omega (
      arith,
      f.0,
      ap length c.deref-in-loop-row.ensures.value,
      c.row-item.result.ends.ok.0,
      c.deref-in-loop-row-2.ensures.len,
      c.in_ok-more.ensures.len,
      c.deref.ensures.len,
      c.in_ok-from.ensures.len,
    )

-- a row that has grown
grows : (known : ℕ → ℕ → ℕ → Type 0) (bodies : List plain.Pattern) (list : List ℕ) (p : plain.Pattern) (old new : Row) (from more : List Bool)
    → slice_get bodies old.rule ≡ Some p →
    ((j : ℕ) → IsIn from j ↔ (j ≡ old.start)) → AreEnds known list p from more → IsUnion new.ends.items old.ends.items more → new.rule ≡ old.rule
    → new.start ≡ old.start → vec_len new.ends ≡ vec_len old.ends →
    Grows known bodies list old new
grows known bodies list p old new from more at only e u r s l =
    record {
      rule = r;
      start = s;
      len = l;
      marks = λ j. (λ h. into j ((in_union new.ends.items old.ends.items more u j).0 h), λ h. (in_union new.ends.items old.ends.items more u j).1 (back j h));
    }
  where
    into : (j : ℕ) → IsIn old.ends.items j ⊎ IsIn more j → IsIn old.ends.items j ⊎ BodySpans known bodies list old.rule old.start j
    into j (inl h) = inl h
    into j (inr h) =
        let x = (e j).0 h in let P : ℕ → Type 0 = λ n. SpansBy known list p n j in inr (p, at, subst P ((only x.0).0 x.1) x.2)

    back : (j : ℕ) → IsIn old.ends.items j ⊎ BodySpans known bodies list old.rule old.start j → IsIn old.ends.items j ⊎ IsIn more j
    back j (inl h) = inl h
    back j (inr (q, b, h)) =
        let same : q ≡ p = cc in let P : plain.Pattern → Type 0 = λ x. SpansBy known list x old.start j in
        inr ((e j).1 (old.start, (only old.start).1 refl, subst P same h))

pub loop-row-preserved : goal.loop-row-preserved
loop-row-preserved c =
    let known = Known c.args.rows.now in
    let bodies = map pattern c.args.bodies.now in
    let K = c.args.list.now in
    let i = c.loop-row.row-index in
    let old = c.row-item.result in
    let new : Row = record { rule = old.rule; start = old.start; ends = c.in_ok-union.field-0 } in
    let from = c.in_ok-from.from.items in
    let more = c.in_ok-more.more.items in
    let E : List Bool → Type 0 = λ x. AreEnds known K (pattern c.body_of.result.now) x more in
    let ends = subst E c.deref.ensures.value c.in_ok-more.ensures.ends in
    let U : List Bool → Type 0 = λ x. IsUnion new.ends.items x c.deref-in-loop-row-2.result.now in
    let V : List Bool → Type 0 = λ x. IsUnion new.ends.items old.ends.items x in
    let joined = subst V c.deref-in-loop-row-2.ensures.value (subst U c.deref-in-loop-row.ensures.value c.in_ok-union.ensures.either) in
    let len : vec_len new.ends ≡ vec_len old.ends = omega (arith, c.in_ok-union.ensures.len, ap length c.deref-in-loop-row.ensures.value, old.ends.ok.0) in
    let g = grows known bodies K (pattern c.body_of.result.now) old new from more c.body_of.ensures c.in_ok-from.ensures.only ends joined refl refl len in
    let P : List Row → Type 0 = λ z. Pairs (Grows known bodies K) z (c.loop-row.next.items ++ new ∷ []) in
    let Q : List Row → Type 0 = λ z. Pairs (Grows known bodies K) (take (i + 1) c.args.rows.now) z in
    subst Q (sym c.in_ok-push.ensures.items)
    (subst P (sym (take_more c.args.rows.now i old c.loop-row-test.true ∙ ap (λ z. take i c.args.rows.now ++ z ∷ []) (sym c.row-item.is)))
    (pairs_more (Grows known bodies K) (take i c.args.rows.now) c.loop-row.next.items old new c.loop-row.invariant g))
