-- Entries whose ends are in one list.
use Rattle.std.proofs.Common.{◌≡◌, ℕ, zero, suc, ◌+◌, ◌-◌, ◌≤◌, List, [], ◌∷◌, ◌++◌, length, take, drop, refl, sym, ap, ◌∙◌, subst, arith}
use Rattle.std.proofs.Common.{length-append, length-drop}
use Rattle.std.proofs.lemmas.List.{map_push, take-append-le}
use Rattle.std.proofs.lemmas.List.Elements.{All-push}
use Rattle.std.proofs.Math.Seq.{drop-append_seam}
use Rattle.std.specs.Prelude.{Result, Ok, Err, OnErr, OnOk, slice_range}
use Rattle.chart_parser_ends.specs.declared.entries.EndsRange.{EndsRange}
use Rattle.chart_parser_ends.specs.inner.Entries.{Entry, entry}
use Rattle.chart_parser_ends.specs.inner.Ranges.{AreWithin, entries_in, entry_in}

drop_append : (n : ℕ) (xs ys : List ℕ) → n ≤ length xs → drop n (xs ++ ys) ≡ drop n xs ++ ys
drop_append zero xs ys l = refl
drop_append (suc n) [] ys l = absurd (omega (arith, l))
drop_append (suc n) (x ∷ xs) ys l = drop_append n xs ys (omega (arith, l))

-- A range of a list stays the same where the list gets longer.
range_stays : (xs ys : List ℕ) (i n : ℕ) → i + n ≤ length xs → slice_range (xs ++ ys) i (i + n) ≡ slice_range xs i (i + n)
range_stays xs ys i n l =
    ap (take (i + n - i)) (drop_append i xs ys (omega (arith, l))) ∙ take-append-le (i + n - i) (drop i xs) ys (omega (arith, l, length-drop i xs))

-- The last elements of a list.
last_range : (xs ys : List ℕ) → slice_range (xs ++ ys) (length xs) (length xs + length ys) ≡ ys
last_range xs ys =
    ap (take (length xs + length ys - length xs)) (drop-append_seam xs ys) ∙ ap (λ n. take n ys) (omega arith) ∙ take_whole ys
  where
    take_whole : (ys : List ℕ) → take (length ys) ys ≡ ys
    take_whole [] = refl
    take_whole (y ∷ ys) = ap (λ l. y ∷ l) (take_whole ys)

pub entries_stay : (ends more : List ℕ) (rs : List EndsRange) → AreWithin ends rs → entries_in (ends ++ more) rs ≡ entries_in ends rs
entries_stay ends more [] l = refl
entries_stay ends more (r ∷ rs) l =
    let head = range_stays ends more r.from r.count (l 0 r (omega arith)) in
    ap (λ es. entry r.rule r.first es ∷ entries_in (ends ++ more) rs) head
    ∙ ap (λ es. entry_in ends r ∷ es) (entries_stay ends more rs (λ k d h. l (suc k) d (omega (arith, h))))

-- One more entry, whose ends come after all others.
pub entries_pushed : (ends more : List ℕ) (rs : List EndsRange) (r : EndsRange) → AreWithin ends rs → r.from ≡ length ends → r.count ≡ length more
    → entries_in (ends ++ more) (rs ++ r ∷ []) ≡ entries_in ends rs ++ entry r.rule r.first more ∷ []
entries_pushed ends more rs r l from count =
    map_push (entry_in (ends ++ more)) rs r ∙ ap (λ es. es ++ entry_in (ends ++ more) r ∷ []) (entries_stay ends more rs l)
    ∙ ap (λ es. entries_in ends rs ++ entry r.rule r.first es ∷ []) range
  where
    range : slice_range (ends ++ more) r.from (r.from + r.count) ≡ more
    range =
        ap (λ f. slice_range (ends ++ more) f (f + r.count)) from ∙ ap (λ n. slice_range (ends ++ more) (length ends) (length ends + n)) count
        ∙ last_range ends more

pub none_within : (ends : List ℕ) (rs : List EndsRange) → rs ≡ [] → AreWithin ends rs
none_within ends rs e = subst (AreWithin ends) (sym e) (λ k d l. absurd (omega (arith, l)))

within_longer : (ends more : List ℕ) (rs : List EndsRange) → AreWithin ends rs → AreWithin (ends ++ more) rs
within_longer ends more rs within k d l = omega (arith, within k d l, length-append ends more)

-- The ends of an entry come after all others, and then its range is added, or isn't.
module _ (ends more longer : List ℕ) (rs new : List EndsRange) (r : EndsRange) (items : longer ≡ ends ++ more) (within : AreWithin ends rs)
    (from : r.from ≡ length ends) (count : r.count ≡ length more) where
  range_last : r.from + r.count ≤ length longer
  range_last = omega (arith, from, count, ap length items, length-append ends more)

  earlier_within : AreWithin longer rs
  earlier_within = subst (λ es. AreWithin es rs) (sym items) (within_longer ends more rs within)

  pub within_added : {T E : Type 0} (result : Result T E) → OnOk result (new ≡ rs ++ r ∷ []) → OnErr result (new ≡ rs) → AreWithin longer new
  within_added (Ok x) added same =
      subst (AreWithin longer) (sym added) (All-push (λ (q : EndsRange). q.from + q.count ≤ length longer) rs r earlier_within range_last)
  within_added (Err x) added same = subst (AreWithin longer) (sym same) earlier_within

  pub entry_added : (old : List Entry) → entries_in ends rs ≡ old → new ≡ rs ++ r ∷ [] → entries_in longer new ≡ old ++ entry r.rule r.first more ∷ []
  entry_added old view added =
      ap (entries_in longer) added ∙ ap (λ es. entries_in es (rs ++ r ∷ [])) items ∙ entries_pushed ends more rs r within from count
      ∙ ap (λ es. es ++ entry r.rule r.first more ∷ []) view

  pub none_added : (old : List Entry) → entries_in ends rs ≡ old → new ≡ rs → entries_in longer new ≡ old
  none_added old view same =
      ap (entries_in longer) same ∙ ap (λ es. entries_in es rs) items ∙ entries_stay ends more rs within ∙ view
