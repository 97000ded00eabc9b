-- What a run carries at an offset, by how many pieces begin before it.
use Rattle.std.proofs.Common.{◌≡◌, ◌≢◌, ◌<◌, ◌≤◌, ◌+◌, ◌-◌, ◌⊎◌, inl, inr, ℕ, false, List, slice_index_or, length, refl, sym, ap, ◌∙◌, subst, arith}
use Rattle.std.specs.List.{list_any}
use Rattle.std.specs.List.Sorted.{IsNonDecreasingBy}
use Rattle.std.proofs.lemmas.Bool.{cases_lt}
use Rattle.std.proofs.lemmas.List.{get_or_default}
use Rattle.lexer.specs.declared.piece.Piece.{Piece}
use Rattle.token_print.specs.declared.joins.Stretch.{Stretch}
use Rattle.token_print.specs.declared.runs.Run.{Run}
use Rattle.token_print.specs.inner.Joins.{AreCarried, PiecesRise}
use Rattle.token_print.specs.Runs.{is_copy_at}
use Rattle.token_print.proofs.AheadRuns.{IsCopiedAt, carries_none}
use Rattle.token_print.proofs.StartPieces.{no_piece}

module _ (items : List Piece) (run : Run) (at : ℕ) (rise : PiecesRise items) (offset first end : ℕ) (from_run : run.at ≤ at)
    (is : offset ≡ run.from + (at - run.at))
    (before : (k : ℕ) (d : Piece) → k < first → (slice_index_or items k d).start < offset)
    (others : (k : ℕ) (d : Piece) → first ≤ k → k < length items → offset ≤ (slice_index_or items k d).start)
    (before_end : (k : ℕ) (d : Piece) → k < end → (slice_index_or items k d).start < run.to)
    (after_end : (k : ℕ) (d : Piece) → end ≤ k → k < length items → run.to ≤ (slice_index_or items k d).start) where
  copied_in : (k : ℕ) (d : Piece) → k < length items → IsCopiedAt at run (slice_index_or items k d) → ((slice_index_or items k d).start ≡ offset) × (first ≤ k)
      × (k < end)
  copied_in k d h (low, high, here, few) = (begins, from (cases_lt k first), to (cases_lt k end))
    where
      begins : (slice_index_or items k d).start ≡ offset
      begins = omega (arith, low, here, is, from_run)

      from : (k < first) ⊎ (first ≤ k) → first ≤ k
      from (inl l) = absurd (omega (arith, before k d l, begins))
      from (inr l) = l

      to : (k < end) ⊎ (end ≤ k) → k < end
      to (inl l) = l
      to (inr l) = absurd (omega (arith, after_end k d l h, high))

  -- only the first one may begin there
  is_first : (k : ℕ) (d : Piece) → k < length items → (slice_index_or items k d).start ≡ offset → first ≤ k → k ≡ first
  is_first k d h begins from = pick (cases_lt first k)
    where
      pick : (first < k) ⊎ (k ≤ first) → k ≡ first
      pick (inl l) = absurd (omega (arith, rise first k d l h, others first d (omega arith) (omega (arith, l, h)), begins))
      pick (inr l) = omega (arith, from, l)

  -- no piece of the run begins there
  pub none_begins : (end ≤ first) ⊎ ((d : Piece) → (slice_index_or items first d).start ≢ offset) → list_any (is_copy_at at run) items ≡ false
  none_begins none =
      carries_none at run items
      (λ k d h copied.
      let (begins, from, to) = copied_in k d h copied in
      by k d begins from to (is_first k d h begins from) none)
    where
      by : (k : ℕ) (d : Piece) → (slice_index_or items k d).start ≡ offset → first ≤ k → k < end → k ≡ first → (end ≤ first)
          ⊎ ((d : Piece) → (slice_index_or items first d).start ≢ offset) → ⊥
      by k d begins from to same (inl h) = omega (arith, from, to, h)
      by k d begins from to same (inr other) = other d (ap (λ n. (slice_index_or items n d).start) (sym same) ∙ begins)

  -- the one that begins there has seen too far
  pub none_near : ((d : Piece) → run.limit < (slice_index_or items first d).seen) → list_any (is_copy_at at run) items ≡ false
  none_near far =
      carries_none at run items
      (λ k d h copied.
      let (begins, from, to) = copied_in k d h copied in
      let same = is_first k d h begins from in
      omega (arith, far d, ap (λ n. (slice_index_or items n d).seen) same, copied.3))

  -- those up to the first one that has seen too far are carried
  pub carried_to : (s : Stretch) → s.first ≡ first → first < s.end → s.end ≤ end → end ≤ length items
      → ((d : Piece) → (slice_index_or items first d).start ≡ offset) →
      ((k : ℕ) (d : Piece) → first ≤ k → k < s.end → (slice_index_or items k d).seen ≤ run.limit) → AreCarried items run at s
  carried_to s begins rises inside within here near =
      let P : ℕ → Type 0 = λ n. (d : Piece) → (slice_index_or items n d).start ≡ offset in
      let there = subst P (sym begins) here in
      record {
        rises = omega (arith, begins, rises);
        within = omega (arith, inside, within);
        here = λ d. omega (arith, there d, is, from_run);
        begins = λ d. omega (arith, there d, is);
        each = λ k d low high. (before_end k d (omega (arith, high, inside)), near k d (omega (arith, low, begins)) high);
      }

-- pieces never fall
pub pieces_order : (items : List Piece) → PiecesRise items → IsNonDecreasingBy (λ (p : Piece). p.start) items
pieces_order items rise i j d h l = pick (cases_lt i j)
  where
    pick : (i < j) ⊎ (j ≤ i) → (slice_index_or items i d).start ≤ (slice_index_or items j d).start
    pick (inl k) = omega (arith, rise i j d k l)
    pick (inr k) = let same : i ≡ j = omega (arith, h, k) in omega (arith, ap (λ n. (slice_index_or items n d).start) same)

-- The same of the pieces as they are lent.
module _ (items lent : List Piece) (same : lent ≡ items) (run : Run) (at : ℕ) (rise : PiecesRise items) (offset first end : ℕ) (from_run : run.at ≤ at)
    (is : offset ≡ run.from + (at - run.at))
    (before : (k : ℕ) (d : Piece) → k < first → (slice_index_or lent k d).start < offset)
    (others : (k : ℕ) (d : Piece) → first ≤ k → k < length lent → offset ≤ (slice_index_or lent k d).start)
    (before_end : (k : ℕ) (d : Piece) → k < end → (slice_index_or lent k d).start < run.to)
    (after_end : (k : ℕ) (d : Piece) → end ≤ k → k < length lent → run.to ≤ (slice_index_or lent k d).start)
    (within : end ≤ length lent) where
  items_before : (k : ℕ) (d : Piece) → k < first → (slice_index_or items k d).start < offset
  items_before = let P : List Piece → Type 0 = λ l. (k : ℕ) (d : Piece) → k < first → (slice_index_or l k d).start < offset in subst P same before

  items_others : (k : ℕ) (d : Piece) → first ≤ k → k < length items → offset ≤ (slice_index_or items k d).start
  items_others = let P : List Piece → Type 0 =
      λ l. (k : ℕ) (d : Piece) → first ≤ k → k < length l → offset ≤ (slice_index_or l k d).start in subst P same others

  items_before_end : (k : ℕ) (d : Piece) → k < end → (slice_index_or items k d).start < run.to
  items_before_end = let P : List Piece → Type 0 = λ l. (k : ℕ) (d : Piece) → k < end → (slice_index_or l k d).start < run.to in subst P same before_end

  items_after_end : (k : ℕ) (d : Piece) → end ≤ k → k < length items → run.to ≤ (slice_index_or items k d).start
  items_after_end = let P : List Piece → Type 0 =
      λ l. (k : ℕ) (d : Piece) → end ≤ k → k < length l → run.to ≤ (slice_index_or l k d).start in subst P same after_end

  size : length lent ≡ length items
  size = ap length same

  -- where the first one begins
  begins : first < end → (d : Piece) → (slice_index_or items first d).start ≡ (slice_index_or lent first no_piece).start
  begins h d =
      ap (λ (l : List Piece). (slice_index_or l first d).start) (sym same)
      ∙ ap (λ (p : Piece). p.start) (get_or_default lent first d no_piece (omega (arith, h, within)))

  pub lent_none : end ≤ first → list_any (is_copy_at at run) items ≡ false
  lent_none h = none_begins items run at rise offset first end from_run is items_before items_others items_before_end items_after_end (inl h)

  pub lent_other : first < end → (slice_index_or lent first no_piece).start ≢ offset → list_any (is_copy_at at run) items ≡ false
  lent_other h other =
      none_begins items run at rise offset first end from_run is items_before items_others items_before_end items_after_end
      (inr (λ d e. other (sym (begins h d) ∙ e)))

  pub lent_far : (n : ℕ) → n ≡ first → ((d : Piece) → run.limit < (slice_index_or items n d).seen) → list_any (is_copy_at at run) items ≡ false
  lent_far n e far =
      let P : ℕ → Type 0 = λ k. (d : Piece) → run.limit < (slice_index_or items k d).seen in
      none_near items run at rise offset first end from_run is items_before items_others items_before_end items_after_end (subst P e far)

  pub lent_carried : (last : ℕ) → first < last → last ≤ end → (slice_index_or lent first no_piece).start ≡ offset
      → ((k : ℕ) (d : Piece) → first ≤ k → k < last → (slice_index_or items k d).seen ≤ run.limit) →
      AreCarried items run at (record { first = first; end = last })
  lent_carried last h l here near =
      carried_to items run at rise offset first end from_run is items_before items_others items_before_end items_after_end
      (record { first = first; end = last }) refl h l (omega (arith, within, size))
      (λ d. begins (omega (arith, h, l)) d ∙ here) near
