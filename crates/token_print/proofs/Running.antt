-- The stretches of kept numbers, found from one index to the other.
use Rattle.std.proofs.Common.{◌≡◌, ◌≢◌, ◌<◌, ◌≤◌, ◌+◌, ◌-◌, ◌⊎◌, inl, inr, ℕ, zero, suc, true, false, cond, nat_eq}
use Rattle.std.proofs.Common.{List, [], ◌∷◌, drop, slice_index, length, refl, sym, ap, ◌∙◌, arith}
use Rattle.std.specs.List.Sorted.{IsStrictlyIncreasing}
use Rattle.std.proofs.lemmas.List.{drop_more, get_or-drop, length-drop}
use Rattle.token_print.specs.declared.style.Style.{Style}
use Rattle.token_print.specs.inner.Ahead.{IsStretch}
use Rattle.token_print.specs.Runs.{stretches, with_token}
use Rattle.token_print.proofs.Stretches.{decided, head_is}

-- a number after which none follows begins a stretch of its own
alone : (i : ℕ) (kept : List ℕ) → (0 < length kept → slice_index kept 0 ≢ suc i) → stretches Style.AsWas (i ∷ kept) ≡ (i, i) ∷ stretches Style.AsWas kept
alone i [] none = refl
alone i (j ∷ kept) none = by (head_is j (stretches Style.AsWas kept)) (decided j (suc i))
  where
    by : (b : ℕ) × (rest : List (ℕ × ℕ)) × (with_token j (stretches Style.AsWas kept) ≡ (j, b) ∷ rest) → ((j ≡ suc i) × (nat_eq j (suc i) ≡ true))
        ⊎ ((j ≢ suc i) × (nat_eq j (suc i) ≡ false)) → with_token i (stretches Style.AsWas (j ∷ kept)) ≡ (i, i) ∷ stretches Style.AsWas (j ∷ kept)
    by (b, rest, is) (inl (e, t)) = absurd (none (omega arith) e)
    by (b, rest, is) (inr (d, f)) = ap (with_token i) is ∙ ap (λ x. cond x ((i, b) ∷ rest) ((i, i) ∷ (j, b) ∷ rest)) f ∙ ap (λ ss. (i, i) ∷ ss) (sym is)

-- a number that the next one follows begins the same stretch
longer : (i j b : ℕ) (kept : List ℕ) (rest : List (ℕ × ℕ)) → j ≡ suc i → stretches Style.AsWas (j ∷ kept) ≡ (j, b) ∷ rest
    → stretches Style.AsWas (i ∷ j ∷ kept) ≡ (i, b) ∷ rest
longer i j b kept rest e is = by (decided j (suc i))
  where
    by : ((j ≡ suc i) × (nat_eq j (suc i) ≡ true)) ⊎ ((j ≢ suc i) × (nat_eq j (suc i) ≡ false))
        → with_token i (stretches Style.AsWas (j ∷ kept)) ≡ (i, b) ∷ rest
    by (inl (same, t)) = ap (with_token i) is ∙ ap (λ x. cond x ((i, b) ∷ rest) ((i, i) ∷ (j, b) ∷ rest)) t
    by (inr (d, f)) = absurd (d e)

-- the same numbers from the next index on
later : (kept : List ℕ) (from end : ℕ) → from + 1 < end → IsStretch kept from end → IsStretch kept (from + 1) end
later kept from end h s =
    let next : slice_index kept (from + 1) ≡ slice_index kept from + 1 = omega (arith, s.follow (from + 1) (omega arith) h) in
    record {
      rises = h;
      within = s.within;
      follow = λ k low high. omega (arith, s.follow k (omega (arith, low)) high, next, low);
      apart = elim s.apart [ inl e ↦ inl e | inr d ↦ inr (λ e. d (omega (arith, e, next, h))) ];
    }

-- From the index on the first stretch goes up to the end of the numbers that follow one another.
pub stretch_from : (kept : List ℕ) (m from end : ℕ) → from + suc m ≡ end → IsStretch kept from end
    → stretches Style.AsWas (drop from kept) ≡ (slice_index kept from, slice_index kept (end - 1)) ∷ stretches Style.AsWas (drop end kept)
stretch_from kept zero from end e s =
    let last : end ≡ from + 1 = omega (arith, e) in
    let before : end - 1 ≡ from = omega (arith, last) in
    ap (stretches Style.AsWas) (drop_more kept from 0 (omega (arith, s.rises, s.within)))
    ∙ alone (slice_index kept from) (drop (from + 1) kept) (none last s.apart)
    ∙ ap (λ n. (slice_index kept from, slice_index kept n) ∷ stretches Style.AsWas (drop (from + 1) kept)) (sym before)
    ∙ ap (λ n. (slice_index kept from, slice_index kept (end - 1)) ∷ stretches Style.AsWas (drop n kept)) (sym last)
  where
    none : end ≡ from + 1 → (end ≡ length kept) ⊎ (slice_index kept end ≢ slice_index kept from + (end - from)) → 0 < length (drop (from + 1) kept)
        → slice_index (drop (from + 1) kept) 0 ≢ suc (slice_index kept from)
    none last (inl e) h bad = omega (arith, h, length-drop (from + 1) kept, last, e)
    none last (inr d) h bad =
        let at : slice_index (drop (from + 1) kept) 0 ≡ slice_index kept end =
        get_or-drop (from + 1) kept 0 0 ∙ ap (λ n. slice_index kept n) (let n : from + 1 + 0 ≡ end = omega (arith, last) in n) in
        d (omega (arith, at, bad, last))
stretch_from kept (suc m) from end e s =
    let inside : from + 1 < end = omega (arith, e) in
    let rest : stretches Style.AsWas (drop (from + 1) kept) ≡ (slice_index kept (from + 1), slice_index kept (end - 1)) ∷ stretches Style.AsWas
    (drop end kept) = stretch_from kept m (from + 1) end (omega (arith, e)) (later kept from end inside s) in
    let next : slice_index kept (from + 1) ≡ suc (slice_index kept from) = omega (arith, s.follow (from + 1) (omega arith) inside) in
    let cut : drop (from + 1) kept ≡ slice_index kept (from + 1) ∷ drop (from + 1 + 1) kept = drop_more kept (from + 1) 0 (omega (arith, inside, s.within)) in
    ap (stretches Style.AsWas) (drop_more kept from 0 (omega (arith, s.rises, s.within)) ∙ ap (λ l. slice_index kept from ∷ l) cut)
    ∙ longer (slice_index kept from) (slice_index kept (from + 1)) (slice_index kept (end - 1)) (drop (from + 1 + 1) kept)
    (stretches Style.AsWas (drop end kept)) next (ap (stretches Style.AsWas) (sym cut) ∙ rest)

-- squeezed, each number is by itself
pub one_from : (kept : List ℕ) (from : ℕ) → from < length kept
    → stretches Style.Squeezed (drop from kept) ≡ (slice_index kept from, slice_index kept from) ∷ stretches Style.Squeezed (drop (from + 1) kept)
one_from kept from h = ap (stretches Style.Squeezed) (drop_more kept from 0 h)

-- numbers that rise strictly rise by one each at least
pub climb : (kept : List ℕ) → IsStrictlyIncreasing kept → (d a : ℕ) → a + d < length kept → slice_index kept a + d ≤ slice_index kept (a + d)
climb kept up zero a h = let same : a + 0 ≡ a = omega arith in omega (arith, ap (slice_index kept) same)
climb kept up (suc d) a h =
    let next : a + d + 1 ≡ a + suc d =
    omega arith in omega (arith, climb kept up d a (omega (arith, h)), up (a + d) (omega (arith, h)), ap (slice_index kept) next)

-- Where the last of them is as far as their number says, they follow one another.
pub stretch_is : (kept : List ℕ) (from known end : ℕ) → IsStrictlyIncreasing kept → from ≤ known → end ≡ known + 1 → end ≤ length kept
    → slice_index kept known ≡ slice_index kept from + (known - from) →
    (end ≡ length kept) ⊎ (slice_index kept end ≢ slice_index kept from + (end - from)) → IsStretch kept from end
stretch_is kept from known end up low next inside last apart =
    record {
      rises = omega (arith, low, next);
      within = inside;
      follow = λ k h l.
          let a : from + (k - from) ≡ k = omega (arith, h) in
          let b : k + (known - k) ≡ known = omega (arith, l, next) in
          omega (
            arith,
            h,
            l,
            next,
            last,
            climb kept up (k - from) from (omega (arith, a, l, inside)),
            climb kept up (known - k) k (omega (arith, b, next, inside)),
            ap (slice_index kept) a,
            ap (slice_index kept) b,
          );
      apart = apart;
    }
