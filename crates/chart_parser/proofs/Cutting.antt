-- How an alternative is cut into its parts.
use Rattle.std.proofs.Common.{◌≡◌, ℕ, zero, suc, ◌+◌, ◌-◌, ◌<◌, ◌≤◌, ◌⊎◌, ◌↔◌, inl, inr, true, false, is_some, List, [], ◌∷◌, ◌++◌, Option, Some}
use Rattle.std.proofs.Common.{None, length, get_or, take, drop, refl, sym, ap, ◌∙◌, subst, arith, length-append, append_assoc}
use Rattle.std.proofs.lemmas.List.{drop_more, drop_all, get_or_append_left, take_more, get_or_push, get_or-take, length-take, append-nil}
use Rattle.std.proofs.lemmas.Bool.{cases_lt}
use Rattle.std.proofs.lemmas.Grind.{get_or_default_zero}
use Rattle.std.proofs.lemmas.List.Kept.{AllPairs-from_increasing}
use Rattle.std.proofs.lemmas.List.Elements.{Contains-append_left, Contains-get_or, Contains-push, Contains-push_cases}
use Rattle.std.proofs.Math.ListN.{set}
use Rattle.std.specs.Global.{Vec}
use Rattle.std.specs.List.{Contains}
use Rattle.std.specs.List.Sorted.{IsStrictlyIncreasing}
use Rattle.normal_form.specs.declared.normal.Sym.{Sym}
use Rattle.normal_form.specs.Form.{NormalForm}
use Rattle.normal_form.specs.Spans.{DerivesSpan, DerivesSpanSeq}
use Rattle.syntax_tree.specs.Preferred.{IsLongest}
use Rattle.chart_parser_ends.specs.Input.{ChartInput}
use Rattle.chart_parser_ends.specs.Positions.{EndsUpTo, HasAll, HasExactly, IsGrown, IsGreatest, IsLastAmong}
use Rattle.chart_parser_ends.proofs.Lent.{joins, lists, spans}
use Rattle.chart_parser.specs.declared.part.Part.{Part}
use Rattle.chart_parser.specs.inner.GoingOn.{AreGoingOn, AreReached, EndsFrom, HasGoingOn, HasReached, Meets, set_at}
use Rattle.chart_parser.specs.inner.Parts.{AreParts, IsPart}

pub set_at_read : (sets : List (Vec ℕ)) (k : ℕ) (v : Vec ℕ) → k < length sets → v ≡ get_or sets k v → v.items ≡ set_at sets k
set_at_read [] k v l e = absurd (omega (arith, l))
set_at_read (x ∷ sets) zero v l e = ap (λ (y : Vec ℕ). y.items) e
set_at_read (x ∷ sets) (suc k) v l e = set_at_read sets k v (omega (arith, l)) e

pub set_at_push_other : (sets : List (Vec ℕ)) (v : Vec ℕ) (k : ℕ) → k < length sets → set_at (sets ++ v ∷ []) k ≡ set_at sets k
set_at_push_other [] v k l = absurd (omega (arith, l))
set_at_push_other (x ∷ sets) v zero l = refl
set_at_push_other (x ∷ sets) v (suc k) l = set_at_push_other sets v k (omega (arith, l))

pub set_at_push : (sets : List (Vec ℕ)) (v : Vec ℕ) (k : ℕ) → k ≡ length sets → set_at (sets ++ v ∷ []) k ≡ v.items
set_at_push [] v zero e = refl
set_at_push [] v (suc k) e = absurd (omega (arith, e))
set_at_push (x ∷ sets) v zero e = absurd (omega (arith, e))
set_at_push (x ∷ sets) v (suc k) e = set_at_push sets v k (omega (arith, e))

pub set_at_set_same : (sets : List (Vec ℕ)) (v : Vec ℕ) (k : ℕ) → k < length sets → set_at (set sets k v) k ≡ v.items
set_at_set_same [] v k l = absurd (omega (arith, l))
set_at_set_same (x ∷ sets) v zero l = refl
set_at_set_same (x ∷ sets) v (suc k) l = set_at_set_same sets v k (omega (arith, l))

pub set_at_set_other : (sets : List (Vec ℕ)) (v : Vec ℕ) (i k : ℕ) → (k ≡ i → ⊥) → set_at (set sets i v) k ≡ set_at sets k
set_at_set_other [] v i k ne = refl
set_at_set_other (x ∷ sets) v zero zero ne = absurd (ne refl)
set_at_set_other (x ∷ sets) v zero (suc k) ne = refl
set_at_set_other (x ∷ sets) v (suc i) zero ne = refl
set_at_set_other (x ∷ sets) v (suc i) (suc k) ne = set_at_set_other sets v i k (λ e. ne (ap suc e))

-- what a test whether there is a position says
pub is_there : (found : Option ℕ) → is_some found ≡ true → (e : ℕ) × (found ≡ Some e)
is_there None h = absurd (cc)
is_there (Some e) h = (e, refl)

pub is_not_there : (found : Option ℕ) → is_some found ≡ false → found ≡ None
is_not_there None h = refl
is_not_there (Some e) h = absurd (cc)

pub contains_one : (y x : ℕ) → Contains (y ∷ []) x → x ≡ y
contains_one y x (zero, l, e) = sym e
contains_one y x (suc k, l, e) = absurd (omega (arith, l))

one_rises : (y : ℕ) → IsStrictlyIncreasing (y ∷ [])
one_rises y k h = absurd (omega (arith, h))

taken : (xs : List ℕ) (i x : ℕ) → i < length xs → Contains (take (i + 1) xs) x → Contains (take i xs) x ⊎ (get_or xs i 0 ≡ x)
taken xs i x l h = Contains-push_cases (take i xs) (get_or xs i 0) x (subst (λ (l : List ℕ). Contains l x) (take_more xs i 0 l) h)

taken_before : (xs : List ℕ) (i x : ℕ) → i < length xs → Contains (take i xs) x → Contains (take (i + 1) xs) x
taken_before xs i x l h = subst (λ (l : List ℕ). Contains l x) (sym (take_more xs i 0 l)) (Contains-append_left (take i xs) (get_or xs i 0 ∷ []) x h)

taken_last : (xs : List ℕ) (i : ℕ) → i < length xs → Contains (take (i + 1) xs) (get_or xs i 0)
taken_last xs i l = subst (λ (l : List ℕ). Contains l (get_or xs i 0)) (sym (take_more xs i 0 l)) (Contains-push (take i xs) (get_or xs i 0))

-- the kinds of what symbols derive are in order
pub seq_within : (N : NormalForm) (K : List ℕ) (ss : List Sym) (i j : ℕ) → DerivesSpanSeq N K ss i j → (i ≤ j) × (j ≤ length K)
seq_within N K ss i j d = let x = ((lists N K).seq ss i j).0 d in (x.0, x.1)

module _ (N : NormalForm) (K : List ℕ) where
  pub next_none : (s : Sym) (j : ℕ) (next : List ℕ) → HasAll (EndsFrom N K s [] j) next
  next_none s j next x (p, (k, l, e), d, within) = absurd (omega (arith, l))

  -- One more position was gone on from.
  pub next_more : (s : Sym) (positions : List ℕ) (n j : ℕ) (old new : List ℕ) → n < length positions → HasAll (EndsFrom N K s (take n positions) j) old →
      IsGrown (EndsUpTo N K s (get_or positions n 0) j) old new → HasAll (EndsUpTo N K s (get_or positions n 0) j) new
      → HasAll (EndsFrom N K s (take (n + 1) positions) j) new
  next_more s positions n j old new l has grown all x (p, c, d, within) = by (taken positions n p l c)
    where
      by : Contains (take n positions) p ⊎ (get_or positions n 0 ≡ p) → Contains new x
      by (inl h) = grown.kept x (has x (p, h, d, within))
      by (inr e) = all x (subst (λ (q : ℕ). DerivesSpan N K s q x) (sym e) d, within)

  -- symbols and the one after them
  before_and_one : (ss : List Sym) (n i j : ℕ) (s : Sym) → n < length ss → get_or ss n s ≡ s → DerivesSpanSeq N K (take (n + 1) ss) i j
      ↔ ((m : ℕ) × DerivesSpanSeq N K (take n ss) i m × DerivesSpan N K s m j)
  before_and_one ss n i j s l e = (to, back)
    where
      more : take (n + 1) ss ≡ take n ss ++ s ∷ []
      more = take_more ss n s l ∙ ap (λ (x : Sym). take n ss ++ x ∷ []) e

      to : DerivesSpanSeq N K (take (n + 1) ss) i j → (m : ℕ) × DerivesSpanSeq N K (take n ss) i m × DerivesSpan N K s m j
      to d = let (m, front, last) =
          ((joins N K).append (take n ss) (s ∷ []) i j).0 (subst (λ (x : List Sym). DerivesSpanSeq N K x i j) more d) in
          (m, front, ((joins N K).one s m j).0 last)

      back : ((m : ℕ) × DerivesSpanSeq N K (take n ss) i m × DerivesSpan N K s m j) → DerivesSpanSeq N K (take (n + 1) ss) i j
      back (m, front, last) =
          subst (λ (x : List Sym). DerivesSpanSeq N K x i j) (sym more)
          (((joins N K).append (take n ss) (s ∷ []) i j).1 (m, front, ((joins N K).one s m j).1 last))

  -- a symbol and those after it
  one_and_rest : (ss : List Sym) (n i j : ℕ) (s : Sym) → n < length ss → get_or ss n s ≡ s → DerivesSpanSeq N K (drop n ss) i j
      ↔ ((m : ℕ) × DerivesSpan N K s i m × DerivesSpanSeq N K (drop (n + 1) ss) m j)
  one_and_rest ss n i j s l e = (to, back)
    where
      more : drop n ss ≡ s ∷ drop (n + 1) ss
      more = drop_more ss n s l ∙ ap (λ (x : Sym). x ∷ drop (n + 1) ss) e

      to : DerivesSpanSeq N K (drop n ss) i j → (m : ℕ) × DerivesSpan N K s i m × DerivesSpanSeq N K (drop (n + 1) ss) m j
      to d = ((spans N K).next s (drop (n + 1) ss) i j).0 (subst (λ (x : List Sym). DerivesSpanSeq N K x i j) more d)

      back : ((m : ℕ) × DerivesSpan N K s i m × DerivesSpanSeq N K (drop (n + 1) ss) m j) → DerivesSpanSeq N K (drop n ss) i j
      back h = subst (λ (x : List Sym). DerivesSpanSeq N K x i j) (sym more) (((spans N K).next s (drop (n + 1) ss) i j).1 h)

  -- Before any symbol, the position where they begin is reached.
  pub first_reached : (ss : List Sym) (i j : ℕ) (v : Vec ℕ) → v.items ≡ i ∷ [] → AreReached N K ss i j 1 (v ∷ [])
  first_reached ss i j v e zero l =
      record { rising = subst IsStrictlyIncreasing (sym e) (one_rises i); all = λ x d w. subst (λ (l : List ℕ). Contains l x) (sym e) (all x d) }
    where
      all : (x : ℕ) → DerivesSpanSeq N K (take 0 ss) i x → Contains (i ∷ []) x
      all x d = (0, omega arith, (((spans N K).done i x).0 d).0)
  first_reached ss i j v e (suc k) l = absurd (omega (arith, l))

  -- One more list of positions is reached.
  pub one_more_reached : (ss : List Sym) (n i j : ℕ) (s : Sym) (sets : List (Vec ℕ)) (next : Vec ℕ) → n < length ss → get_or ss n s ≡ s → length sets ≡ n + 1
      → AreReached N K ss i j (n + 1) sets →
      IsStrictlyIncreasing next.items → HasAll (EndsFrom N K s (set_at sets n) j) next.items → AreReached N K ss i j (n + 2) (sets ++ next ∷ [])
  one_more_reached ss n i j s sets next l e len reached rising all k h = by (k_is k h)
    where
      k_is : (k : ℕ) → k < n + 2 → (k < n + 1) ⊎ (k ≡ n + 1)
      k_is k h = elim (cases_lt k (n + 1)) [ inl a ↦ inl a | inr a ↦ inr (omega (arith, a, h)) ]

      has : HasReached N K (take (n + 1) ss) i j next.items
      has = record { rising = rising; all = each }
        where
          each : (x : ℕ) → DerivesSpanSeq N K (take (n + 1) ss) i x → x ≤ j → Contains next.items x
          each x d w =
              let (m, front, last) = (before_and_one ss n i x s l e).0 d in
              all x (m, (reached n (omega arith)).all m front (omega (arith, last.rises, w)), last, w)

      by : (k < n + 1) ⊎ (k ≡ n + 1) → HasReached N K (take k ss) i j (set_at (sets ++ next ∷ []) k)
      by (inl a) = subst (HasReached N K (take k ss) i j) (sym (set_at_push_other sets next k (omega (arith, a, len)))) (reached k a)
      by (inr a) =
          let same : set_at (sets ++ next ∷ []) k ≡ next.items = set_at_push sets next k (omega (arith, a, len)) in
          subst (HasReached N K (take k ss) i j) (sym same) (subst (λ (m : ℕ). HasReached N K (take m ss) i j next.items) (sym a) has)

  push_rises : (xs : List ℕ) (y : ℕ) → IsStrictlyIncreasing xs → ((x : ℕ) → Contains xs x → x < y) → IsStrictlyIncreasing (xs ++ y ∷ [])
  push_rises xs y rising below k h = by (cases_lt (k + 1) (length xs))
    where
      len : length (xs ++ y ∷ []) ≡ length xs + 1
      len = length-append xs (y ∷ [])

      by : (k + 1 < length xs) ⊎ (length xs ≤ k + 1) → get_or (xs ++ y ∷ []) k 0 < get_or (xs ++ y ∷ []) (k + 1) 0
      by (inl a) = omega (arith, rising k a, get_or_append_left xs (y ∷ []) 0 k (omega (arith, a)), get_or_append_left xs (y ∷ []) 0 (k + 1) a)
      by (inr a) =
          let l : k < length xs = omega (arith, h, len) in
          let e : length xs ≡ k + 1 = omega (arith, a, l) in
          omega (arith, below (get_or xs k 0) (Contains-get_or xs k 0 l), get_or_append_left xs (y ∷ []) 0 k l, get_or_push xs y 0 (k + 1) e)

  -- the positions before one of a rising list are smaller
  taken_below : (xs : List ℕ) (n x : ℕ) → IsStrictlyIncreasing xs → n < length xs → Contains (take n xs) x → x < get_or xs n 0
  taken_below xs n x rising l (k, m, e) =
      let len : length (take n xs) ≤ n = omega (arith, length-take n xs) in
      let kn : k < n = omega (arith, m, len) in
      let read : get_or (take n xs) k 0 ≡ get_or xs k 0 = get_or-take n xs k 0 kn in
      omega (arith, AllPairs-from_increasing xs rising k n 0 kn l, read, sym (get_or_default_zero (take n xs) k x m) ∙ e)

  -- Of no positions there is none.
  pub meets_none : (s : Sym) (later kept : List ℕ) → kept ≡ [] → HasExactly (Meets N K s [] later) kept
  meets_none s later kept e =
      subst (HasExactly (Meets N K s [] later)) (sym e)
      (record {
        rising = λ k h. absurd (omega (arith, h));
        only = λ x (k, l, f). absurd (omega (arith, l));
        all = λ x ((k, l, f), m). absurd (omega (arith, l));
      })

  -- From one more position the symbol can end at one of the later ones.
  pub meets_more : (s : Sym) (positions later kept : List ℕ) (n : ℕ) (found : Option ℕ) (e : ℕ) → n < length positions → IsStrictlyIncreasing positions
      → HasExactly (Meets N K s (take n positions) later) kept →
      IsLastAmong (DerivesSpan N K s (get_or positions n 0)) later found → found ≡ Some e
      → HasExactly (Meets N K s (take (n + 1) positions) later) (kept ++ get_or positions n 0 ∷ [])
  meets_more s positions later kept n found e l rising h last is =
      record { rising = push_rises kept p h.rising (λ x c. taken_below positions n x rising l (h.only x c).0); only = only; all = all }
    where
      p : ℕ
      p = get_or positions n 0

      greatest : IsGreatest (DerivesSpan N K s p) later e
      greatest = subst (IsLastAmong (DerivesSpan N K s p) later) is last

      only : (x : ℕ) → Contains (kept ++ p ∷ []) x → Meets N K s (take (n + 1) positions) later x
      only x c = elim (Contains-push_cases kept p x c) [
        | inl a ↦ (let m = h.only x a in (taken_before positions n x l m.0, m.1))
        | inr a ↦ subst (Meets N K s (take (n + 1) positions) later) a (taken_last positions n l, (e, greatest.has, greatest.holds))
      ]

      all : (x : ℕ) → Meets N K s (take (n + 1) positions) later x → Contains (kept ++ p ∷ []) x
      all x (c, m) = elim (taken positions n x l c) [
        | inl a ↦ Contains-append_left kept (p ∷ []) x (h.all x (a, m))
        | inr a ↦ subst (Contains (kept ++ p ∷ [])) a (Contains-push kept p)
      ]

  -- From one more position it can't.
  pub meets_same : (s : Sym) (positions later kept : List ℕ) (n : ℕ) (found : Option ℕ) → n < length positions
      → HasExactly (Meets N K s (take n positions) later) kept →
      IsLastAmong (DerivesSpan N K s (get_or positions n 0)) later found → found ≡ None → HasExactly (Meets N K s (take (n + 1) positions) later) kept
  meets_same s positions later kept n found l h last is =
      record { rising = h.rising; only = λ x c. (let m = h.only x c in (taken_before positions n x l m.0, m.1)); all = all }
    where
      none : (x : ℕ) → Contains later x → DerivesSpan N K s (get_or positions n 0) x → ⊥
      none = subst (IsLastAmong (DerivesSpan N K s (get_or positions n 0)) later) is last

      all : (x : ℕ) → Meets N K s (take (n + 1) positions) later x → Contains kept x
      all x (c, m) = elim (taken positions n x l c) [
        | inl a ↦ h.all x (a, m)
        | inr a ↦ absurd (none m.0 m.1 (subst (λ (q : ℕ). DerivesSpan N K s q m.0) (sym a) m.2))
      ]

  -- At the end of the span no symbol remains.
  pub last_going_on : (ss : List Sym) (i j : ℕ) (sets : List (Vec ℕ)) (v : Vec ℕ) → length sets ≡ length ss → v.items ≡ j ∷ [] → j ≤ length K
      → AreGoingOn N K ss i j (length ss) (sets ++ v ∷ [])
  last_going_on ss i j sets v len e w k l m =
      let same : set_at (sets ++ v ∷ []) k ≡ j ∷ [] = set_at_push sets v k (omega (arith, l, m, len)) ∙ e in
      let none : drop k ss ≡ [] = drop_all k ss l in
      subst (λ (x : List ℕ). HasGoingOn N K (drop k ss) j (DerivesSpanSeq N K (take k ss) i) x) (sym same)
      (subst (λ (x : List Sym). HasGoingOn N K x j (DerivesSpanSeq N K (take k ss) i) (j ∷ [])) (sym none)
      (record { rising = one_rises j; only = only; all = all }))
    where
      only : (x : ℕ) → Contains (j ∷ []) x → DerivesSpanSeq N K [] x j
      only x c = subst (λ (y : ℕ). DerivesSpanSeq N K [] y j) (sym (contains_one j x c)) (DerivesSpanSeq.of_done j w)

      all : (x : ℕ) → DerivesSpanSeq N K (take k ss) i x → DerivesSpanSeq N K [] x j → Contains (j ∷ []) x
      all x p d = (0, omega arith, sym (((spans N K).done x j).0 d).0)

  -- One list more has only the positions from which the rest goes on.
  pub one_more_going_on : (ss : List Sym) (n i j : ℕ) (s : Sym) (sets : List (Vec ℕ)) (kept : Vec ℕ) → n < length ss → get_or ss n s ≡ s → n < length sets
      → HasReached N K (take n ss) i j (set_at sets n) →
      AreGoingOn N K ss i j (n + 1) sets → HasExactly (Meets N K s (set_at sets n) (set_at sets (n + 1))) kept.items → AreGoingOn N K ss i j n (set sets n kept)
  one_more_going_on ss n i j s sets kept l e len reached later h k a b = by (cases_lt n k)
    where
      next : HasGoingOn N K (drop (n + 1) ss) j (DerivesSpanSeq N K (take (n + 1) ss) i) (set_at sets (n + 1))
      next = later (n + 1) (omega arith) (omega (arith, l))

      only : (x : ℕ) → Contains kept.items x → DerivesSpanSeq N K (drop n ss) x j
      only x c = let (m, has, d) = (h.only x c).1 in (one_and_rest ss n x j s l e).1 (m, d, next.only m has)

      all : (x : ℕ) → DerivesSpanSeq N K (take n ss) i x → DerivesSpanSeq N K (drop n ss) x j → Contains kept.items x
      all x p d =
          let (m, one, rest) = (one_and_rest ss n x j s l e).0 d in
          h.all x (reached.all x p (seq_within N K (drop n ss) x j d).0, (m, next.all m ((before_and_one ss n i m s l e).1 (x, p, one)) rest, one))

      by : (n < k) ⊎ (k ≤ n) → HasGoingOn N K (drop k ss) j (DerivesSpanSeq N K (take k ss) i) (set_at (set sets n kept) k)
      by (inl c) =
          subst (HasGoingOn N K (drop k ss) j (DerivesSpanSeq N K (take k ss) i)) (sym (set_at_set_other sets kept n k (λ f. omega (arith, f, c))))
          (later k (omega (arith, c)) b)
      by (inr c) =
          let same : k ≡ n = omega (arith, a, c) in
          let at : set_at (set sets n kept) k ≡ kept.items = ap (set_at (set sets n kept)) same ∙ set_at_set_same sets kept n len in
          subst (HasGoingOn N K (drop k ss) j (DerivesSpanSeq N K (take k ss) i)) (sym at)
          (subst (λ (m : ℕ). HasGoingOn N K (drop m ss) j (DerivesSpanSeq N K (take m ss) i) kept.items) (sym same)
          (record { rising = h.rising; only = only; all = all }))

  -- The lists before one that is put in are as they were.
  pub still_reached : (ss : List Sym) (n i j : ℕ) (sets : List (Vec ℕ)) (kept : Vec ℕ) → AreReached N K ss i j (n + 1) sets
      → AreReached N K ss i j n (set sets n kept)
  still_reached ss n i j sets kept reached k l =
      subst (HasReached N K (take k ss) i j) (sym (set_at_set_other sets kept n k (λ f. omega (arith, f, l)))) (reached k (omega (arith, l)))

  pub push_reached : (ss : List Sym) (n i j : ℕ) (sets : List (Vec ℕ)) (v : Vec ℕ) → n ≤ length sets → AreReached N K ss i j n sets
      → AreReached N K ss i j n (sets ++ v ∷ [])
  push_reached ss n i j sets v len reached k l = subst (HasReached N K (take k ss) i j) (sym (set_at_push_other sets v k (omega (arith, l, len)))) (reached k l)

  -- Where the parts of the first symbols are cut off: the position p, which the first n symbols reach, and from which the rest goes on if there are any.
  pub record IsCutAt (ss : List Sym) (i j n p : ℕ) (parts : List Part) : Type 0 where
    pub reached : DerivesSpanSeq N K (take n ss) i p
    pub begins : n ≡ 0 → p ≡ i
    pub goes_on : 0 < n → DerivesSpanSeq N K (drop n ss) p j
    pub parts_are : (more : List Part) → AreParts N K (drop n ss) p j more → AreParts N K ss i j (parts ++ more)

  pub cut_begins : (ss : List Sym) (i j : ℕ) (parts : List Part) → parts ≡ [] → i ≤ length K → IsCutAt ss i j 0 i parts
  cut_begins ss i j parts e w = record {
    reached = DerivesSpanSeq.of_done i w;
    begins = λ _. refl;
    goes_on = λ l. absurd (omega (arith, l));
    parts_are = λ more are. subst (λ (ps : List Part). AreParts N K ss i j (ps ++ more)) (sym e) are;
  }

  -- The part of one more symbol, which ends at the greatest of the positions from which the rest goes on.
  pub cut_more : (ss : List Sym) (n i j p e : ℕ) (s : Sym) (sets : List (Vec ℕ)) (parts : List Part) (found : Option ℕ) (part : Part) → n < length ss
      → get_or ss n s ≡ s → AreGoingOn N K ss i j 1 sets → IsCutAt ss i j n p parts →
      IsLastAmong (DerivesSpan N K s p) (set_at sets (n + 1)) found → found ≡ Some e → part.slot ≡ s → part.first ≡ p → part.end ≡ e
      → IsCutAt ss i j (n + 1) e (parts ++ part ∷ [])
  cut_more ss n i j p e s sets parts found part l read later cut last is slot first end = record {
    reached = (before_and_one ss n i e s l read).1 (p, cut.reached, greatest.holds);
    begins = λ f. absurd (omega (arith, f));
    goes_on = λ _. next.only e greatest.has;
    parts_are =
        λ more are. subst (λ (ps : List Part). AreParts N K ss i j ps) (sym (append_assoc parts (part ∷ []) more))
        (cut.parts_are (part ∷ more) (with_part more are));
  }
    where
      greatest : IsGreatest (DerivesSpan N K s p) (set_at sets (n + 1)) e
      greatest = subst (IsLastAmong (DerivesSpan N K s p) (set_at sets (n + 1))) is last

      next : HasGoingOn N K (drop (n + 1) ss) j (DerivesSpanSeq N K (take (n + 1) ss) i) (set_at sets (n + 1))
      next = later (n + 1) (omega arith) (omega (arith, l))

      longest : IsLongest N K s p e (λ x. DerivesSpanSeq N K (drop (n + 1) ss) x j)
      longest x lt d rest =
          let has = next.all x ((before_and_one ss n i x s l read).1 (p, cut.reached, d)) rest in
          omega (arith, lt, greatest.greatest x has d)

      is_part : IsPart N K s p (λ x. DerivesSpanSeq N K (drop (n + 1) ss) x j) part
      is_part = record {
        slot = slot;
        first = first;
        derived = subst (DerivesSpan N K s p) (sym end) greatest.holds;
        longest = subst (λ (m : ℕ). IsLongest N K s p m (λ x. DerivesSpanSeq N K (drop (n + 1) ss) x j)) (sym end) longest;
      }

      with_part : (more : List Part) → AreParts N K (drop (n + 1) ss) e j more → AreParts N K (drop n ss) p j (part ∷ more)
      with_part more are =
          let split : drop n ss ≡ s ∷ drop (n + 1) ss = drop_more ss n s l ∙ ap (λ (x : Sym). x ∷ drop (n + 1) ss) read in
          subst (λ (x : List Sym). AreParts N K x p j (part ∷ more)) (sym split)
          (is_part, subst (λ (m : ℕ). AreParts N K (drop (n + 1) ss) m j more) (sym end) are)

  -- Where the symbol can end at none of these positions, the symbols don't derive the span.
  pub not_cut : (ss : List Sym) (n i j p : ℕ) (s : Sym) (sets : List (Vec ℕ)) (parts : List Part) (found : Option ℕ) → n < length ss → get_or ss n s ≡ s
      → AreGoingOn N K ss i j 1 sets → IsCutAt ss i j n p parts →
      IsLastAmong (DerivesSpan N K s p) (set_at sets (n + 1)) found → found ≡ None → DerivesSpanSeq N K ss i j → ⊥
  not_cut ss n i j p s sets parts found l read later cut last is whole = by n refl
    where
      none : (x : ℕ) → Contains (set_at sets (n + 1)) x → DerivesSpan N K s p x → ⊥
      none = subst (IsLastAmong (DerivesSpan N K s p) (set_at sets (n + 1))) is last

      next : HasGoingOn N K (drop (n + 1) ss) j (DerivesSpanSeq N K (take (n + 1) ss) i) (set_at sets (n + 1))
      next = later (n + 1) (omega arith) (omega (arith, l))

      not_here : DerivesSpanSeq N K (drop n ss) p j → ⊥
      not_here d = let (m, one, rest) =
          (one_and_rest ss n p j s l read).0 d in none m (next.all m ((before_and_one ss n i m s l read).1 (p, cut.reached, one)) rest) one

      by : (m : ℕ) → m ≡ n → ⊥
      by zero e =
          not_here (subst (λ (q : ℕ). DerivesSpanSeq N K (drop n ss) q j) (sym (cut.begins (sym e)))
          (subst (λ (m : ℕ). DerivesSpanSeq N K (drop m ss) i j) e whole))
      by (suc m) e = not_here (cut.goes_on (omega (arith, e)))

  -- After all symbols the parts are cut.
  pub cut_done : (ss : List Sym) (n i j p : ℕ) (parts : List Part) → 0 < n → length ss ≤ n → IsCutAt ss i j n p parts → AreParts N K ss i j parts
  cut_done ss n i j p parts pos l cut =
      let none : drop n ss ≡ [] = drop_all n ss l in
      let done = ((spans N K).done p j).0 (subst (λ (x : List Sym). DerivesSpanSeq N K x p j) none (cut.goes_on pos)) in
      let are = cut.parts_are [] (subst (λ (x : List Sym). AreParts N K x p j []) (sym none) (done.0, omega (arith, done.0, done.1))) in
      subst (λ (ps : List Part). AreParts N K ss i j ps) (append-nil parts) are

-- The same where the chart is still the one that there was at first.
pub reach_step : (now start : ChartInput) (ss : List Sym) (n i j : ℕ) (s : Sym) (sets : List (Vec ℕ)) (v next : Vec ℕ) (positions : List ℕ) → now ≡ start
    → n < length ss → get_or ss n s ≡ s → length sets ≡ n + 1 → AreReached start.normal start.kinds ss i j (n + 1) sets →
    v ≡ get_or sets n v → positions ≡ v.items → IsStrictlyIncreasing next.items → HasAll (EndsFrom now.normal now.kinds s positions j) next.items
    → AreReached start.normal start.kinds ss i j (n + 1 + 1) (sets ++ next ∷ [])
reach_step now start ss n i j s sets v next positions same l read len reached at value rising all =
    let place : positions ≡ set_at sets n = value ∙ set_at_read sets n v (omega (arith, len)) at in
    let from-start = subst (λ (x : ChartInput). HasAll (EndsFrom x.normal x.kinds s positions j) next.items) same all in
    let from-set = subst (λ (l : List ℕ). HasAll (EndsFrom start.normal start.kinds s l j) next.items) place from-start in
    let e : n + 2 ≡ n + 1 + 1 = omega arith in
    subst (λ (m : ℕ). AreReached start.normal start.kinds ss i j m (sets ++ next ∷ [])) e
    (one_more_reached start.normal start.kinds ss n i j s sets next l read len reached rising from-set)

pub going_on_step : (now start : ChartInput) (ss : List Sym) (index i j : ℕ) (s : Sym) (sets : List (Vec ℕ)) (v w kept : Vec ℕ) (positions later : List ℕ)
    → now ≡ start → 1 < index → index ≤ length ss → length sets ≡ length ss + 1 →
    AreReached start.normal start.kinds ss i j index sets → AreGoingOn start.normal start.kinds ss i j index sets → get_or ss (index - 1) s ≡ s
    → v ≡ get_or sets (index - 1) v → positions ≡ v.items → w ≡ get_or sets (index - 1 + 1) w → later ≡ w.items →
    HasExactly (Meets now.normal now.kinds s positions later) kept.items → AreReached start.normal start.kinds ss i j (index - 1) (set sets (index - 1) kept)
    × AreGoingOn start.normal start.kinds ss i j (index - 1) (set sets (index - 1) kept)
going_on_step now start ss index i j s sets v w kept positions later same low high len reached going read at value at-next value-next h =
    let N = start.normal in
    let K = start.kinds in
    let m = index - 1 in
    let e : index ≡ m + 1 = omega (arith, low) in
    let place : positions ≡ set_at sets m = value ∙ set_at_read sets m v (omega (arith, len, high)) at in
    let place-next : later ≡ set_at sets (m + 1) = value-next ∙ set_at_read sets (m + 1) w (omega (arith, len, high, low)) at-next in
    let from-start = subst (λ (x : ChartInput). HasExactly (Meets x.normal x.kinds s positions later) kept.items) same h in
    let from-set = subst (λ (l : List ℕ). HasExactly (Meets N K s l later) kept.items) place from-start in
    let from-sets = subst (λ (l : List ℕ). HasExactly (Meets N K s (set_at sets m) l) kept.items) place-next from-set in
    let reached-more = subst (λ (x : ℕ). AreReached N K ss i j x sets) e reached in
    let going-more = subst (λ (x : ℕ). AreGoingOn N K ss i j x sets) e going in (
      still_reached N K ss m i j sets kept reached-more,
      one_more_going_on N K ss m i j s sets kept (omega (arith, high, low)) read (omega (arith, len, high)) (reached-more m (omega arith)) going-more from-sets,
    )

pub cut_step : (now start : ChartInput) (ss : List Sym) (n i j p e : ℕ) (s : Sym) (sets : List (Vec ℕ)) (w : Vec ℕ) (among : List ℕ) (parts : List Part)
    (found : Option ℕ) (part : Part) → now ≡ start → n < length ss → get_or ss n s ≡ s → length sets ≡ length ss + 1 →
    AreGoingOn start.normal start.kinds ss i j 1 sets → IsCutAt start.normal start.kinds ss i j n p parts → w ≡ get_or sets (n + 1) w → among ≡ w.items
    → IsLastAmong (DerivesSpan now.normal now.kinds s p) among found → found ≡ Some e →
    part.slot ≡ s → part.first ≡ p → part.end ≡ e → IsCutAt start.normal start.kinds ss i j (n + 1) e (parts ++ part ∷ [])
cut_step now start ss n i j p e s sets w among parts found part same l read len going cut at value last is slot first end =
    let place : among ≡ set_at sets (n + 1) = value ∙ set_at_read sets (n + 1) w (omega (arith, len, l)) at in
    let from-start = subst (λ (x : ChartInput). IsLastAmong (DerivesSpan x.normal x.kinds s p) among found) same last in
    cut_more start.normal start.kinds ss n i j p e s sets parts found part l read going cut
    (subst (λ (a : List ℕ). IsLastAmong (DerivesSpan start.normal start.kinds s p) a found) place from-start) is slot first end

pub no_cut_step : (now start : ChartInput) (ss : List Sym) (n i j p : ℕ) (s : Sym) (sets : List (Vec ℕ)) (w : Vec ℕ) (among : List ℕ) (parts : List Part)
    (found : Option ℕ) → now ≡ start → n < length ss → get_or ss n s ≡ s → length sets ≡ length ss + 1 →
    AreGoingOn start.normal start.kinds ss i j 1 sets → IsCutAt start.normal start.kinds ss i j n p parts → w ≡ get_or sets (n + 1) w → among ≡ w.items
    → IsLastAmong (DerivesSpan now.normal now.kinds s p) among found → found ≡ None → DerivesSpanSeq start.normal start.kinds ss i j → ⊥
no_cut_step now start ss n i j p s sets w among parts found same l read len going cut at value last is d =
    let place : among ≡ set_at sets (n + 1) = value ∙ set_at_read sets (n + 1) w (omega (arith, len, l)) at in
    let from-start = subst (λ (x : ChartInput). IsLastAmong (DerivesSpan x.normal x.kinds s p) among found) same last in
    not_cut start.normal start.kinds ss n i j p s sets parts found l read going cut
    (subst (λ (a : List ℕ). IsLastAmong (DerivesSpan start.normal start.kinds s p) a found) place from-start) is d

-- no symbols derive no kinds
pub no_symbols : (N : NormalForm) (K : List ℕ) (ss : List Sym) (i j : ℕ) (parts : List Part) → length ss ≡ 0 → parts ≡ [] → i ≤ length K → i ≡ j
    → AreParts N K ss i j parts
no_symbols N K [] i j parts len none w e = subst (AreParts N K [] i j) (sym none) (e, w)
no_symbols N K (s ∷ ss) i j parts len none w e = absurd (omega (arith, len))

pub no_symbols_not : (N : NormalForm) (K : List ℕ) (ss : List Sym) (i j : ℕ) → length ss ≡ 0 → (i ≡ j → ⊥) → DerivesSpanSeq N K ss i j → ⊥
no_symbols_not N K [] i j len ne d = ne (((spans N K).done i j).0 d).0
no_symbols_not N K (s ∷ ss) i j len ne d = omega (arith, len)
