-- What is worked on until its entry is there.
use Rattle.std.proofs.Common.{◌≡◌, ℕ, ◌+◌, ◌<◌, ◌^◌, ◌⊎◌, inl, inr, List, [], ◌∷◌, ◌++◌, length, length-append, sym, ap, ◌∙◌, subst, arith}
use Rattle.std.proofs.lemmas.List.Elements.{Contains-append_left, Contains-push, Contains-push_cases}
use Rattle.std.specs.List.{Contains}
use Rattle.chart_parser_ends.specs.declared.work.Work.{Work}
use Rattle.chart_parser_ends.specs.inner.Entries.{Entry, HasEntry, entry}
use Rattle.chart_parser_ends.specs.inner.UnderWay.{IsUnderWay, KeepsUnderWay, work_left}
use Rattle.chart_parser_ends.specs.inner.Working.{IsOn, first_of, rule_of}

no_work : (w : Work) → Contains [] w → ⊥
no_work w (k, l, e) = omega (arith, l)

-- There is work on what was put on the stack last.
pub on_stack : (E : List Entry) (old new : List Work) (w : Work) (rule first : ℕ) → new ≡ old ++ w ∷ [] → IsOn rule first w → IsUnderWay E new rule first
on_stack E old new w rule first e on = inr (w, subst (λ l. Contains l w) (sym e) (Contains-push old w), on)

-- Where the stack is empty, the entry is there.
pub ended : (E : List Entry) (works : List Work) (rule first : ℕ) → works ≡ [] → IsUnderWay E works rule first → HasEntry E rule first
ended E works rule first e (inl there) = there
ended E works rule first e (inr (w, c, on)) = absurd (no_work w (subst (λ l. Contains l w) e c))

on_same : (rule first : ℕ) (w v : Work) → IsOn (rule_of w) (first_of w) v → IsOn rule first w → IsOn rule first v
on_same rule first w v is on = record { rule_is = is.rule_is ∙ on.rule_is; first_is = is.first_is ∙ on.first_is }

-- The work is done, and its entry is stored.
pub stored : (E new : List Entry) (works : List Work) (w : Work) (rule first : ℕ) (ends : List ℕ) → rule ≡ rule_of w → first ≡ first_of w
    → new ≡ E ++ entry rule first ends ∷ [] → KeepsUnderWay E (works ++ w ∷ []) new works
stored E new works w rule first ends rule_is first_is e r f under = by under
  where
    kept : HasEntry E r f → HasEntry new r f
    kept (es, c) = (es, subst (λ l. Contains l (entry r f es)) (sym e) (Contains-append_left E (entry rule first ends ∷ []) (entry r f es) c))

    there : IsOn r f w → HasEntry new r f
    there on =
        let same : entry rule first ends ≡ entry r f ends =
        ap (λ n. entry n first ends) (rule_is ∙ on.rule_is) ∙ ap (λ n. entry r n ends) (first_is ∙ on.first_is) in (
          ends,
          subst (λ l. Contains l (entry r f ends)) (sym e)
              (subst (Contains (E ++ entry rule first ends ∷ [])) same (Contains-push E (entry rule first ends))),
        )

    split : (v : Work) → IsOn r f v → Contains works v ⊎ (w ≡ v) → IsUnderWay new works r f
    split v on (inl c) = inr (v, c, on)
    split v on (inr same) = inl (there (subst (IsOn r f) (sym same) on))

    by : IsUnderWay E (works ++ w ∷ []) r f → IsUnderWay new works r f
    by (inl h) = inl (kept h)
    by (inr (v, c, on)) = split v on (Contains-push_cases works w v c)

-- The work goes on.
goes_on : (E : List Entry) (works new : List Work) (w v : Work) → new ≡ works ++ v ∷ [] → IsOn (rule_of w) (first_of w) v
    → KeepsUnderWay E (works ++ w ∷ []) E new
goes_on E works new w v e is r f under = by under
  where
    split : (x : Work) → IsOn r f x → Contains works x ⊎ (w ≡ x) → IsUnderWay E new r f
    split x on (inl c) = inr (x, subst (λ l. Contains l x) (sym e) (Contains-append_left works (v ∷ []) x c), on)
    split x on (inr same) = on_stack E works new v r f e (on_same r f w v is (subst (IsOn r f) (sym same) on))

    by : IsUnderWay E (works ++ w ∷ []) r f → IsUnderWay E new r f
    by (inl h) = inl h
    by (inr (x, c, on)) = split x on (Contains-push_cases works w x c)

-- The work goes on after some other work that it needs.
pub waits : (E : List Entry) (works with_it new : List Work) (w v x : Work) → with_it ≡ works ++ v ∷ [] → new ≡ with_it ++ x ∷ []
    → IsOn (rule_of w) (first_of w) v → KeepsUnderWay E (works ++ w ∷ []) E new
waits E works with_it new w v x e more is r f under = by (goes_on E works with_it w v e is r f under)
  where
    by : IsUnderWay E with_it r f → IsUnderWay E new r f
    by (inl h) = inl h
    by (inr (y, c, on)) = inr (y, subst (λ l. Contains l y) (sym more) (Contains-append_left with_it (x ∷ []) y c), on)

-- Where an entry is stored, less is left.
pub less_stored : (E new : List Entry) (works : ℕ) (e : Entry) → new ≡ E ++ e ∷ [] → length new < 2 ^ 32 → work_left new works < work_left E (works + 1)
less_stored E new works e is few =
    let count : length new ≡ length E + 1 = ap length is ∙ length-append E (e ∷ []) in
    omega (arith, count, few)

-- Where one more work waits, less is left.
pub less_waiting : (E : List Entry) (works with_it new : List Work) (v x : Work) → with_it ≡ works ++ v ∷ [] → new ≡ with_it ++ x ∷ [] → length new < 2 ^ 64
    → work_left E (length new) < work_left E (length works + 1)
less_waiting E works with_it new v x e more few =
    let first : length with_it ≡ length works + 1 = ap length e ∙ length-append works (v ∷ []) in
    let second : length new ≡ length with_it + 1 = ap length more ∙ length-append with_it (x ∷ []) in
    omega (arith, first, second, few)
