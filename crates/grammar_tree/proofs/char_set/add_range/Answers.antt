use Rattle.std.proofs.Common.{◌≡◌, ℕ, ◌+◌, ◌≤◌, ◌||◌, true, false, Bool, cond, List, [], ◌∷◌, ◌++◌, max, refl, sym}
use Rattle.std.proofs.Common.{ap, ◌∙◌, arith, ◌-◌, ◌<◌, length, take, set, get_or, take_all}
use Rattle.std.proofs.lemmas.Bool.{and_parts, and_from}
use Rattle.std.proofs.lemmas.List.{nil_from_length, take_more, take_more_set, length-set}
use Rattle.regex_class.specs.Ranges.{Range, in_range, in_ranges, rises_from, last_start_or, IsCanonical}
use Rattle.regex_class.proofs.RangesLemmas.{in_range_tells, in_ranges-push, next_free, next_free-push, next_free-nil}
use Rattle.regex_class.proofs.RangesLemmas.{last_start_or-push, rises_from-push, fits_from-true, le-fits_from}
use Rattle.grammar_tree.proofs.char_set.add_range.Goals as goal
use Rattle.grammar_tree.proofs.char_set.add_range.Goals.{then-len-gt0+else-range-last, else-len-gt0}

-- what is known of a canonical list with a last range
last_fits : (whole xs : List Range) (r : Range) → whole ≡ xs ++ r ∷ [] → IsCanonical whole → IsCanonical xs × (next_free 0 xs ≤ r.0) × (r.0 ≤ r.1)
    × (r.1 ≤ 0x10_FFFF)
last_fits whole xs r e h =
    let parts = and_parts _ _ (sym (rises_from-push 0 xs r) ∙ ap (rises_from 0) (sym e) ∙ h) in
    let fits = fits_from-true _ r parts.1 in
    (parts.0, fits.0, fits.1, fits.2)

-- a push that may fail leaves a canonical list
pushed_fits : (b : Bool) (new xs : List Range) (r : Range) → new ≡ cond b (xs ++ r ∷ []) xs → IsCanonical xs → next_free 0 xs ≤ r.0 → r.0 ≤ r.1
    → r.1 ≤ 0x10_FFFF → IsCanonical new
pushed_fits true new xs r e h p q s = ap (rises_from 0) e ∙ rises_from-push 0 xs r ∙ and_from _ _ h (le-fits_from _ r p q s)
pushed_fits false new xs r e h p q s = ap (rises_from 0) e ∙ h

-- two ranges that touch hold what their hull holds
hull : (b : Bool) (last r : Range) (m c : ℕ) → last.0 ≤ r.0 → r.0 ≤ last.1 + 1 → last.0 ≤ last.1 → m ≡ max last.1 r.1
    → (b || in_range (last.0, m) c) ≡ ((b || in_range last c) || in_range r c)
hull true last r m c p q s e = refl
hull false last r m c p q s e = grind (arith, in_range_tells (last.0, m) c, in_range_tells last c, in_range_tells r c)

-- a list is its front and its last item, also after that item is replaced
front_last : (xs : List Range) (n : ℕ) (last : Range) → n ≡ length xs → 0 < n → last ≡ get_or xs (n - 1) last →
    xs ≡ take (n - 1) xs ++ last ∷ []
front_last xs n last len some is =
    sym (take_all (n - 1 + 1) xs (omega arith)) ∙ take_more xs (n - 1) last (omega arith)
    ∙ ap (λ (r : Range). take (n - 1) xs ++ r ∷ []) (sym is)

front_new : (xs : List Range) (n : ℕ) (new : Range) → n ≡ length xs → 0 < n → set xs (n - 1) new ≡ take (n - 1) xs ++ new ∷ []
front_new xs n new len some =
    sym (take_all (n - 1 + 1) (set xs (n - 1) new) (omega (arith, length-set xs (n - 1) new)))
    ∙ take_more_set xs (n - 1) new (omega arith)

pub overflow_add-last : goal.overflow_add-last
overflow_add-last c =
    let xs = c.args.class.now.ranges in
    let old = front_last xs.items _ _ (c.len-len.ensures ∙ xs.ok.0) c.if-len-gt0.true c.index-last.ensures in
    let h = last_fits _ _ _ old c.args.class.now.canonical in omega arith

pub invariant_of-class : goal.invariant_of-class
invariant_of-class c =
    let xs = c.args.class.now.ranges in
    let len = c.len-len.ensures ∙ xs.ok.0 in
    let h = last_fits _ _ _ (front_last xs.items _ _ len c.if-len-gt0.true c.index-last.ensures) c.args.class.now.canonical in
    let m = c.max.ensures in
    record {
      canonical = pushed_fits true _ _ (c.index-last.result.now.0, c.max.result)
          (front_new xs.items _ _ len c.if-len-gt0.true) h.0 h.1 (omega arith) (omega arith);
    }

pub returns-then-range-last-clause-members : goal.returns-then-range-last-clause-members
returns-then-range-last-clause-members c =
    let xs = c.args.class.now.ranges in
    let len = c.len-len.ensures ∙ xs.ok.0 in
    let old = front_last xs.items _ _ len c.if-len-gt0.true c.index-last.ensures in
    let h = last_fits _ _ _ old c.args.class.now.canonical in
    let start = ap (last_start_or 0) old ∙ last_start_or-push 0 _ _ in
    λ x. ap (λ l. in_ranges l x) (front_new xs.items _ _ len c.if-len-gt0.true) ∙ in_ranges-push _ _ x
    ∙ hull _ c.index-last.result.now c.args.range _ x (omega arith) c.if-range-last.true h.2 c.max.ensures
    ∙ ap (λ b. b || in_range c.args.range x) (sym (ap (λ l. in_ranges l x) old ∙ in_ranges-push _ _ x))

pub returns-then-range-last-clause-starts : goal.returns-then-range-last-clause-starts
returns-then-range-last-clause-starts c =
    let xs = c.args.class.now.ranges in
    let len = c.len-len.ensures ∙ xs.ok.0 in
    let old = ap (last_start_or 0) (front_last xs.items _ _ len c.if-len-gt0.true c.index-last.ensures)
    ∙ last_start_or-push 0 _ _ in
    let new = ap (last_start_or 0) (front_new xs.items _ (c.index-last.result.now.0, c.max.result) len c.if-len-gt0.true)
    ∙ last_start_or-push 0 _ _ in
    omega arith

pub invariant_of-class-2 : goal.invariant_of-class-2
invariant_of-class-2 c =
    let xs = c.args.class.now.ranges in
    let len = c.len-len.ensures ∙ xs.ok.0 in
    let free : next_free 0 xs.items ≤ c.args.range.0 = elim c.if-len-gt0.branch [
      | then-len-gt0+else-range-last w ↦ omega (
        arith,
        ap (next_free 0) (front_last xs.items _ _ len w.if-len-gt0.true w.index-last.ensures) ∙ next_free-push 0 _ _,
      )
      | else-len-gt0 w ↦ omega (arith, ap (next_free 0) (nil_from_length xs.items (omega arith)) ∙ next_free-nil 0)
    ] in
    record {
      canonical =
          pushed_fits _ _ _ _ c.push.ensures.items c.args.class.now.canonical free c.requires.ordered c.requires.bounded;
    }

pub returns-clause-members : goal.returns-clause-members
returns-clause-members c = λ x. ap (λ l. in_ranges l x) c.in_ok-push.ensures.items ∙ in_ranges-push _ _ x

pub returns-clause-starts : goal.returns-clause-starts
returns-clause-starts c = omega (arith, ap (last_start_or 0) c.in_ok-push.ensures.items ∙ last_start_or-push 0 _ _)
