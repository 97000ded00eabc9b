use Rattle.std.proofs.Common.{◌≡◌, ◌&&◌, false, slice_index_or, ◌<◌, ◌+◌, ◌⊎◌, ℕ, Bool, List, length, inl, inr, sym, ap, refl, ◌∙◌, subst, arith}
use Rattle.grammar_tree.specs.Chars.{has}
use Rattle.cases_languages.specs.Patterns as plain
use Rattle.cases_languages.specs.Positions.{AreEnds, Known}
use Rattle.cases_languages.specs.View.{pattern}
use Rattle.cases_languages.proofs.Views.{pattern-One, pattern-Plus}
use Rattle.cases_languages.proofs.Marks.{IsUnion, fewer, in_union, unmarked}
use Rattle.cases_languages.proofs.Ends.{ends_one, begun_first, begun_next, ends_plus}
use Rattle.cases_languages.proofs.pattern.Pattern.+ends.Goals as goal

as_pattern : (known : ℕ → ℕ → ℕ → Type 0) (K : List ℕ) (p q : plain.Pattern) (from f to : List Bool) → p ≡ q → from ≡ f → AreEnds known K q f to
    → AreEnds known K p from to
as_pattern known K p q from f to e d h =
    let P : plain.Pattern → Type 0 = λ x. AreEnds known K x f to in
    let Q : List Bool → Type 0 = λ x. AreEnds known K p x to in subst Q (sym d) (subst P (sym e) h)

union_of : (marks left right l r : List Bool) → l ≡ left → r ≡ right → IsUnion marks l r → IsUnion marks left right
union_of marks left right l r d e u =
    let P : List Bool → Type 0 = λ x. IsUnion marks x r in
    let Q : List Bool → Type 0 = λ x. IsUnion marks left x in subst Q e (subst P d u)

pub loop-all-init : goal.loop-all-init
loop-all-init t c =
    let p = pattern c.in-Plus.part.value in
    let k =
    as_pattern (Known c.args.rows.now) c.args.list.now p (pattern c.deref-in-Plus.result.now) c.args.from.now c.args.from.now c.in_ok-all-in-Plus.all.items
    (ap pattern (sym c.deref-in-Plus.ensures)) refl c.in_ok-all-in-Plus.ensures.ends in
    record {
      len = c.in_ok-all-in-Plus.ensures.len;
      begun = begun_first (Known c.args.rows.now) c.args.list.now p c.args.from.now c.in_ok-all-in-Plus.all.items k;
    }

pub returns-then-are_same-clause-ends : goal.returns-then-are_same-clause-ends
returns-then-are_same-clause-ends t c =
    let known = Known c.args.rows.now in
    let K = c.args.list.now in
    let from = c.args.from.now in
    let p = pattern c.in-Plus.part.value in
    let all = c.loop-all.all.items in
    let more = c.in_ok-more-in-Plus.more.items in
    let next = c.in_ok-next-in-Plus.next.items in
    let step =
    as_pattern known K p (pattern c.deref-in-loop-all.result.now) all c.deref-in-loop-all-2.result.now more (ap pattern (sym c.deref-in-loop-all.ensures))
    (sym c.deref-in-loop-all-2.ensures.value) c.in_ok-more-in-Plus.ensures.ends in
    let u =
    union_of next all more c.deref-in-loop-all-3.result.now c.deref-in-loop-all-4.result.now c.deref-in-loop-all-3.ensures.value
    c.deref-in-loop-all-4.ensures.value c.in_ok-next-in-Plus.ensures.either in
    let same : next ≡ all = sym c.deref-in-loop-all-5.ensures.value ∙ c.are_same.ensures.same c.if-are_same.true ∙ c.deref-in-loop-all-6.ensures.value in
    as_pattern known K (pattern c.args.self.now) (plain.Pattern.plus p) from from all (ap pattern c.in-Plus.is ∙ pattern-Plus c.in-Plus.part) refl
    (ends_plus known K p from all more next c.loop-all.invariant.begun step u same)

pub loop-all-smaller : goal.loop-all-smaller
loop-all-smaller t c =
    let all = c.loop-all.all.items in
    let more = c.in_ok-more-in-Plus.more.items in
    let next = c.in_ok-next-in-Plus.next.items in
    let u = union_of next all more c.deref-in-loop-all-3.result.now c.deref-in-loop-all-4.result.now c.deref-in-loop-all-3.ensures.value
    c.deref-in-loop-all-4.ensures.value c.in_ok-next-in-Plus.ensures.either in
    go (fewer all next (omega (arith, c.in_ok-next-in-Plus.ensures.len, c.deref-in-loop-all-3.ensures.len, c.loop-all.all.ok.0, c.in_ok-next-in-Plus.next.ok.0))
    (λ j h. (in_union next all more u j).1 (inl h)))
  where
    go : (c.in_ok-next-in-Plus.next.items ≡ c.loop-all.all.items) ⊎ (unmarked c.in_ok-next-in-Plus.next.items < unmarked c.loop-all.all.items)
        → unmarked c.in_ok-next-in-Plus.next.items < unmarked c.loop-all.all.items
    go (inl e) = absurd (c.are_same.ensures.other c.if-are_same.false (c.deref-in-loop-all-5.ensures.value ∙ e ∙ sym c.deref-in-loop-all-6.ensures.value))
    go (inr h) = h

pub loop-all-preserved : goal.loop-all-preserved
loop-all-preserved t c =
    let known = Known c.args.rows.now in
    let K = c.args.list.now in
    let from = c.args.from.now in
    let p = pattern c.in-Plus.part.value in
    let all = c.loop-all.all.items in
    let more = c.in_ok-more-in-Plus.more.items in
    let next = c.in_ok-next-in-Plus.next.items in
    let step = as_pattern known K p (pattern c.deref-in-loop-all.result.now) all c.deref-in-loop-all-2.result.now more
    (ap pattern (sym c.deref-in-loop-all.ensures)) (sym c.deref-in-loop-all-2.ensures.value) c.in_ok-more-in-Plus.ensures.ends in
    let u = union_of next all more c.deref-in-loop-all-3.result.now c.deref-in-loop-all-4.result.now
    c.deref-in-loop-all-3.ensures.value c.deref-in-loop-all-4.ensures.value c.in_ok-next-in-Plus.ensures.either in
    record {
      len = omega (arith, c.in_ok-next-in-Plus.ensures.len, c.deref-in-loop-all-3.ensures.len, c.loop-all.invariant.len);
      begun = begun_next known K p from all more next c.loop-all.invariant.begun step u;
    }

pub returns-in_ok-to-in-One-clause-ends : goal.returns-in_ok-to-in-One-clause-ends
returns-in_ok-to-in-One-clause-ends t c =
    let K = c.args.list.now in
    let from = c.args.from.now in
    let to = c.in_ok-to-in-One.to.items in
    let P : List (ℕ × ℕ) → Type 0 =
    λ l. (k : ℕ) → k < length K → slice_index_or to (k + 1) false ≡ (slice_index_or from k false && has l (slice_index_or K k 0)) in
    let rest = subst P c.deref.ensures.value c.in_ok-to-in-One.ensures.rest in
    as_pattern (Known c.args.rows.now) K (pattern c.args.self.now) (plain.Pattern.one c.in-One.ranges.items) from from to
    (ap pattern c.in-One.is ∙ pattern-One c.in-One.ranges) refl
    (ends_one (Known c.args.rows.now) K c.in-One.ranges.items from to c.requires.positions
    (omega (arith, c.in_ok-to-in-One.ensures.len, c.in_ok-to-in-One.to.ok.0)) c.in_ok-to-in-One.ensures.first rest)
