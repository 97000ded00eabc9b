use Rattle.std.proofs.Common.{◌≡◌, ◌<◌, ◌≤◌, ◌+◌, ℕ, List, ◌++◌, [], ◌∷◌, vec_len, get_or, take, length, sym, ap, ◌∙◌, subst, true≢false, arith}
use Rattle.std.proofs.lemmas.List.{take_all, take_more}
use Rattle.cases_languages.specs.Positions.{Pairs, SameEnds, SameLength}
use Rattle.cases_languages.specs.declared.chart.Row.{Row}
use Rattle.cases_languages.proofs.Pairs.{pairs_length, pairs_more, pairs_at}
use Rattle.cases_languages.proofs.chart.have_same_ends.Goals as goal

longer : (old new : List Row) (i : ℕ) (x y : Row) → length old ≡ length new → i < length old → x ≡ get_or old i x → y ≡ get_or new i y → SameEnds x y →
    Pairs SameEnds (take i old) (take i new) → Pairs SameEnds (take (i + 1) old) (take (i + 1) new)
longer old new i x y l h d e s p =
    let a : take (i + 1) old ≡ take i old ++ x ∷ [] = take_more old i x h ∙ ap (λ z. take i old ++ z ∷ []) (sym d) in
    let b : take (i + 1) new ≡ take i new ++ y ∷ [] = take_more new i y (omega (arith, l, h)) ∙ ap (λ z. take i new ++ z ∷ []) (sym e) in
    let P : List Row → Type 0 = λ z. Pairs SameEnds z (take (i + 1) new) in
    let Q : List Row → Type 0 = λ z. Pairs SameEnds (take i old ++ x ∷ []) z in
    subst P (sym a) (subst Q (sym b) (pairs_more SameEnds (take i old) (take i new) x y p s))

whole : (old new : List Row) (i : ℕ) → length old ≡ length new → length old ≤ i → Pairs SameEnds (take i old) (take i new) → Pairs SameEnds old new
whole old new i l h p =
    let P : List Row → Type 0 = λ z. Pairs SameEnds z (take i new) in
    let Q : List Row → Type 0 = λ z. Pairs SameEnds old z in
    subst Q (take_all i new (omega (arith, l, h))) (subst P (take_all i old h) p)

pub bounds-new-i : goal.bounds-new-i
bounds-new-i c = omega (arith, pairs_length SameLength c.args.old.now c.args.new.now c.requires)

pub are_same-requires : goal.are_same-requires
are_same-requires c =
    let s =
    pairs_at SameLength c.args.old.now c.args.new.now c.loop-i.i c.index-old-i.result c.index-new-i.result c.requires c.loop-i-test.true c.index-old-i.is
    c.index-new-i.is in
    c.deref.ensures.len ∙ ap (λ (r : Row). vec_len r.ends) (sym c.index-old-i.is) ∙ s ∙ ap (λ (r : Row). vec_len r.ends) c.index-new-i.is
    ∙ sym c.deref-in-loop-i.ensures.len

pub returns-then-not-are_same-clause-same : goal.returns-then-not-are_same-clause-same
returns-then-not-are_same-clause-same c = λ t. absurd (true≢false (sym t))

pub returns-then-not-are_same-clause-other : goal.returns-then-not-are_same-clause-other
returns-then-not-are_same-clause-other c = λ _ p.
    let s =
    pairs_at SameEnds c.args.old.now c.args.new.now c.loop-i.i c.index-old-i.result c.index-new-i.result p c.loop-i-test.true c.index-old-i.is
    c.index-new-i.is in
    c.are_same.ensures.other c.if-not-are_same.true
    (c.deref.ensures.value ∙ ap (λ (r : Row). r.ends.items) (sym c.index-old-i.is) ∙ s ∙ ap (λ (r : Row). r.ends.items) c.index-new-i.is
    ∙ sym c.deref-in-loop-i.ensures.value)

pub loop-i-preserved : goal.loop-i-preserved
loop-i-preserved c =
    let s = sym c.deref.ensures.value ∙ c.are_same.ensures.same c.if-not-are_same.false ∙ c.deref-in-loop-i.ensures.value in
    longer c.args.old.now c.args.new.now c.loop-i.i c.index-old-i.result c.index-new-i.result
    (pairs_length SameLength c.args.old.now c.args.new.now c.requires) c.loop-i-test.true c.index-old-i.is c.index-new-i.is
    (ap (λ (r : Row). r.ends.items) c.index-old-i.is ∙ s ∙ ap (λ (r : Row). r.ends.items) (sym c.index-new-i.is)) c.loop-i.invariant

pub returns-clause-same : goal.returns-clause-same
returns-clause-same c =
    λ _. whole c.args.old.now c.args.new.now c.loop-i.i
    (pairs_length SameLength c.args.old.now c.args.new.now c.requires) c.loop-i-test.false c.loop-i.invariant
