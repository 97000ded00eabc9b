use Rattle.std.proofs.Common.{◌≡◌, ◌+◌, ℕ, List, map, length, refl, sym, subst}
use Rattle.std.proofs.lemmas.List.{length-map}
use Rattle.cases_languages.specs.Positions.{AreRows, Grows, Known, Pairs, SameEnds, SameLength}
use Rattle.cases_languages.specs.View.{pattern}
use Rattle.cases_languages.specs.declared.chart.Row.{Row}
use Rattle.cases_languages.proofs.Pairs.{pairs_map}
use Rattle.cases_languages.proofs.Spanned.{grown_are_rows, grown_sound, grown_exact, grown_fewer}
use Rattle.cases_languages.proofs.chart.closed_rows.Goals as goal

-- the relation of old rows and new ones, at the rows themselves and not where they are lent
at_rows : (R : List Row → Row → Row → Type 0) (old new a b : List Row) → a ≡ old → b ≡ new → Pairs (R a) a b → Pairs (R old) old new
at_rows R old new a b d e p =
    let P : List Row → Type 0 = λ z. Pairs (R z) z b in
    let Q : List Row → Type 0 = λ z. Pairs (R old) old z in subst Q e (subst P d p)

are_at : (rows : List Row) (m n count : ℕ) → m ≡ n → AreRows rows m count → AreRows rows n count
are_at rows m n count e a = let P : ℕ → Type 0 = λ k. AreRows rows k count in subst P e a

pub have_same_ends-requires : goal.have_same_ends-requires
have_same_ends-requires c =
    let K = c.args.list.now in
    let bodies = map pattern c.args.bodies.now in
    let rows = c.loop-rows.rows.items in
    let next = c.in_ok-next.next.items in
    let grown = at_rows (λ r. Grows (Known r) bodies K) rows next c.deref.result.now next c.deref.ensures.value refl c.in_ok-next.ensures in
    let same = pairs_map (Grows (Known rows) bodies K) SameLength (λ x y g. sym g.len) rows next grown in
    at_rows (λ _. SameLength) c.deref-in-loop-rows.result.now c.deref-in-loop-rows-2.result.now rows next (sym c.deref-in-loop-rows.ensures.value)
    (sym c.deref-in-loop-rows-2.ensures.value) same

pub returns-then-have_same_ends-clause-exact : goal.returns-then-have_same_ends-clause-exact
returns-then-have_same_ends-clause-exact c =
    let K = c.args.list.now in
    let bodies = map pattern c.args.bodies.now in
    let rows = c.loop-rows.rows.items in
    let next = c.in_ok-next.next.items in
    let grown = at_rows (λ r. Grows (Known r) bodies K) rows next c.deref.result.now next c.deref.ensures.value refl c.in_ok-next.ensures in
    let same =
    at_rows (λ _. SameEnds) rows next c.deref-in-loop-rows.result.now c.deref-in-loop-rows-2.result.now c.deref-in-loop-rows.ensures.value
    c.deref-in-loop-rows-2.ensures.value (c.have_same_ends.ensures.same c.if-have_same_ends.true) in
    grown_exact bodies K rows next grown (are_at rows (length c.args.bodies.now) (length bodies) (length K + 1)
    (sym (length-map c.args.bodies.now pattern)) c.loop-rows.invariant.are) c.loop-rows.invariant.sound same

pub loop-rows-smaller : goal.loop-rows-smaller
loop-rows-smaller c =
    let K = c.args.list.now in
    let bodies = map pattern c.args.bodies.now in
    let rows = c.loop-rows.rows.items in
    let next = c.in_ok-next.next.items in
    let grown = at_rows (λ r. Grows (Known r) bodies K) rows next c.deref.result.now next c.deref.ensures.value refl c.in_ok-next.ensures in
    grown_fewer bodies K rows next grown (λ p. c.have_same_ends.ensures.other c.if-have_same_ends.false
    (at_rows (λ _. SameEnds) c.deref-in-loop-rows.result.now c.deref-in-loop-rows-2.result.now rows next (sym c.deref-in-loop-rows.ensures.value)
    (sym c.deref-in-loop-rows-2.ensures.value) p))

pub loop-rows-preserved : goal.loop-rows-preserved
loop-rows-preserved c =
    let K = c.args.list.now in
    let bodies = map pattern c.args.bodies.now in
    let rows = c.loop-rows.rows.items in
    let next = c.in_ok-next.next.items in
    let grown = at_rows (λ r. Grows (Known r) bodies K) rows next c.deref.result.now next c.deref.ensures.value refl c.in_ok-next.ensures in
    record {
      are = grown_are_rows bodies K rows next grown (length c.args.bodies.now) (length K + 1) c.loop-rows.invariant.are;
      sound = grown_sound bodies K rows next grown c.loop-rows.invariant.sound;
    }
