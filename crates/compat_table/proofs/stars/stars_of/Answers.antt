use Rattle.std.proofs.Common.{ℕ, ◌+◌, List, get_or, map, take, sym, ◌∙◌, subst}
use Rattle.std.proofs.lemmas.List.{take_all}
use Rattle.std.proofs.Math.Numerals.{add-one}
use Rattle.std.proofs.Math.Seq.{take-suc}
use Rattle.normal_form.specs.View.{rule_form}
use Rattle.compat_table.specs.inner.Rows.{AreStars}
use Rattle.compat_table.specs.inner.View.{symbols_of}
use Rattle.compat_table.proofs.Searching.{none_among}
use Rattle.compat_table.proofs.FindingStars.{stars_begun, stars_more}
use Rattle.compat_table.proofs.stars.stars_of.Goals as goal

pub loop-other-init : goal.loop-other-init
loop-other-init c =
    stars_begun (map rule_form c.args.rules.now) c.args.rule (symbols_of c.new-stars.result) (symbols_of c.push_star.new.stars)
    (none_among (symbols_of c.new-stars.result) c.new-stars.ensures) c.in_ok-push_star.ensures

pub loop-other-preserved : goal.loop-other-preserved
loop-other-preserved c =
    let rules = map rule_form c.args.rules.now in
    let read = c.deref-other-items.result.now in
    let same = c.deref-other-items.ensures.value in
    let i = c.loop-other.other-index in
    let before = subst (λ (l : List ℕ). AreStars rules c.args.rule (take i l) (symbols_of c.loop-other.stars)) (sym same) c.loop-other.invariant in
    let more =
    stars_more rules c.args.rule (take i read) (get_or read i 0) (symbols_of c.loop-other.stars)
    (symbols_of c.push_star-in-loop-other.new.stars) before c.in_ok-push_star-2.ensures in
    let P : List ℕ → Type 0 = λ l. AreStars rules c.args.rule l (symbols_of c.push_star-in-loop-other.new.stars) in
    let all : P (take (i + 1) read) = rw (add-one, take-suc read i 0 c.loop-other-test.true) more in
    subst (λ (l : List ℕ). P (take (i + 1) l)) same all

pub returns-clause-are : goal.returns-clause-are
returns-clause-are c t =
    let rules = map rule_form c.args.rules.now in
    let same = c.deref-other-items.ensures.value in
    let i = c.loop-other.other-index in
    let P : List ℕ → Type 0 = λ l. AreStars rules c.args.rule l (symbols_of c.loop-other.stars) in
    let before = subst (λ (l : List ℕ). P (take i l)) (sym same) c.loop-other.invariant in
    let whole = subst P (take_all i c.deref-other-items.result.now c.loop-other-test.false ∙ same) before in
    (λ at. (whole t).0 ((c.sorted.ensures.same t).0 at), λ has. (c.sorted.ensures.same t).1 ((whole t).1 has))
