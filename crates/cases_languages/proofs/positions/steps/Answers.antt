use Rattle.std.proofs.Common.{◌≡◌, ℕ, ◌&&◌, Bool, false, slice_index_or, sym, ap, ◌∙◌, arith}
use Rattle.grammar_tree.specs.Chars.{has}
use Rattle.cases_languages.proofs.Pushed.{first_stays, push_after}
use Rattle.cases_languages.proofs.positions.steps.Goals.{then-from-i, else-from-i}
use Rattle.cases_languages.proofs.positions.steps.Goals as goal

pub loop-i-preserved : goal.loop-i-preserved
loop-i-preserved c =
    let from = c.args.from.now in
    let list = c.args.list.now in
    let i = c.loop-i.i in
    let fits : ℕ → Bool = λ k. has c.args.ranges.now (slice_index_or list k 0) in
    let marked : c.if-from-i.marked ≡ (slice_index_or from i false && fits i) = elim c.if-from-i.branch [
      | then-from-i w ↦ w.marked-is ∙ w.is_in_ranges-marked.ensures ∙ sym (ap (λ (b : Bool). b && fits i) w.if-from-i.true)
      | else-from-i w ↦ w.marked-is ∙ w.if-from-i.false ∙ sym (ap (λ (b : Bool). b && fits i) w.if-from-i.false)
    ] in
    let old = c.loop-i.to.items in
    let new = c.push-in-loop-i.new.self.items in
    let len = sym c.loop-i.to.ok.0 ∙ c.loop-i.invariant.len in
    record {
      len = omega (arith, c.in_ok-push-2.ensures.len, c.loop-i.invariant.len);
      first = first_stays old new i c.if-from-i.marked c.in_ok-push-2.ensures.items len c.loop-i.invariant.first;
      rest =
          push_after (λ k. slice_index_or from k false && fits k) old new i c.if-from-i.marked c.in_ok-push-2.ensures.items len marked c.loop-i.invariant.rest;
    }
