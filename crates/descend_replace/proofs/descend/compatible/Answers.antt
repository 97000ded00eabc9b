use Rattle.std.proofs.Common.{Bool, ℕ, ◌<◌, ◌≤◌, List, [], ◌∷◌, ◌++◌, cond, length, get_or, sym, ap, ◌∙◌, arith}
use Rattle.std.specs.Global.{Vec}
use Rattle.descend_replace.proofs.Found.{found_all, found_more, tree_left}
use Rattle.descend_replace.proofs.descend.compatible.Goals as goal
use Rattle.descend_replace.proofs.descend.compatible.Goals.{then-can_take+in_ok-push, else-can_take}

pub can_take-requires-clause-left : goal.can_take-requires-clause-left
can_take-requires-clause-left c =
    tree_left c.args.tree.now c.nodes-nodes.ensures.whole c.args.cut.now c.requires.of c.args.node c.in_ok-below.below.items c.in_ok-below.ensures
    c.requires.left c.deref-number-items.result.now c.deref-number-items.ensures.value c.loop-number.number-index 0 c.loop-number-test.true

pub loop-number-preserved : goal.loop-number-preserved
loop-number-preserved c =
    let number : ℕ = get_or c.deref-number-items.result.now c.loop-number.number-index 0 in
    let more =
    found_more c.args.tree.now c.nodes-nodes.ensures.whole c.args.cut.now c.requires.of c.args.node c.in_ok-below.below.items c.in_ok-below.ensures
    c.slot-slot.result c.weight-weight.result c.slot-slot.ensures c.weight-weight.ensures
    c.loop-number.number-index number 0 (let lt : c.loop-number.number-index < length c.deref-number-items.result.now = c.loop-number-test.true in
    let same = ap length c.deref-number-items.ensures.value in omega (arith, lt, same))
    (ap (λ (l : List ℕ). get_or l c.loop-number.number-index 0) c.deref-number-items.ensures.value) c.can_take.result c.can_take.ensures
    c.loop-number.found.items c.if-can_take.found.items c.loop-number.invariant in
    elim c.if-can_take.branch [
      | then-can_take+in_ok-push w ↦ more (ap (λ (v : Vec ℕ). v.items) w.found-is ∙ w.in_ok-push.ensures.items
          ∙ sym (ap (λ (b : Bool). cond b (c.loop-number.found.items ++ number ∷ []) c.loop-number.found.items) w.if-can_take.true))
      | else-can_take w ↦ more (ap (λ (v : Vec ℕ). v.items) w.found-is
          ∙ sym (ap (λ (b : Bool). cond b (c.loop-number.found.items ++ number ∷ []) c.loop-number.found.items) w.if-can_take.false))
    ]

pub returns : goal.returns
returns c =
    found_all c.args.tree.now c.args.cut.now c.args.node c.in_ok-below.below.items c.loop-number.found.items c.loop-number.number-index c.in_ok-below.ensures
    (let over : length c.deref-number-items.result.now ≤ c.loop-number.number-index = c.loop-number-test.false in
    let same = ap length c.deref-number-items.ensures.value in omega (arith, over, same))
    c.loop-number.invariant
