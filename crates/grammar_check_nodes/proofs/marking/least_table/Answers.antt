use Rattle.std.proofs.Common.{◌≡◌, inl, inr, ℕ, false, replicate, ap, ◌∙◌, arith}
use Rattle.std.proofs.lemmas.Bool.{cases_lt}
use Rattle.std.proofs.lemmas.List.{get_or_past, get_or-replicate, length-replicate}
use Rattle.grammar_check_nodes.specs.Flags.{flag}
use Rattle.grammar_check_nodes.specs.Marking.{IsMarked}
use Rattle.grammar_check_nodes.proofs.marking.least_table.Goals as goal

no_flag : (n i : ℕ) → flag (replicate n false) i ≡ false
no_flag n i = elim (cases_lt i n) [
  | inl within ↦ get_or-replicate n i false false within
  | inr past ↦ get_or_past (replicate n false) i false (omega (arith, past, length-replicate n false))
]

pub loop-init : goal.loop-init
loop-init g c =
    let flags = c.in_ok-flags.flags in
    let none = c.in_ok-flags.ensures.items_if_clones_equal (λ y e. e) in (
      omega (arith, c.mark_in_order.ensures.table, c.in_ok-flags.ensures.len, c.count.ensures, flags.ok.0),
      c.mark_in_order.ensures.marked (IsMarked.by_none flags.items (λ i. ap (λ l. flag l i) none ∙ no_flag c.count.result i)),
    )
