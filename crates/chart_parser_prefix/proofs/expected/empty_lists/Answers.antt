use Rattle.std.proofs.Common.{List, [], ap, length, refl, subst, sym, ℕ, ◌+◌, ◌∙◌, ◌≡◌}
use Rattle.chart_parser_prefix.proofs.Growing.{pushed_empty}
use Rattle.chart_parser_prefix.specs.inner.Walk.{symbols_at}
use Rattle.normal_form.specs.declared.normal.Sym.{Sym}
use Rattle.std.specs.Global.{Vec}
use Rattle.std.proofs.lemmas.List.{length_push}
use Rattle.chart_parser_prefix.proofs.expected.empty_lists.Goals as goal

pub loop-init : goal.loop-init
loop-init c = (ap length c.new-lists.ensures.items, λ m. subst (λ (l : List (Vec Sym)). symbols_at l m ≡ []) (sym c.new-lists.ensures.items) refl)

pub loop-preserved : goal.loop-preserved
loop-preserved c = (
  ap length c.in_ok-push.ensures.items ∙ length_push c.loop.lists.items c.new.result
      ∙ ap (λ (n : ℕ). n + 1) c.loop.invariant.0,
  λ m. subst (λ (l : List (Vec Sym)). symbols_at l m ≡ []) (sym c.in_ok-push.ensures.items)
      (pushed_empty c.loop.lists.items c.new.result c.new.ensures.items c.loop.invariant.1 m),
)
