use Rattle.std.proofs.Common.{◌≡◌, ◌+◌, ◌-◌, ◌∷◌, drop, slice_index, sym, ap, ◌∙◌, subst, arith}
use Rattle.token_print.specs.declared.style.Style.{Style}
use Rattle.token_print.specs.Runs.{stretches}
use Rattle.token_print.proofs.Running.{one_from, stretch_from}
use Rattle.token_print.proofs.runs.next_run.Goals as goal

pub returns-in-AsWas-clause-stretches : goal.returns-in-AsWas-clause-stretches
returns-in-AsWas-clause-stretches c =
    let kept = c.args.kept.now in
    let s = c.stretch_end.ensures in
    let P : Style → Type 0 =
    λ style. stretches style (drop c.args.first kept) ≡ (slice_index kept c.args.first, slice_index kept (c.stretch_end.result - 1)) ∷ stretches style
    (drop c.stretch_end.result kept) in
    subst P (sym c.in-AsWas.is) (stretch_from kept (c.stretch_end.result - c.args.first - 1) c.args.first c.stretch_end.result (omega (arith, s.rises)) s)

pub returns-in-Squeezed-clause-stretches : goal.returns-in-Squeezed-clause-stretches
returns-in-Squeezed-clause-stretches c =
    let kept = c.args.kept.now in
    let n = c.args.first + 1 in
    let last : n - 1 ≡ c.args.first = omega arith in
    let P : Style → Type 0 =
    λ style. stretches style (drop c.args.first kept) ≡ (slice_index kept c.args.first, slice_index kept (n - 1)) ∷ stretches style (drop n kept) in
    subst P (sym c.in-Squeezed.is) (one_from kept c.args.first c.requires.first
    ∙ ap (λ k. (slice_index kept c.args.first, slice_index kept k) ∷ stretches Style.Squeezed (drop n kept)) (sym last))
