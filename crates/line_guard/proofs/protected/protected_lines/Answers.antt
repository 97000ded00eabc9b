use Rattle.std.proofs.Common.{◌≡◌, ◌∙◌, ℕ, Bool, List, ap, arith, subst}
use Rattle.std.specs.Prelude.{IfOk}
use Rattle.reduce_core.specs.Lines.{numbered_lines}
use Rattle.line_guard.specs.Protected.{is_protected, numbers_where}
use Rattle.line_guard.proofs.FlagLemmas.{few-flags, where-map}
use Rattle.line_guard.proofs.protected.protected_lines.Goals as goal

pub of_flags-requires : goal.of_flags-requires
of_flags-requires c =
    let few =
    few-flags (is_protected c.args.wishes.now) c.args.start.now c.deref.result.now (c.deref.ensures.value ∙ c.in_ok-flags.ensures) in
    omega (arith, few, c.requires.short)

pub returns : goal.returns
returns c =
    let flags = c.deref.ensures.value ∙ c.in_ok-flags.ensures in
    let same =
    ap (λ (l : List Bool). numbers_where (λ flag. flag) 0 l) flags ∙ where-map (is_protected c.args.wishes.now) 0 (numbered_lines c.args.start.now) in
    subst (λ (l : List ℕ). IfOk c.of_flags.result (λ numbers. numbers ≡ l)) same c.of_flags.ensures
