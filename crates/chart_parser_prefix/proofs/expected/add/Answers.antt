use Rattle.std.proofs.Common.{List, inl, inr, refl, subst}
use Rattle.normal_form.specs.declared.normal.Sym.{Sym}
use Rattle.std.specs.List.{Contains}
use Rattle.chart_parser_prefix.proofs.expected.add.Goals as goal

pub returns-then-is_last : goal.returns-then-is_last
returns-then-is_last c = inr (refl, subst (λ (l : List Sym). Contains l c.args.symbol) c.deref.ensures.value (c.is_last.ensures c.if-is_last.true))

pub returns : goal.returns
returns c = inl c.in_ok-push.ensures.items
