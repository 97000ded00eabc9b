use Rattle.std.proofs.Common.{false, subst, sym, true, ◌∙◌, ◌≡◌}
use Rattle.chart_parser_prefix.specs.inner.Productive.{AreProductive}
use Rattle.chart_parser_prefix.proofs.prefix.longest_prefix.Goals as goal

false_true : false ≡ true → ⊥
false_true e = absurd (cc)

pub derives_some-requires : goal.derives_some-requires
derives_some-requires c = subst (AreProductive c.args.normal.now) (sym c.deref.ensures.value) c.in_ok-productive.ensures

pub returns-then-not-derives_some : goal.returns-then-not-derives_some
returns-then-not-derives_some c w d = false_true (sym c.if-not-derives_some.true ∙ c.derives_some.ensures.1 (w, d))

pub found_prefix-requires-clause-some : goal.found_prefix-requires-clause-some
found_prefix-requires-clause-some c = c.derives_some.ensures.0 c.if-not-derives_some.false
