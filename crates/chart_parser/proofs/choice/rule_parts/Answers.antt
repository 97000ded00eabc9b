use Rattle.std.proofs.Common.{ℕ, List, Some, ◌<◌, ◌≡◌, inl, inr, length, map, slice_get, refl, sym, ◌∙◌, ap, subst, arith}
use Rattle.std.specs.Global.{Vec}
use Rattle.normal_form.specs.declared.normal.Sym.{Sym}
use Rattle.normal_form.specs.Form.{RuleForm, NormalForm}
use Rattle.normal_form.specs.NormalOf.{IsNormal}
use Rattle.normal_form.specs.View.{alts_form, rule_form}
use Rattle.normal_form.specs.Spans.{DerivesSpanMany, DerivesSpanSeq}
use Rattle.chart_parser.specs.inner.Parts.{AreOfLeast, AreOfRule}
use Rattle.chart_parser.proofs.Alternatives.{count_alternatives, optional_derived, plus_derived, plus_is_list}
use Rattle.chart_parser.proofs.Alternatives.{regular_derived, rule_at, rule_within, star_derived, star_is_list}
use Rattle.chart_parser.proofs.Asking.{if_ok}
use Rattle.chart_parser.proofs.ElementEnds.{many_within}
use Rattle.chart_parser.proofs.choice.rule_parts.Goals as goal

pub bounds-rules-rule : goal.bounds-rules-rule
bounds-rules-rule c =
    let N = c.args.chart.now.normal in
    let K = c.args.chart.now.kinds in
    let rules = c.rules.result.now in
    let form = c.spans_by_form.ensures N K in
    let e : map rule_form rules ≡ N.rules = c.rules.ensures ∙ ap (λ (x : NormalForm). x.rules) (sym c.requires.form) in
    let within = rule_within N K form rules c.args.part.slot c.args.rule c.args.part.first c.args.part.end e c.requires.slot c.requires.derived in
    within

pub first_alternative-requires-clause-few : goal.first_alternative-requires-clause-few
first_alternative-requires-clause-few c =
    let N = c.args.chart.now.normal in
    let K = c.args.chart.now.kinds in
    let rules = c.rules.result.now in
    let form = c.spans_by_form.ensures N K in
    let e : map rule_form rules ≡ N.rules = c.rules.ensures ∙ ap (λ (x : NormalForm). x.rules) (sym c.requires.form) in
    let within = rule_within N K form rules c.args.part.slot c.args.rule c.args.part.first c.args.part.end e c.requires.slot c.requires.derived in
    let at =
    rule_at rules N.rules c.args.rule c.index-rules-rule.result (RuleForm.regular (alts_form c.in-Regular.alternatives.items)) e within c.index-rules-rule.is
    (ap rule_form c.in-Regular.is) in
    let normal = subst IsNormal (sym c.requires.form) c.is_normal.ensures in
    let few = (c.numbers_are_small.ensures N normal).alternatives c.args.rule (alts_form c.in-Regular.alternatives.items) at in
    omega (arith, few, count_alternatives c.in-Regular.alternatives.items, ap length c.deref.ensures.value)

pub first_alternative-requires-clause-first : goal.first_alternative-requires-clause-first
first_alternative-requires-clause-first c = omega (arith, c.requires.derived.rises, c.requires.derived.within)

pub first_alternative-requires-clause-derived : goal.first_alternative-requires-clause-derived
first_alternative-requires-clause-derived c =
    let N = c.args.chart.now.normal in
    let K = c.args.chart.now.kinds in
    let rules = c.rules.result.now in
    let form = c.spans_by_form.ensures N K in
    let e : map rule_form rules ≡ N.rules = c.rules.ensures ∙ ap (λ (x : NormalForm). x.rules) (sym c.requires.form) in
    let within = rule_within N K form rules c.args.part.slot c.args.rule c.args.part.first c.args.part.end e c.requires.slot c.requires.derived in
    let at = rule_at rules N.rules c.args.rule c.index-rules-rule.result
    (RuleForm.regular (alts_form c.in-Regular.alternatives.items)) e within c.index-rules-rule.is (ap rule_form c.in-Regular.is) in
    let d =
    regular_derived N K form (alts_form c.in-Regular.alternatives.items) c.args.part.slot c.args.rule c.args.part.first c.args.part.end c.requires.slot at
    c.requires.derived in
    subst (λ (l : List (Vec Sym)). (a : ℕ) × (alt : List Sym) × (slice_get (alts_form l) a ≡ Some alt)
    × DerivesSpanSeq N K alt c.args.part.first c.args.part.end) (sym c.deref.ensures.value) d

pub add_content-requires-clause-derived : goal.add_content-requires-clause-derived
add_content-requires-clause-derived c =
    let N = c.args.chart.now.normal in
    let K = c.args.chart.now.kinds in
    let rules = c.rules.result.now in
    let form = c.spans_by_form.ensures N K in
    let e : map rule_form rules ≡ N.rules = c.rules.ensures ∙ ap (λ (x : NormalForm). x.rules) (sym c.requires.form) in
    let within = rule_within N K form rules c.args.part.slot c.args.rule c.args.part.first c.args.part.end e c.requires.slot c.requires.derived in
    let at =
    rule_at rules N.rules c.args.rule c.index-rules-rule.result (RuleForm.opt c.in-Opt.symbol) e within c.index-rules-rule.is (ap rule_form c.in-Opt.is) in
    optional_derived N K form c.in-Opt.symbol c.args.part.slot c.args.rule c.args.part.first c.args.part.end c.requires.slot at c.requires.derived

pub add_list-requires-clause-list : goal.add_list-requires-clause-list
add_list-requires-clause-list c =
    let N = c.args.chart.now.normal in
    let K = c.args.chart.now.kinds in
    let rules = c.rules.result.now in
    let form = c.spans_by_form.ensures N K in
    let e : map rule_form rules ≡ N.rules = c.rules.ensures ∙ ap (λ (x : NormalForm). x.rules) (sym c.requires.form) in
    let within = rule_within N K form rules c.args.part.slot c.args.rule c.args.part.first c.args.part.end e c.requires.slot c.requires.derived in
    let at =
    rule_at rules N.rules c.args.rule c.index-rules-rule.result (RuleForm.star c.in-Star.symbol) e within c.index-rules-rule.is (ap rule_form c.in-Star.is) in
    star_is_list N K form c.in-Star.symbol c.args.part.slot c.args.rule c.args.part.first c.requires.slot at

pub add_list-requires-clause-derived : goal.add_list-requires-clause-derived
add_list-requires-clause-derived c =
    let N = c.args.chart.now.normal in
    let K = c.args.chart.now.kinds in
    let rules = c.rules.result.now in
    let form = c.spans_by_form.ensures N K in
    let e : map rule_form rules ≡ N.rules = c.rules.ensures ∙ ap (λ (x : NormalForm). x.rules) (sym c.requires.form) in
    let within = rule_within N K form rules c.args.part.slot c.args.rule c.args.part.first c.args.part.end e c.requires.slot c.requires.derived in
    let at = rule_at rules N.rules c.args.rule c.index-rules-rule.result (RuleForm.star c.in-Star.symbol) e within c.index-rules-rule.is
    (ap rule_form c.in-Star.is) in
    star_derived N K form c.in-Star.symbol c.args.part.slot c.args.rule c.args.part.first c.args.part.end c.requires.slot at c.requires.derived

pub add_list-requires-clause-moves_on : goal.add_list-requires-clause-moves_on
add_list-requires-clause-moves_on c =
    let N = c.args.chart.now.normal in
    let K = c.args.chart.now.kinds in
    let rules = c.rules.result.now in
    let form = c.spans_by_form.ensures N K in
    let e : map rule_form rules ≡ N.rules = c.rules.ensures ∙ ap (λ (x : NormalForm). x.rules) (sym c.requires.form) in
    let within = rule_within N K form rules c.args.part.slot c.args.rule c.args.part.first c.args.part.end e c.requires.slot c.requires.derived in
    let at = rule_at rules N.rules c.args.rule c.index-rules-rule.result
    (RuleForm.star c.in-Star.symbol) e within c.index-rules-rule.is (ap rule_form c.in-Star.is) in
    let normal = subst IsNormal (sym c.requires.form) c.is_normal.ensures in
    λ p q d. c.elements_move_on.ensures N normal K c.args.rule p q c.in-Star.symbol (inl at) d

pub returns-in-Regular-clause-parts : goal.returns-in-Regular-clause-parts
returns-in-Regular-clause-parts c =
    let N = c.args.chart.now.normal in
    let K = c.args.chart.now.kinds in
    let rules = c.rules.result.now in
    let form = c.spans_by_form.ensures N K in
    let e : map rule_form rules ≡ N.rules = c.rules.ensures ∙ ap (λ (x : NormalForm). x.rules) (sym c.requires.form) in
    let within = rule_within N K form rules c.args.part.slot c.args.rule c.args.part.first c.args.part.end e c.requires.slot c.requires.derived in
    let at = rule_at rules N.rules c.args.rule c.index-rules-rule.result (RuleForm.regular (alts_form c.in-Regular.alternatives.items)) e within
    c.index-rules-rule.is (ap rule_form c.in-Regular.is) in
    if_ok c.first_alternative.result (λ a. AreOfLeast N K
    (alts_form c.deref.result.now) a c.args.part.first c.args.part.end c.first_alternative.new.parts.items)
    (λ a. AreOfRule N K c.args.rule a c.args.part.first c.args.part.end c.first_alternative.new.parts.items)
    (λ a h. (
      RuleForm.regular (alts_form c.in-Regular.alternatives.items),
      at,
      subst (λ (l : List (Vec Sym)). AreOfLeast N K (alts_form l) a c.args.part.first c.args.part.end c.first_alternative.new.parts.items) c.deref.ensures.value
          h,
    )) c.first_alternative.ensures.parts

pub returns-in_ok-add_content-in-Opt-clause-parts : goal.returns-in_ok-add_content-in-Opt-clause-parts
returns-in_ok-add_content-in-Opt-clause-parts c =
    let N = c.args.chart.now.normal in
    let K = c.args.chart.now.kinds in
    let rules = c.rules.result.now in
    let form = c.spans_by_form.ensures N K in
    let e : map rule_form rules ≡ N.rules = c.rules.ensures ∙ ap (λ (x : NormalForm). x.rules) (sym c.requires.form) in
    let within = rule_within N K form rules c.args.part.slot c.args.rule c.args.part.first c.args.part.end e c.requires.slot c.requires.derived in
    let at = rule_at rules N.rules c.args.rule c.index-rules-rule.result (RuleForm.opt c.in-Opt.symbol) e within c.index-rules-rule.is
    (ap rule_form c.in-Opt.is) in
    (RuleForm.opt c.in-Opt.symbol, at, (refl, c.in_ok-add_content-in-Opt.ensures.content))

pub returns-in_ok-add_list-in-Star-clause-parts : goal.returns-in_ok-add_list-in-Star-clause-parts
returns-in_ok-add_list-in-Star-clause-parts c =
    let N = c.args.chart.now.normal in
    let K = c.args.chart.now.kinds in
    let rules = c.rules.result.now in
    let form = c.spans_by_form.ensures N K in
    let e : map rule_form rules ≡ N.rules = c.rules.ensures ∙ ap (λ (x : NormalForm). x.rules) (sym c.requires.form) in
    let within = rule_within N K form rules c.args.part.slot c.args.rule c.args.part.first c.args.part.end e c.requires.slot c.requires.derived in
    let at = rule_at rules N.rules c.args.rule c.index-rules-rule.result (RuleForm.star c.in-Star.symbol) e within
    c.index-rules-rule.is (ap rule_form c.in-Star.is) in
    (RuleForm.star c.in-Star.symbol, at, (refl, c.in_ok-add_list-in-Star.ensures.elements))

pub add_list-requires-in-Plus-clause-list : goal.add_list-requires-in-Plus-clause-list
add_list-requires-in-Plus-clause-list c =
    let N = c.args.chart.now.normal in
    let K = c.args.chart.now.kinds in
    let rules = c.rules.result.now in
    let form = c.spans_by_form.ensures N K in
    let e : map rule_form rules ≡ N.rules = c.rules.ensures ∙ ap (λ (x : NormalForm). x.rules) (sym c.requires.form) in
    let within = rule_within N K form rules c.args.part.slot c.args.rule c.args.part.first c.args.part.end e c.requires.slot c.requires.derived in
    let at =
    rule_at rules N.rules c.args.rule c.index-rules-rule.result (RuleForm.plus c.in-Plus.symbol) e within c.index-rules-rule.is (ap rule_form c.in-Plus.is) in
    plus_is_list N K form c.in-Plus.symbol c.args.part.slot c.args.rule c.args.part.first c.requires.slot at

pub add_list-requires-in-Plus-clause-derived : goal.add_list-requires-in-Plus-clause-derived
add_list-requires-in-Plus-clause-derived c =
    let N = c.args.chart.now.normal in
    let K = c.args.chart.now.kinds in
    let rules = c.rules.result.now in
    let form = c.spans_by_form.ensures N K in
    let e : map rule_form rules ≡ N.rules = c.rules.ensures ∙ ap (λ (x : NormalForm). x.rules) (sym c.requires.form) in
    let within = rule_within N K form rules c.args.part.slot c.args.rule c.args.part.first c.args.part.end e c.requires.slot c.requires.derived in
    let at = rule_at rules N.rules c.args.rule c.index-rules-rule.result (RuleForm.plus c.in-Plus.symbol) e within c.index-rules-rule.is
    (ap rule_form c.in-Plus.is) in
    let (m, one, rest) =
    plus_derived N K form c.in-Plus.symbol c.args.part.slot c.args.rule c.args.part.first c.args.part.end c.requires.slot at c.requires.derived in
    DerivesSpanMany.of_more c.args.part.first m c.args.part.end one rest

pub add_list-requires-in-Plus-clause-moves_on : goal.add_list-requires-in-Plus-clause-moves_on
add_list-requires-in-Plus-clause-moves_on c =
    let N = c.args.chart.now.normal in
    let K = c.args.chart.now.kinds in
    let rules = c.rules.result.now in
    let form = c.spans_by_form.ensures N K in
    let e : map rule_form rules ≡ N.rules = c.rules.ensures ∙ ap (λ (x : NormalForm). x.rules) (sym c.requires.form) in
    let within = rule_within N K form rules c.args.part.slot c.args.rule c.args.part.first c.args.part.end e c.requires.slot c.requires.derived in
    let at = rule_at rules N.rules c.args.rule c.index-rules-rule.result
    (RuleForm.plus c.in-Plus.symbol) e within c.index-rules-rule.is (ap rule_form c.in-Plus.is) in
    let normal = subst IsNormal (sym c.requires.form) c.is_normal.ensures in
    λ p q d. c.elements_move_on.ensures N normal K c.args.rule p q c.in-Plus.symbol (inr at) d

pub returns-in_ok-add_list-in-Plus-clause-parts : goal.returns-in_ok-add_list-in-Plus-clause-parts
returns-in_ok-add_list-in-Plus-clause-parts c =
    let N = c.args.chart.now.normal in
    let K = c.args.chart.now.kinds in
    let rules = c.rules.result.now in
    let form = c.spans_by_form.ensures N K in
    let e : map rule_form rules ≡ N.rules = c.rules.ensures ∙ ap (λ (x : NormalForm). x.rules) (sym c.requires.form) in
    let within = rule_within N K form rules c.args.part.slot c.args.rule c.args.part.first c.args.part.end e c.requires.slot c.requires.derived in
    let at = rule_at rules N.rules c.args.rule c.index-rules-rule.result (RuleForm.plus c.in-Plus.symbol) e within
    c.index-rules-rule.is (ap rule_form c.in-Plus.is) in
    let normal = subst IsNormal (sym c.requires.form) c.is_normal.ensures in
    let (m, one, rest) = plus_derived N K form c.in-Plus.symbol c.args.part.slot c.args.rule c.args.part.first c.args.part.end c.requires.slot at
    c.requires.derived in
    let long : c.args.part.first < c.args.part.end =
    omega (
      arith,
      c.elements_move_on.ensures N normal K c.args.rule c.args.part.first m c.in-Plus.symbol (inr at) one,
      (many_within N K c.in-Plus.symbol m c.args.part.end rest).0,
    ) in
    (RuleForm.plus c.in-Plus.symbol, at, (refl, long, c.in_ok-add_list-in-Plus.ensures.elements))
