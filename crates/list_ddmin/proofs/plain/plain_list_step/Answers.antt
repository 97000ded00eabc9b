use Rattle.std.proofs.Common.{◌≡◌, ◌∙◌, ap, sym, subst, rules, arith, true, false, [], ◌∷◌, ◌++◌, map, replicate, inl, inr, ⊎_elim, ◌⊎◌}
use Rattle.std.specs.Prelude.{IfOk}
use Rattle.list_ddmin.specs.ListStep.{Outcome, ddmin}
use Rattle.list_ddmin.specs.inner.Plain.{asks_before}
use Rattle.list_ddmin.proofs.Rows.{list_step-all, list_step-nothing}
use Rattle.list_ddmin.proofs.plain.plain_list_step.Goals as goal

pub returns-then-not-may_be_empty : goal.returns-then-not-may_be_empty
returns-then-not-may_be_empty g c =
    let verdict = g.T.Test.verdict c.args.test.now in
    let either : (c.args.may_be_empty ≡ false) ⊎ (c.args.len ≡ 0) = ⊎_elim (λ no. inl no) (λ none. inr none.1) c.then-not-may_be_empty.either in
    let none = ap (λ qs. asks_before (map (λ v. v.items) qs) (ddmin verdict (replicate c.args.len true) 2)) c.new-questions.ensures.items in
    subst (λ (o : Outcome). IfOk c.reduced.result (λ outcome. outcome ≡ o))
    (none ∙ sym (list_step-all verdict c.args.len c.args.may_be_empty either)) c.reduced.ensures

pub returns-then-yes : goal.returns-then-yes
returns-then-yes g c =
    let verdict = g.T.Test.verdict c.args.test.now in
    let nothing : c.in_ok-nothing.nothing.items ≡ replicate c.args.len false = search rules in
    let shown : c.deref.result.now ≡ replicate c.args.len false = c.deref.ensures.value ∙ nothing in
    let answer = sym c.if-yes.true ∙ c.in_ok-yes.ensures.answer ∙ ap verdict shown in
    let asked = c.in_ok-yes.ensures.asked ∙ (λ i. map (λ v. v.items) (c.new-questions.ensures.items i) ++ shown i ∷ []) in
    (λ i. record { questions = asked i; result = nothing i })
    ∙ sym (list_step-nothing verdict c.args.len c.args.may_be_empty true c.if-not-may_be_empty.false (omega arith) answer)

pub returns : goal.returns
returns g c =
    let verdict = g.T.Test.verdict c.args.test.now in
    let nothing : c.in_ok-nothing.nothing.items ≡ replicate c.args.len false = search rules in
    let shown : c.deref.result.now ≡ replicate c.args.len false = c.deref.ensures.value ∙ nothing in
    let answer = sym c.if-yes.false ∙ c.in_ok-yes.ensures.answer ∙ ap verdict shown in
    let rest = ddmin verdict (replicate c.args.len true) 2 in
    let asked = c.in_ok-yes.ensures.asked ∙ (λ i. map (λ v. v.items) (c.new-questions.ensures.items i) ++ shown i ∷ []) in
    let is =
    ap (λ qs. asks_before qs rest) asked ∙ sym
    (list_step-nothing verdict c.args.len c.args.may_be_empty false c.if-not-may_be_empty.false (omega arith) answer) in
    subst (λ (o : Outcome). IfOk c.reduced-2.result (λ outcome. outcome ≡ o)) is c.reduced-2.ensures
