use Rattle.std.proofs.Common.{rules, ◌≡◌, ◌<◌, ℕ, List, [], ◌∷◌, ◌++◌, Some, length, arith, sym, subst}
use Rattle.script_gate_trait.specs.declared.gate.Verdict.TheVariants.{No}
use Rattle.reduce_step.specs.Plan.{Plan, after, asked}
use Rattle.reduce_rounds.proofs.Lent.{WereAskedAtNo, one_more}
use Rattle.cases_runs.specs.SmallPlan.{plan_at}
use Rattle.cases_runs.proofs.small_step.texts_at_no.Goals as goal

pub questions-preserved : goal.questions-preserved
questions-preserved c =
    let from : Plan = plan_at c.args.number in
    let texts : List (List ℕ) = c.questions.texts.items in
    let text : List ℕ = c.in-Some.text.now in
    let asks : asked (plan_at c.questions.at) ≡ Some text = sym c.in-Some.ensures.text in
    let few : length texts < c.args.most = omega arith in
    let items : c.push.new.self.items ≡ texts ++ text ∷ [] = search rules in
    let more : WereAskedAtNo c.args.most from (after (plan_at c.questions.at) No) (texts ++ text ∷ []) =
    one_more c.args.most from (plan_at c.questions.at) texts text c.questions.invariant few asks c.in-Some.ensures.short in
    subst (λ (now : Plan). WereAskedAtNo c.args.most from now c.push.new.self.items) (sym c.question_after-at.ensures)
    (subst (λ (ts : List (List ℕ)). WereAskedAtNo c.args.most from (after (plan_at c.questions.at) No) ts) (sym items) more)
