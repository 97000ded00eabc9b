use Rattle.std.proofs.Common.{◌≡◌, ◌≤◌, ◌∙◌, ap, sym, subst, true, List, [], ◌∷◌, ◌++◌, length, map}
use Rattle.std.specs.Prelude.{IfOk}
use Rattle.keep_guard.specs.Relation.{Rises}
use Rattle.reduce_step.specs.Limits.{text_limit}
use Rattle.reduce_core.specs.declared.lines.Line.{Line}
use Rattle.reduce_core.specs.Lines.{numbered_lines, numbers_of}
use Rattle.reduce_rounds.specs.Reduction.{Reduction, rounds_of}
use Rattle.reduce_core.specs.Reduction.{line_recursion}
use Rattle.reduce_core.proofs.Limits.{limit-lines_of}
use Rattle.reduce_core.proofs.PlainLemmas.{reduction-no, reduction-yes}
use Rattle.reduce_core.proofs.plain.plain_reduction.Goals as goal

pub returns-then-not-test : goal.returns-then-not-test
returns-then-not-test g c =
    let verdict = g.T.Test.verdict c.args.test.now in
    let asked : map (λ v. v.items) c.push.new.self.items ≡ c.args.start.now ∷ [] =
    ap (λ vs. map (λ v. v.items) vs) (c.in_ok-push.ensures.items ∙ ap (λ vs. vs ++ c.in_ok-from_slice.field-0 ∷ []) c.new-questions.ensures.items)
    ∙ ap (λ text. text ∷ []) c.in_ok-from_slice.ensures.items in
    (λ i. record { questions = asked i; state = c.in_ok-lines.ensures i; rounds = 0; refused = true })
    ∙ reduction-no (g.F.Relation.admits c.args.guard.now) verdict c.args.start.now (sym c.test.ensures ∙ c.if-not-test.true)

pub plain_rounds-requires-clause-few : goal.plain_rounds-requires-clause-few
plain_rounds-requires-clause-few g c =
    subst (λ (lines : List Line). length lines ≤ text_limit) (sym c.in_ok-lines.ensures) (limit-lines_of c.args.start.now c.requires).few

pub plain_rounds-requires-clause-rising : goal.plain_rounds-requires-clause-rising
plain_rounds-requires-clause-rising g c =
    subst (λ (lines : List Line). Rises (numbers_of lines)) (sym c.in_ok-lines.ensures) (limit-lines_of c.args.start.now c.requires).rising

pub returns : goal.returns
returns g c =
    let verdict = g.T.Test.verdict c.args.test.now in
    let asked : map (λ v. v.items) c.push.new.self.items ≡ c.args.start.now ∷ [] =
    ap (λ vs. map (λ v. v.items) vs) (c.in_ok-push.ensures.items ∙ ap (λ vs. vs ++ c.in_ok-from_slice.field-0 ∷ []) c.new-questions.ensures.items) ∙ ap
    (λ text. text ∷ []) c.in_ok-from_slice.ensures.items in
    let recursion = line_recursion (g.F.Relation.admits c.args.guard.now) c.args.start.now in
    let later : c.in_ok-later.later ≡ rounds_of recursion verdict (numbered_lines c.args.start.now) =
    c.in_ok-later.ensures c.args.start.now ∙ ap (λ lines. rounds_of recursion verdict lines) c.in_ok-lines.ensures in
    let is = (λ i. record (later i) { questions = asked i ++ (later i).questions })
    ∙ reduction-yes (g.F.Relation.admits c.args.guard.now) verdict c.args.start.now (sym c.test.ensures ∙ c.if-not-test.false) in
    subst (λ (r : Reduction (List Line)). IfOk c.after.result (λ found. found ≡ r)) is c.after.ensures
