use Rattle.std.proofs.Common.{◌≡◌, ◌∙◌, sym, true, false, [], ◌∷◌, ◌++◌, map}
use Rattle.list_ddmin.specs.ListStep.{tried}
use Rattle.list_ddmin.specs.inner.Plain.{asks_before, candidate_of}
use Rattle.list_ddmin.proofs.Rows.{row-yes, row-no, row-over}
use Rattle.list_ddmin.proofs.plain.first_yes.Goals as goal

pub returns-then-yes-clause-row : goal.returns-then-yes-clause-row
returns-then-yes-clause-row g c on_yes on_no =
    let verdict = g.T.Test.verdict c.args.test.now in
    let candidate = candidate_of c.args.side c.args.keep.now c.args.n in
    let start = asks_before (map (λ v. v.items) c.args.questions.now.items) (tried verdict candidate on_yes on_no 0 c.args.n) in
    let old = map (λ v. v.items) c.loop-i.questions.items in
    let new = map (λ v. v.items) c.ask.new.questions.items in
    let asked = c.in_ok-tried.tried.items in
    let is_yes : verdict asked ≡ true = sym (rw c.deref.ensures.value at c.in_ok-yes.ensures.answer) ∙ c.if-yes.true in
    let grown : new ≡ old ++ asked ∷ [] = rw c.deref.ensures.value at c.in_ok-yes.ensures.asked in
    row-yes verdict candidate on_yes on_no start old c.loop-i.i c.args.n
    (c.loop-i.invariant on_yes on_no) asked new c.loop-i-test.true c.in_ok-tried.ensures is_yes grown

pub loop-i-preserved : goal.loop-i-preserved
loop-i-preserved g c on_yes on_no =
    let verdict = g.T.Test.verdict c.args.test.now in
    let candidate = candidate_of c.args.side c.args.keep.now c.args.n in
    let start = asks_before (map (λ v. v.items) c.args.questions.now.items) (tried verdict candidate on_yes on_no 0 c.args.n) in
    let old = map (λ v. v.items) c.loop-i.questions.items in
    let new = map (λ v. v.items) c.ask.new.questions.items in
    let asked = c.in_ok-tried.tried.items in
    let is_no : verdict asked ≡ false = sym (rw c.deref.ensures.value at c.in_ok-yes.ensures.answer) ∙ c.if-yes.false in
    let grown : new ≡ old ++ asked ∷ [] = rw c.deref.ensures.value at c.in_ok-yes.ensures.asked in
    row-no verdict candidate on_yes on_no start old c.loop-i.i c.args.n
    (c.loop-i.invariant on_yes on_no) asked new c.loop-i-test.true c.in_ok-tried.ensures is_no grown

pub returns-clause-row : goal.returns-clause-row
returns-clause-row g c on_yes on_no =
    let verdict = g.T.Test.verdict c.args.test.now in
    let candidate = candidate_of c.args.side c.args.keep.now c.args.n in
    let start = asks_before (map (λ v. v.items) c.args.questions.now.items) (tried verdict candidate on_yes on_no 0 c.args.n) in
    row-over verdict candidate on_yes on_no start (map (λ v. v.items) c.loop-i.questions.items) c.loop-i.i c.args.n
    (c.loop-i.invariant on_yes on_no) c.loop-i-test.false
