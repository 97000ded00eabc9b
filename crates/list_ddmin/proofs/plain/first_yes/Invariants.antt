use Rattle.std.proofs.Common.{◌≡◌, ◌-◌, Bool, List, map}
use Rattle.list_ddmin.specs.ListStep.{Outcome, tried}
use Rattle.list_ddmin.specs.inner.Plain.{asks_before, candidate_of}
use Rattle.list_ddmin.proofs.plain.first_yes.Given as goal

abbrev pub invariant-loop-i : goal.invariant-loop-i
invariant-loop-i g l =
    let verdict = g.T.Test.verdict l.test in
    let candidate = candidate_of l.side l.keep l.n in
    (on_yes : List Bool → Outcome) (on_no : Outcome) →
    asks_before (map (λ v. v.items) l.fn.questions.items) (tried verdict candidate on_yes on_no 0 l.n)
    ≡ asks_before (map (λ v. v.items) l.questions.items) (tried verdict candidate on_yes on_no l.i (l.n - l.i))
