use Rattle.std.proofs.Common.{ℕ, Bool, List, refl, subst}
use Rattle.std.specs.Prelude.{◌↔◌, IfOk, IsTrue}
use Rattle.cert_check.proofs.candidates.may_be_asked.Goals as goal

pub returns-then-is_marked : goal.returns-then-is_marked
returns-then-is_marked g c = (λ is. c.requires c.if-is_marked.true, λ one. refl)

pub returns : goal.returns
returns g c =
    subst (λ (t : List ℕ). IfOk c.is_candidate.result (λ (b : Bool). IsTrue b ↔ g.C.Candidates.IsCandidate c.args.candidates.now t)) c.as_slice.ensures
    c.is_candidate.ensures
