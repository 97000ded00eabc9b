-- After a recall and a commit that found nothing, nothing can be recalled or committed.
use Rattle.std.proofs.Common.{◌≡◌, Bool, true, false, not, Option, Ok, sym, subst}
use Rattle.edge_io.specs.Sink.{Put}
use Rattle.reduce_step.specs.Plan.{Plan}
use Rattle.ordered_commit.specs.BoardState.{BoardState, CanRecall, IsSettled}
use Rattle.ordered_commit.specs.CommitEnds.{CommitEnds}
use Rattle.ordered_commit.specs.RecallEnds.{RecallEnds}

pub settled_after : {S J : Type 0} (plan : S → Plan) (put_so_far : J → Option Put) (committed : Bool) (old mid new : BoardState S J)
    → RecallEnds plan put_so_far (Ok false) old mid → not committed ≡ true → CommitEnds plan put_so_far (Ok committed) mid new → IsSettled plan new
settled_after plan put_so_far true old mid new recalled is ends = absurd (cc is)
settled_after {S = S} {J = J} plan put_so_far false old mid new recalled is ends =
    let none : ¬ (CanRecall plan mid) = subst (λ (state : BoardState S J). ¬ (CanRecall plan state)) (sym recalled.1) recalled.0 in
    subst (λ (state : BoardState S J). IsSettled plan state) (sym ends.1) (ends.0, none)
