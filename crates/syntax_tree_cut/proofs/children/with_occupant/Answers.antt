use Rattle.std.proofs.Common.{ℕ, ◌+◌, Option, ◌++◌, sym, subst}
use Rattle.std.specs.Prelude.{option_to_list, nat_eq}
use Rattle.syntax_tree_cut.specs.inner.Children.{HasSeen}
use Rattle.syntax_tree_cut.proofs.Seen.{one_more}
use Rattle.syntax_tree_cut.proofs.children.with_occupant.Goals as goal

pub returns-else-seen-clause-seen : goal.returns-else-seen-clause-seen
returns-else-seen-clause-seen c =
    λ done seen. subst (λ (o : Option ℕ). HasSeen (done ++ option_to_list o) c.args.child
    (record { count = c.args.seen.count + 1; found = nat_eq c.in-Some.number c.args.child })) (sym c.in-Some.is)
    (one_more done c.args.child c.in-Some.number c.args.seen seen c.if-seen.false)
