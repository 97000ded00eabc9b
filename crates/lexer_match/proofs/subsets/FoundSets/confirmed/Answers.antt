use Rattle.std.proofs.Common.{sym, ap, ◌∙◌, slice_get}
use Rattle.std.proofs.lemmas.Slice.Eq.{bytes_eq-Decides}
use Rattle.lexer_match.proofs.Found.{item_some, numbered_known}
use Rattle.lexer_match.proofs.subsets.FoundSets.confirmed.Goals as goal

pub returns-then-eq : goal.returns-then-eq
returns-then-eq c =
    let sets = c.args.self.now.sets.items in
    let at =
    ap (λ l. slice_get l c.args.number) (sym c.deref.ensures.value)
    ∙ item_some c.deref.result.now c.args.number c.in-Some.set c.get.result c.in-Some.is c.get.ensures.lookup in
    numbered_known sets c.args.number c.in-Some.set.now c.args.states.now at
    (sym c.as_slice.ensures.value ∙ (bytes_eq-Decides c.as_slice.result.now c.args.states.now).0 (sym c.eq.ensures ∙ c.if-eq.true))
