use Rattle.std.proofs.Common.{◌≡◌, Some, slice_get, sym, ap, ◌∙◌}
use Rattle.lexer_match.specs.declared.alternative.Seen.{Seen}
use Rattle.lexer_match.specs.declared.dead.DeadSet.{DeadSet}
use Rattle.lexer_match.specs.Dead.{HasDead}
use Rattle.lexer_match.proofs.Found.{contains_at, item_some, option_as}
use Rattle.lexer_match.proofs.dead.DeadSets.seen_at.Goals as goal

pub returns-in-Some : goal.returns-in-Some
returns-in-Some c =
    let d = c.in-Some.dead.now in
    let at : slice_get c.args.self.now.sets.items c.args.index ≡ Some d =
    ap (λ l. slice_get l c.args.index) (sym c.deref.ensures.value)
    ∙ item_some c.deref.result.now c.args.index c.in-Some.dead c.get.result c.in-Some.is c.get.ensures.lookup in
    option_as c.seen_from.result
    (λ (seen : Seen). (d.set.remaining ≡ c.args.remaining) × (d.set.states.items ≡ c.args.states.now) × (d.seen ≡ seen))
    (λ (seen : Seen). (x : DeadSet) × HasDead c.args.self.now x × (x.set.remaining ≡ c.args.remaining) × (x.set.states.items ≡ c.args.states.now)
    × (x.seen ≡ seen))
    (λ seen (a, b, e). (d, contains_at c.args.self.now.sets.items c.args.index d at, a, b, e))
    c.seen_from.ensures
