use Rattle.std.proofs.Common.{refl, sym, ap, ◌∙◌, length}
use Rattle.std.proofs.lemmas.Option.{slice_get_read}
use Rattle.lexer_match.specs.Table.{states_in}
use Rattle.lexer_match.proofs.subsets.FoundSets.states.Goals as goal

pub returns : goal.returns
returns c =
    let sets = c.args.self.now.sets.items in
    let at = slice_get_read sets (length sets) c.args.number c.index.result.now refl c.requires c.index.ensures in
    c.as_slice.ensures.value ∙ sym (ap (λ o. states_in o) at)
