use Rattle.spell_shrink.proofs.Ends as lemmas
use Rattle.spell_shrink.proofs.laws.respells_candidates.Goals as goal

pub returns : goal.returns
returns g c =
    lemmas.respells_candidates g.W.TreeWalk.round c.walks_ask_candidates.ensures c.texts_are_no_longer.ensures c.spelled_are_found.ensures
    c.spelled_kinds.ensures c.valid_trees_are_derived.ensures c.leaves_keep_kinds.ensures c.equal_languages.ensures c.left_is_part.ensures
