use Rattle.reduce_trees_mode.proofs.Listing as lemma
use Rattle.reduce_trees_mode.proofs.laws.listed_are_candidates.Goals as goal

pub returns : goal.returns
returns c =
    lemma.listed_are_candidates c.printed_with_skips.ensures c.left_is_part.ensures c.valid_trees_are_derived.ensures c.leaves_keep_kinds.ensures
    c.kept_kinds.ensures c.equal_languages.ensures
