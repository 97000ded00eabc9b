-- Rounds of mode `hdd` worked out by hand, over the trees of `reduce_walk/specs/WorkedTrees.antt`.
use Rattle.std.specs.Prelude.{[], ◌∷◌}
use Rattle.syntax_tree.specs.Trees.{PlainTree}
use Rattle.reduce_walk.specs.WorkedTrees.{TriesInOrder, file_of, in_block, no_of, one, one_token, plus_form, plus_of, set_to, three, worked_form, yes_of}
use Rattle.reduce_hdd.specs.Round.{levels}

-- a=1;b=2;c=3; of the tokens a = 1 ; b = 2 ; c = 3 ; : all statements together are a no, and so is the first one
-- alone; the other two are a yes, and then b=2; alone. A second round tries that one without its statement.
abbrev pub StatementsGo : Type 0
StatementsGo =
    TriesInOrder (no_of [] ∷ no_of (0 ∷ 1 ∷ 2 ∷ 3 ∷ []) ∷ yes_of (4 ∷ 5 ∷ 6 ∷ 7 ∷ 8 ∷ 9 ∷ 10 ∷ 11 ∷ []) ∷ yes_of (4 ∷ 5 ∷ 6 ∷ 7 ∷ []) ∷ [])
    (levels worked_form (file_of (three (set_to 2 4 0 3 (one_token 5 8 2)) (set_to 10 4 4 7 (one_token 13 8 6)) (set_to 18 4 8 11 (one_token 21 8 10)))))
    × TriesInOrder (no_of [] ∷ []) (levels worked_form (file_of (one (set_to 10 4 4 7 (one_token 13 8 6)))))

-- {{a=1;}} of the tokens { { a = 1 ; } } : the outer block can't go, nor the inner one, nor the statement in it, each of which is alone in its level.
abbrev pub BlocksStay : Type 0
BlocksStay =
    TriesInOrder (no_of [] ∷ no_of (0 ∷ 7 ∷ []) ∷ no_of (0 ∷ 1 ∷ 6 ∷ 7 ∷ []) ∷ [])
    (levels worked_form (file_of (one (in_block 2 12 0 7 (in_block 5 8 1 6 (set_to 8 4 2 5 (one_token 11 8 4)))))))

-- Of xxx, for the grammar s : 'x'+ ; the first x alone is a yes. That all three go isn't tried,
-- since the plus would be empty, nor that the last one goes in a second round.
abbrev pub PlusKeepsOne : Type 0
PlusKeepsOne =
    TriesInOrder (yes_of (0 ∷ []) ∷ []) (levels plus_form (plus_of (three (PlainTree.leaf 2 0 0) (PlainTree.leaf 3 0 1) (PlainTree.leaf 4 0 2))))
    × TriesInOrder [] (levels plus_form (plus_of (one (PlainTree.leaf 2 0 0))))
