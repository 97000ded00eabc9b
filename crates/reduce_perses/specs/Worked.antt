-- Rounds of mode `perses` that were worked out by hand.
use Rattle.std.specs.Prelude.{◌&&◌, ◌||◌, nat_eq, Bool, false, [], ◌∷◌}
use Rattle.normal_form.specs.declared.normal.Sym.{Sym}
use Rattle.normal_form.specs.declared.normal.Sym.TheVariants.{Kind, Set, Rule}
use Rattle.syntax_tree.specs.Trees.{PlainTree}
use Rattle.reduce_perses.specs.Visit.{visit}
use Rattle.reduce_walk.specs.WorkedTrees.{TriesInOrder, file_of, in_block, in_brackets, no_of, one, one_token, plus_form, plus_of, set_to, three, worked_form}
use Rattle.reduce_walk.specs.WorkedTrees.{yes_of}

-- which symbol fits which slot: each itself, and those that are an alternative alone
abbrev pub worked_fits : Sym → Sym → Bool
worked_fits (Kind k) (Kind l) = nat_eq k l
worked_fits (Kind k) (Set i) = false
worked_fits (Kind k) (Rule r) = nat_eq r 5 && (nat_eq k 7 || nat_eq k 8)
worked_fits (Set i) (Kind l) = false
worked_fits (Set i) (Set j) = nat_eq i j
worked_fits (Set i) (Rule r) = false
worked_fits (Rule q) (Kind l) = false
worked_fits (Rule q) (Set i) = false
worked_fits (Rule q) (Rule r) = nat_eq q r || (nat_eq q 1 && nat_eq r 0)

-- x=((1)); of the tokens x = ( ( 1 ) ) ; : without its statement it is a no; of its brackets both pairs can go, one after the other.
abbrev pub BracketsGo : Type 0
BracketsGo =
    TriesInOrder (no_of [] ∷ yes_of (0 ∷ 1 ∷ 3 ∷ 4 ∷ 5 ∷ 7 ∷ []) ∷ yes_of (0 ∷ 1 ∷ 4 ∷ 7 ∷ []) ∷ [])
    (visit worked_form worked_fits (Rule 0) (file_of (one (set_to 2 14 0 7 (in_brackets 5 9 2 6 (in_brackets 8 4 3 5 (one_token 11 8 4)))))))

-- {{a=1;}} of the tokens { { a = 1 ; } } : the statement in the outer block takes its position, and then the one in the inner block.
abbrev pub BlocksGo : Type 0
BlocksGo =
    TriesInOrder (no_of [] ∷ yes_of (1 ∷ 2 ∷ 3 ∷ 4 ∷ 5 ∷ 6 ∷ []) ∷ yes_of (2 ∷ 3 ∷ 4 ∷ 5 ∷ []) ∷ [])
    (visit worked_form worked_fits (Rule 0) (file_of (one (in_block 2 12 0 7 (in_block 5 8 1 6 (set_to 8 4 2 5 (one_token 11 8 4)))))))

-- Of xxx the first x alone is a yes. Without it nothing would be left, which a plus may not be: a second round tries nothing.
abbrev pub PlusKeepsOne : Type 0
PlusKeepsOne =
    TriesInOrder (yes_of (0 ∷ []) ∷ []) (visit plus_form worked_fits (Rule 0)
    (plus_of (three (PlainTree.leaf 2 0 0) (PlainTree.leaf 3 0 1) (PlainTree.leaf 4 0 2))))
    × TriesInOrder [] (visit plus_form worked_fits (Rule 0) (plus_of (one (PlainTree.leaf 2 0 0))))
