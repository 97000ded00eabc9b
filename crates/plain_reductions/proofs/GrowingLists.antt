-- Lists that grow by what each of their elements gives.
use Rattle.std.proofs.Common.{◌≡◌, ℕ, ◌+◌, ◌<◌, List, [], ◌∷◌, ◌++◌, length, get_or, take, ap, sym, ◌∙◌, arith}
use Rattle.std.specs.Prelude.{flat_map}
use Rattle.std.proofs.lemmas.List.{take_more, take-append-le, flat_map_more}
use Rattle.plain_reductions.specs.declared.nodes.LeftNode.{LeftNode}

-- one element more is passed, and what it gives is at the end
pub below_more : (f : LeftNode → List LeftNode) (tops all : List LeftNode) (i : ℕ) (node : LeftNode) → i < length all → get_or all i node ≡ node
    → all ≡ tops ++ flat_map f (take i all) → all ++ f node ≡ tops ++ flat_map f (take (i + 1) (all ++ f node))
below_more f tops all i node within at so_far =
    let passed : take (i + 1) (all ++ f node) ≡ take i all ++ node ∷ [] =
    take-append-le (i + 1) all (f node) (omega arith) ∙ take_more all i node within ∙ ap (λ (x : LeftNode). take i all ++ x ∷ []) at in
    ap (λ (xs : List LeftNode). xs ++ f node) so_far ∙ flat_map_more f tops (take i all) node ∙ ap (λ (xs : List LeftNode). tops ++ flat_map f xs) (sym passed)
