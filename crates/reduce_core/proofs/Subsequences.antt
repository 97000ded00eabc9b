-- What is some of a list's elements, in their order.
use Rattle.std.proofs.Common.{Bool, true, false, List, [], ◌∷◌}
use Rattle.list_ddmin.specs.ListStep.{kept_of}
use Rattle.reduce_core.specs.declared.lines.Line.{Line}
use Rattle.reduce_core.specs.Candidates.{IsSubsequence, nothing, keeps, leaves}

pub all-subsequence : (xs : List Line) → IsSubsequence xs xs
all-subsequence [] = nothing
all-subsequence (x ∷ xs) = keeps x xs xs (all-subsequence xs)

none-subsequence : (xs : List Line) → IsSubsequence [] xs
none-subsequence [] = nothing
none-subsequence (x ∷ xs) = leaves x [] xs (none-subsequence xs)

-- what is kept of some of the elements is some of them
pub kept-subsequence : (keep : List Bool) (xs ys : List Line) → IsSubsequence xs ys → IsSubsequence (kept_of keep xs) ys
kept-subsequence keep xs ys (leaves y _ zs some) = leaves y (kept_of keep xs) zs (kept-subsequence keep xs zs some)
kept-subsequence [] [] [] nothing = nothing
kept-subsequence (true ∷ keep) [] [] nothing = nothing
kept-subsequence (false ∷ keep) [] [] nothing = nothing
kept-subsequence [] (x ∷ xs) (y ∷ ys) (keeps _ _ _ some) = leaves x [] ys (none-subsequence ys)
kept-subsequence (true ∷ keep) (x ∷ xs) (y ∷ ys) (keeps _ _ _ some) = keeps x (kept_of keep xs) ys (kept-subsequence keep xs ys some)
kept-subsequence (false ∷ keep) (x ∷ xs) (y ∷ ys) (keeps _ _ _ some) = leaves x (kept_of keep xs) ys (kept-subsequence keep xs ys some)
