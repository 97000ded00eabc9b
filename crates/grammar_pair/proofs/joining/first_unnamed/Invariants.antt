use Rattle.std.proofs.Common.{◌≡◌, length}
use Rattle.std.proofs.Common.{List, Option, ℕ}
use Rattle.std.specs.Prelude.{find, is_none, map}
use Rattle.std.specs.List.{filter_map}
use Rattle.grammar_tree.specs.Kinds.{as_literal}
use Rattle.grammar_tree.specs.View.{token_ref}
use Rattle.grammar_names.specs.Index.{Finds}
use Rattle.grammar_pair.proofs.joining.first_unnamed.Given as goal

abbrev pub invariant-loop-rest : goal.invariant-loop-rest
invariant-loop-rest l =
    (f : List ℕ → Option ℕ) → Finds l.named f
    → find (λ t. is_none (f t)) (filter_map as_literal (map token_ref l.rest)) ≡ find (λ t. is_none (f t))
    (filter_map as_literal (map token_ref l.fn.references))

abbrev pub decreases-loop-rest : goal.decreases-loop-rest
decreases-loop-rest l = length l.rest
