use Rattle.std.proofs.Common.{ℕ, List, ap, ◌∙◌}
use Rattle.reduce_trees_input.specs.Parsed.{tree_input}
use Rattle.keep_guard.specs.Keep.{keeps_admit}
use Rattle.plain_reductions.proofs.parts.tree_parts.Goals as goal

pub returns : goal.returns
returns c = λ formed.
    c.in_ok-parts.ensures formed ∙ ap (λ (keeps : List (List ℕ)). tree_input c.args.found formed (keeps_admit keeps) c.args.squeezes)
    (c.new-guard.ensures ∙ c.new.ensures)
