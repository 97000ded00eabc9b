use Rattle.std.proofs.Common.{List, Bool}
use Rattle.list_ddmin.specs.Machine.{asks}
use Rattle.syntax_tree.specs.Left.{selected_trees}
use Rattle.syntax_tree_cut.specs.Cuts.{CanSelect, HasChildren, cut_tree}
use Rattle.reduce_perses.proofs.ElementsLemmas.{of_some, to_some}
use Rattle.reduce_perses.proofs.elements.asked_tokens.Goals as goal

pub tokens_of_elements-requires-clause-can : goal.tokens_of_elements-requires-clause-can
tokens_of_elements-requires-clause-can c =
    of_some (λ (keep : List Bool). CanSelect c.args.tree.now.form (cut_tree c.args.tree.now c.args.cut.now) c.args.list keep)
    (asks c.args.step.now) c.in-Some.keep.now c.in-Some.ensures.question c.requires.can

pub returns-clause-tokens : goal.returns-clause-tokens
returns-clause-tokens c =
    let (t, has, are) = c.in_ok-tokens-in-Some.ensures.tokens in (
      t,
      to_some (λ (keep : List Bool). HasChildren c.args.list (selected_trees keep) (cut_tree c.args.tree.now c.args.cut.now) t) (asks c.args.step.now)
          c.in-Some.keep.now c.in-Some.ensures.question has,
      are,
    )
