use Rattle.std.proofs.Common.{sym, ap, ◌∙◌}
use Rattle.std.specs.Prelude.{not, false}
use Rattle.std.specs.Option.{option_map_or}
use Rattle.list_ddmin.proofs.Lent.{asks_as_kept}
use Rattle.syntax_tree_cut.specs.Cuts.{cut_tree}
use Rattle.hdd_levels.specs.Levels.{fills_pluses, kept_tree}
use Rattle.reduce_hdd.proofs.level_step.is_refused.Goals as goal

pub can_keep-requires-clause-each : goal.can_keep-requires-clause-each
can_keep-requires-clause-each c = asks_as_kept c.args.step.now c.in-Some.keep.now (sym c.in-Some.ensures.question) ∙ c.requires.each

pub returns-in-Some : goal.returns-in-Some
returns-in-Some c =
    ap not c.can_keep.ensures
    ∙ ap (λ o. option_map_or (λ keep. not (fills_pluses c.args.tree.now.form (kept_tree c.args.level.now.nodes keep (cut_tree c.args.tree.now c.args.cut.now))))
    o false) c.in-Some.ensures.question
