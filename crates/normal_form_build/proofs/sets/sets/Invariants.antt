use Rattle.std.proofs.Common.{◌≡◌, drop}
use Rattle.std.specs.List.{flat_map}
use Rattle.grammar_tree.specs.Kinds.{any_kinds}
use Rattle.normal_form.specs.NormalOf.{alts_sets}
use Rattle.normal_form_sets.specs.Sets.{no_sets, with_each}
use Rattle.normal_form_build.specs.inner.ParserRules.{bodies_of}
use Rattle.normal_form_build.proofs.sets.sets.Given as goal

abbrev pub invariant-loop-rule : goal.invariant-loop-rule
invariant-loop-rule l =
    with_each l.found (flat_map alts_sets (bodies_of l.names (drop l.rule-index l.rules))) ≡ with_each (no_sets (any_kinds l.names))
    (flat_map alts_sets (bodies_of l.names l.rules))
