use Rattle.std.proofs.Common.{sym, ◌∙◌, subst}
use Rattle.std.specs.List.Sorted.{IsStrictlyIncreasing}
use Rattle.grammar_tree.specs.GrammarView.{grammar_of}
use Rattle.grammar_tree.specs.Kinds.{kinds_of}
use Rattle.grammar_names.proofs.KindLists.{visible_rise}
use Rattle.grammar_names.proofs.names.Names.any_kinds.Goals as goal

pub returns-clause-rising : goal.returns-clause-rising
returns-clause-rising c =
    subst IsStrictlyIncreasing (sym (c.as_slice.ensures.value ∙ c.self.invariant.any_are)) (visible_rise (kinds_of (grammar_of c.self.inside.grammar.now)))
