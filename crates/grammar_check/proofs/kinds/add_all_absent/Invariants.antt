use Rattle.std.proofs.Common.{◌≡◌, ◌++◌, ℕ, List, Option, map, take}
use Rattle.grammar_tree.specs.GrammarView.{kind_of, source_of}
use Rattle.grammar_names.specs.Index.{Finds}
use Rattle.grammar_check.specs.inner.Kinds.{absent, plain_kind}
use Rattle.grammar_check.proofs.kinds.add_all_absent.Given as goal

abbrev pub invariant-loop-text : goal.invariant-loop-text
invariant-loop-text l =
    (f : List ℕ → Option ℕ) → Finds l.indices f
    → map kind_of l.kinds.items ≡ map kind_of l.initial.kinds.items ++ map (plain_kind (source_of l.source)) (absent f (take l.text-index l.texts))
