-- Direct left recursion, as tests of terms and alternatives.
use Rattle.std.specs.Prelude.{Bool, true, false}
use Rattle.grammar_tree.specs.Derives.{Alts}

-- there is an alternative
abbrev pub has_alternative : Alts → Bool
has_alternative Alts.none = false
has_alternative (Alts.or s a) = true
