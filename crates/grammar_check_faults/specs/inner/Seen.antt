-- Texts that were seen.
use Rattle.std.specs.Prelude.{ℕ, List, Option, Some, None, if◌then◌else◌}
use Rattle.std.specs.List.{list_any}
use Rattle.grammar_tree.specs.Kinds.{same_text}

-- what an index of the texts so far says of a text
abbrev pub seen_in : List (List ℕ) → List ℕ → Option ℕ
seen_in texts t = if list_any (λ u. same_text u t) texts then Some 0 else None
