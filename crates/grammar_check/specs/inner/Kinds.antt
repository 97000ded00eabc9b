-- The kinds of tokens of a grammar, as they are found one after another.
use Rattle.std.specs.Prelude.{ℕ, false, List, [], ◌∷◌, Option, filter, is_none, if◌then◌else◌}
use Rattle.std.specs.List.{list_any}
use Rattle.grammar_tree.specs.Kinds.{same_text}
use Rattle.grammar_tree.specs.Written.{Source, TokenKind}

-- the texts that an index has no number for
abbrev pub absent : (List ℕ → Option ℕ) → List (List ℕ) → List (List ℕ)
absent f texts = filter (λ t. is_none (f t)) texts

-- the text, unless it was seen among these
abbrev pub unless_seen : List (List ℕ) → List ℕ → List (List ℕ)
unless_seen texts t = if list_any (λ u. same_text u t) texts then [] else t ∷ []

-- the kind of a text that has no rule of the lexer
abbrev pub plain_kind : Source → List ℕ → TokenKind
plain_kind source t = record { name = t; gap = false; source = source }
