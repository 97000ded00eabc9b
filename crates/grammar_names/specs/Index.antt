-- An index of texts: the number that it has for each.
use Rattle.std.specs.Prelude.{◌≡◌, ℕ, Bool, true, false, List, Option, Some, None}
use Rattle.std.specs.BTreeMap.{get_by_text}
use Rattle.std.specs.Str.{IsUtf8, chars}
use Rattle.grammar_names.specs.declared.index.Index.{Index}

-- The index has for each text the number that the function gives.
abbrev pub Finds : Index → (List ℕ → Option ℕ) → Type 0
Finds index f = (bytes : List ℕ) → IsUtf8 bytes → get_by_text index.numbers bytes ≡ f (chars bytes)

-- what a text has after a number was added: what it had, or else the number, where it was added to this text
abbrev pub or_added : Option ℕ → Bool → ℕ → Option ℕ
or_added (Some k) is_added number = Some k
or_added None true number = Some number
or_added None false number = None
