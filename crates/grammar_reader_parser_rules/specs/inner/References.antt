-- The state after a reference that a word makes, if it makes one.
use Rattle.std.specs.Prelude.{List, [], ◌∷◌, ◌++◌, Option, Some, None}
use Rattle.grammar_tree.specs.Written.{Reference, WrittenTerm}
use Rattle.grammar_reader_machine.specs.Machine as m

-- after `~` and one reference
abbrev pub after_reference : m.Body → Option Reference → Option m.State
after_reference b (Some r) = Some (m.AfterAtom b (WrittenTerm.but (r ∷ [])))
after_reference b None = None

-- after one more reference in brackets
abbrev pub after_listed : m.Body → List Reference → Option Reference → Option m.State
after_listed b refs (Some r) = Some (m.AfterRef b (refs ++ r ∷ []))
after_listed b refs None = None
