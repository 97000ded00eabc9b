-- What names and literals that may mean nothing resolve to, as the definition of resolved terms has it.
use Rattle.std.proofs.Common.{ℕ, [], Option, Some, None}
use Rattle.grammar_tree.specs.Derives.{Term}

abbrev pub kind_term : Option ℕ → Term
kind_term None = Term.among []
kind_term (Some k) = Term.kind k

abbrev pub name_term : Option ℕ → Option ℕ → Term
name_term (Some r) token = Term.rule r
name_term None token = kind_term token
