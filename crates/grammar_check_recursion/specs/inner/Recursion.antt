-- Beside `../Recursion.antt`: what private functions and proofs need.
use Rattle.std.specs.Prelude.{ℕ, Bool, false, nat_eq}
use Rattle.grammar_tree.specs.Derives.{Term}

-- the term is the rule r
abbrev pub is_rule : ℕ → Term → Bool
is_rule r (Term.kind k) = false
is_rule r (Term.among ks) = false
is_rule r (Term.rule q) = nat_eq q r
is_rule r (Term.block a) = false
is_rule r (Term.opt t) = false
is_rule r (Term.star t) = false
is_rule r (Term.plus t) = false
is_rule r Term.eof = false
