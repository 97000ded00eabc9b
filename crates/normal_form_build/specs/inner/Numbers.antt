-- Beside `../Numbers.antt`: what private functions and proofs need.
use Rattle.std.specs.Prelude.{ℕ, List, [], Option, Some, None}
use Rattle.grammar_tree.specs.Written.{WrittenGrammar}
use Rattle.grammar_tree.specs.Kinds.{name_kind, rule_number}
use Rattle.grammar_tree.specs.Derives.{bodies}
use Rattle.normal_form.specs.declared.normal.Sym.{Sym}
use Rattle.normal_form.specs.declared.normal.Sym.TheVariants.{Kind, Set, Rule}
use Rattle.normal_form.specs.NormalOf.{numbering, own_rule}

-- the symbol of a kind that may be missing, and that of a name
abbrev pub token_symbol : WrittenGrammar → Option ℕ → Sym
token_symbol G None = Set ((numbering (bodies G)).set_of [])
token_symbol G (Some k) = Kind k

abbrev pub rule_symbol : WrittenGrammar → Option ℕ → Option ℕ → Sym
rule_symbol G (Some r) token = Rule (own_rule (bodies G) r)
rule_symbol G None token = token_symbol G token

abbrev pub named_symbol : WrittenGrammar → List ℕ → Sym
named_symbol G n = rule_symbol G (rule_number G n) (name_kind G n)
