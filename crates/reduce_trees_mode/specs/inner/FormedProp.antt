-- That a grammar is well-formed is a proposition: it has at most one proof.
use Rattle.std.proofs.Common.{◌≡◌, ℕ, Option, Some, None, slice_get, refl, sym, ◌∙◌, subst}
use Rattle.std.specs.Prelude.{⊤}
use Rattle.std.proofs.Math.Path.{path_j'}
use Rattle.std.proofs.Props.{props}
use Rattle.grammar_tree.specs.Written.{ParserRule, WrittenGrammar, WrittenRule}
use Rattle.grammar_tree.specs.Faults.{AtParserRule, IsWellFormed}

abbrev IsParserRule : Option WrittenRule → Type 0
IsParserRule None = ⊥
IsParserRule (Some (WrittenRule.parser_rule r)) = Unit {0}
IsParserRule (Some (WrittenRule.lexer_rule r)) = ⊥

-- It is a parser rule, and this is the one.
abbrev HasRule : Option WrittenRule → Type 0
HasRule o = (rule : ParserRule) × (o ≡ Some (WrittenRule.parser_rule rule)) × ⊤

is_rule : (o : Option WrittenRule) → HasRule o → IsParserRule o
is_rule o has = subst IsParserRule (sym has.1) tt

the_rule : (o : Option WrittenRule) → IsParserRule o → HasRule o
the_rule None is = absurd is
the_rule (Some (WrittenRule.parser_rule r)) is = (r, refl, tt)
the_rule (Some (WrittenRule.lexer_rule r)) is = absurd is

-- each rule that it has is that one
same_rule : (o : Option WrittenRule) (is : IsParserRule o) (rule : ParserRule) (e : o ≡ Some (WrittenRule.parser_rule rule)) → the_rule o is ≡ (rule, e, tt)
unfolding the_rule
same_rule o is rule e =
    path_j' {y = Some (WrittenRule.parser_rule rule)}
    (λ (x : Option WrittenRule) (p : x ≡ Some (WrittenRule.parser_rule rule)). (it : IsParserRule x) → the_rule x it ≡ (rule, p, tt)) (λ it. refl) e is

one_rule : (o : Option WrittenRule) → IsProp (HasRule o)
one_rule o (rule, e, t) (rule', e', t') = sym (same_rule o (is_rule o (rule, e, t)) rule e) ∙ same_rule o (is_rule o (rule, e, t)) rule' e'

start_prop : (G : WrittenGrammar) (start : ℕ) → IsProp (AtParserRule G start (λ rule. ⊤))
start_prop G start = one_rule (slice_get G.rules start)

pub well_formed_prop : (G : WrittenGrammar) (start : ℕ) → IsProp (IsWellFormed G start)
well_formed_prop G start = hlevel (props, start_prop)
