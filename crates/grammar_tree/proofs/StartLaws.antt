-- Where the start rule is.
use Rattle.std.proofs.Common.{◌≡◌, ℕ, Bool, true, false, List, [], Some, None, slice_get, refl, sym, ap, ◌∙◌, true≢false, slice_index_or}
use Rattle.std.proofs.lemmas.List.Quantifiers.{position-Some}
use Rattle.std.proofs.lemmas.Option.{slice_get-get_or, none-some}
use Rattle.std.proofs.lemmas.Slice.Eq.{bytes_eq-Decides}
use Rattle.std.specs.List.{position}
use Rattle.grammar_tree.specs.Written.{ParserRule, LexerRule, WrittenAlts, WrittenRule}
use Rattle.grammar_tree.specs.Faults.{is_parser_rule, is_parser_rule_named}
use Rattle.grammar_tree.specs.Laws.{StartIsThere, SomeIsWellFormed}
use Rattle.grammar_tree.proofs.Inhabited.{K, K_is_well_formed}

pub some_is_well_formed : SomeIsWellFormed
some_is_well_formed = (K, 0, K_is_well_formed)

-- any rule, for a place past the end
abbrev any_rule : WrittenRule
any_rule = WrittenRule.parser_rule (record { name = []; alts = WrittenAlts.none })

is_parser : (p : WrittenRule → Bool) → ((r : LexerRule) → p (WrittenRule.lexer_rule r) ≡ false) → (rule : WrittenRule) → p rule ≡ true → (r : ParserRule)
    × (rule ≡ WrittenRule.parser_rule r) × (p (WrittenRule.parser_rule r) ≡ true)
is_parser p others (WrittenRule.parser_rule r) e = (r, refl, e)
is_parser p others (WrittenRule.lexer_rule r) e = absurd (true≢false (sym e ∙ others r))

at_place : (rules : List WrittenRule) (i : ℕ) (p : WrittenRule → Bool) → ((r : LexerRule) → p (WrittenRule.lexer_rule r) ≡ false) → position p rules ≡ Some i
    → (r : ParserRule) × (slice_get rules i ≡ Some (WrittenRule.parser_rule r)) × (p (WrittenRule.parser_rule r) ≡ true)
at_place rules i p others e =
    let found = position-Some p rules i any_rule e in
    let it = is_parser p others (slice_index_or rules i any_rule) found.1 in
    (it.0, slice_get-get_or rules i any_rule found.0 ∙ ap Some it.1, it.2)

pub there : StartIsThere
there G None i e = let it = at_place G.rules i is_parser_rule (λ r. refl) e in (it.0, it.1, λ name h. absurd (none-some name h))
there G (Some n) i e =
    let it = at_place G.rules i (is_parser_rule_named n) (λ r. refl) e in
    let same : it.0.name ≡ n = (bytes_eq-Decides it.0.name n).0 it.2 in
    (it.0, it.1, λ name h. let is : n ≡ name = cc in same ∙ is)
