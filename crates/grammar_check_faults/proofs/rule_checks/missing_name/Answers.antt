use Rattle.std.proofs.Common.{◌≡◌, Bool, true, false, not, is_some, ℕ, Bor, List, Option, Some, None, map, refl, sym, ap, ◌∙◌, subst, true≢false}
use Rattle.std.specs.Prelude.{chars, option_map, position}
use Rattle.std.proofs.lemmas.Str.{chars-nil}
use Rattle.std.proofs.lemmas.Bool.{false≢true}
use Rattle.grammar_tree.specs.Faults.{NoStart, is_parser_rule, start_of}
use Rattle.grammar_tree.specs.GrammarView.{grammar_of, rule_of}
use Rattle.grammar_check_faults.proofs.StartForms.{none_there, none_wanted, not_found}
use Rattle.grammar_check_faults.proofs.rule_checks.missing_name.Goals as goal

abbrev text : Bor (List ℕ) → List ℕ
text s = chars s.now

nothing : (o : Option ℕ) (b : Bool) → is_some o ≡ not b → b ≡ true → o ≡ None
nothing None b h e = refl
nothing (Some i) b h e = absurd (true≢false (h ∙ ap not e))

something : (o : Option ℕ) (b : Bool) → is_some o ≡ not b → b ≡ false → (i : ℕ) × (o ≡ Some i)
something None b h e = absurd (false≢true (h ∙ ap not e))
something (Some i) b h e = (i, refl)

pub returns-in_default : goal.returns-in_default
returns-in_default c =
    let G = grammar_of c.args.grammar.now in
    let missing : start_of G None ≡ None = ap (λ w. start_of G (option_map text w)) (sym c.in_default.is) ∙ c.requires in
    let Named : List ℕ → Type 0 = λ n. NoStart G None n in
    let Wanted : Option (List ℕ) → Type 0 = λ w. NoStart G w c.in_ok-name.name in
    subst Wanted (ap (option_map text) (sym c.in_default.is)) (subst Named (sym (c.in_ok-name.ensures ∙ chars-nil)) (none_wanted G missing))

pub returns-then-is_none : goal.returns-then-is_none
returns-then-is_none c =
    let G = grammar_of c.args.grammar.now in
    let name = text c.in-Some.wanted in
    let missing : start_of G None ≡ None =
    sym (c.first_parser_rule.ensures ∙ ap (λ rs. position is_parser_rule (map rule_of rs)) c.deref.ensures.value)
    ∙ nothing c.first_parser_rule.result c.is_none.result c.is_none.ensures c.if-is_none.true in
    let Named : List ℕ → Type 0 = λ n. NoStart G (Some name) n in
    let Wanted : Option (List ℕ) → Type 0 = λ w. NoStart G w c.in_ok-name-2.name in
    subst Wanted (ap (option_map text) (sym c.in-Some.is)) (subst Named (sym (c.in_ok-name-2.ensures ∙ chars-nil)) (none_there G name missing))

pub returns : goal.returns
returns c =
    let G = grammar_of c.args.grammar.now in
    let name = text c.in-Some.wanted in
    let it = something c.first_parser_rule.result c.is_none.result c.is_none.ensures c.if-is_none.false in
    let some : start_of G None ≡ Some it.0 =
    sym (c.first_parser_rule.ensures ∙ ap (λ rs. position is_parser_rule (map rule_of rs)) c.deref.ensures.value) ∙ it.1 in
    let missing : start_of G (Some name) ≡ None = ap (λ w. start_of G (option_map text w)) (sym c.in-Some.is) ∙ c.requires in
    let Named : List ℕ → Type 0 = λ n. NoStart G (Some name) n in
    let Wanted : Option (List ℕ) → Type 0 = λ w. NoStart G w c.in_ok-name-3.name in
    subst Wanted (ap (option_map text) (sym c.in-Some.is)) (subst Named (sym c.in_ok-name-3.ensures) (not_found G name it.0 some missing))
