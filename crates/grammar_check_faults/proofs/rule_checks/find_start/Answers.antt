use Rattle.std.proofs.Common.{Option, Bor, List, ℕ, map, sym, ap, ◌∙◌}
use Rattle.std.specs.Prelude.{option_map, position}
use Rattle.std.specs.Str.{chars}
use Rattle.grammar_tree.specs.Faults.{is_parser_rule_named, start_of}
use Rattle.grammar_tree.specs.GrammarView.{grammar_of, rule_of}
use Rattle.grammar_tree.specs.declared.rule.Rule.{Rule}
use Rattle.grammar_check_faults.proofs.rule_checks.find_start.Goals as goal

pub returns : goal.returns
returns c =
    let G = grammar_of c.args.grammar.now in
    c.parser_rule_named.ensures
    ∙ ap (λ n. position (is_parser_rule_named n) (map rule_of c.deref-2.result.now)) c.in_ok-name.ensures
    ∙ ap (λ (rs : List Rule). position (is_parser_rule_named (chars c.in-Some.wanted.now)) (map rule_of rs)) c.deref-2.ensures.value
    ∙ sym (ap (λ (w : Option (Bor (List ℕ))). start_of G (option_map (λ s. chars s.now) w)) c.in-Some.is)
