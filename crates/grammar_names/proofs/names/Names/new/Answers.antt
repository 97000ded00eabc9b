use Rattle.std.proofs.Common.{map, sym, ap, ◌∙◌}
use Rattle.std.specs.Prelude.{position}
use Rattle.std.specs.Str.{chars}
use Rattle.grammar_tree.specs.Written.{ParserRule}
use Rattle.grammar_tree.specs.GrammarView.{grammar_of, kind_of, rule_of}
use Rattle.grammar_tree.specs.Kinds.{has_name, parser_rules, same_text, visible_from}
use Rattle.grammar_names.specs.inner.Names.{can_stand_for}
use Rattle.grammar_names.proofs.LiteralKinds.{literal_stands}
use Rattle.grammar_names.proofs.names.Names.new.Goals as goal

pub invariant_of-result : goal.invariant_of-result
invariant_of-result c =
    let G = grammar_of c.args.grammar.now in
    let rules = ap (map rule_of) c.deref.ensures.value in
    let named_rules = ap (map rule_of) c.deref-2.ensures.value in
    record {
      rules_are =
          λ bytes u. c.in_ok-rule_index.ensures bytes u ∙ ap (λ l. position (λ (r : ParserRule). same_text r.name (chars bytes)) (parser_rules l)) rules;
      tokens_are = λ bytes u. c.in_ok-token_index.ensures bytes u ∙ ap (position (has_name (chars bytes))) c.requires.numbered;
      literals_are =
          λ bytes u. c.in_ok-literal_index.ensures bytes u
          ∙ ap (λ l. position (λ kind. can_stand_for l kind (chars bytes)) (map kind_of c.args.kinds.now)) named_rules
          ∙ ap (position (λ kind. can_stand_for G.rules kind (chars bytes))) c.requires.numbered ∙ sym (literal_stands G (chars bytes));
      any_are = c.in_ok-visible_kinds.ensures ∙ ap (visible_from 0) c.requires.numbered;
    }
