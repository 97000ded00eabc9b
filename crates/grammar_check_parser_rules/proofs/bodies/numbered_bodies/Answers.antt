use Rattle.std.proofs.Common.{Bor, map, sym, ap, ◌∙◌, subst, arith}
use Rattle.std.specs.List.{filter_map}
use Rattle.grammar_check_parser_rules.specs.inner.Rules.{body_of}
use Rattle.grammar_tree.specs.GrammarView.{grammar_of, rule_of}
use Rattle.grammar_tree.specs.View.{parser_alts}
use Rattle.grammar_tree.specs.Written.{WrittenGrammar}
use Rattle.grammar_tree.specs.declared.parser_term.ParserAlts.{ParserAlts}
use Rattle.grammar_check_parser_rules.specs.Empty.{AreBodies}
use Rattle.grammar_check_parser_rules.proofs.BodyForms.{bodies_are, few_bodies, small_bodies}
use Rattle.grammar_check_parser_rules.proofs.bodies.numbered_bodies.Goals as goal

pub returns-clause-few : goal.returns-clause-few
returns-clause-few c =
    omega (
      arith,
      few_bodies (grammar_of c.args.grammar.now) c.in_ok-found.found.items
          (c.in_ok-found.ensures ∙ ap (λ rs. filter_map body_of (map rule_of rs)) c.deref.ensures.value) c.requires.small,
      c.in_ok-found.found.ok.0,
    )

pub returns-clause-size : goal.returns-clause-size
returns-clause-size c =
    small_bodies (grammar_of c.args.grammar.now) c.in_ok-found.found.items
    (c.in_ok-found.ensures ∙ ap (λ rs. filter_map body_of (map rule_of rs)) c.deref.ensures.value) c.requires.small

pub returns-clause-bodies : goal.returns-clause-bodies
returns-clause-bodies c =
    let P : WrittenGrammar → Type 0 = λ G. AreBodies G (map (λ (a : Bor ParserAlts). parser_alts a.now) c.in_ok-found.found.items) in
    subst P (sym c.requires.names) (bodies_are (grammar_of c.args.grammar.now) c.in_ok-found.found.items
    (c.in_ok-found.ensures ∙ ap (λ rs. filter_map body_of (map rule_of rs)) c.deref.ensures.value))
