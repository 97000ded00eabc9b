use Rattle.std.proofs.Common.{map, sym, ap, ◌∙◌}
use Rattle.grammar_tree.specs.GrammarView.{rule_of}
use Rattle.cases_languages.specs.Spelled.{spelled_rules}
use Rattle.cases_languages.proofs.LentRows.{fit_at, exact_at}
use Rattle.cases_languages.proofs.lexer_rules.matches_rule.Goals as goal

pub any_matches-requires-clause-fit : goal.any_matches-requires-clause-fit
any_matches-requires-clause-fit c =
    fit_at c.in_ok-rows.rows.items c.deref-4.result.now c.deref-2.result.now c.deref-5.result.now (sym c.deref-4.ensures.value)
    (c.deref-2.ensures.value ∙ sym c.deref-5.ensures.value) c.in_ok-rows.ensures.fit

pub any_matches-requires-clause-exact : goal.any_matches-requires-clause-exact
any_matches-requires-clause-exact c =
    exact_at c.in_ok-rows.rows.items c.deref-4.result.now (spelled_rules (map rule_of c.deref.result.now))
    (spelled_rules (map rule_of c.deref-3.result.now)) c.deref-2.result.now c.deref-5.result.now
    (sym c.deref-4.ensures.value) (ap (λ l. spelled_rules (map rule_of l)) (c.deref.ensures.value ∙ sym c.deref-3.ensures.value))
    (c.deref-2.ensures.value ∙ sym c.deref-5.ensures.value) c.in_ok-rows.ensures.exact
