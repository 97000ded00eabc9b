use Rattle.grammar_tree.proofs.MatchForms as lemma
use Rattle.grammar_tree.proofs.laws.rules_match_by_form.Goals as goal

pub returns : goal.returns
returns c = lemma.rule_by_form
