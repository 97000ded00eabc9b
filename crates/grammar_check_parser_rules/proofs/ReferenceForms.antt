-- The literals and names in terms and rules, by their parts.
use Rattle.std.proofs.Common.{◌≡◌, List, [], ◌∷◌, ◌++◌, map, refl, ap, ◌∙◌}
use Rattle.std.specs.List.{flat_map}
use Rattle.grammar_tree.specs.GrammarView.{rule_of}
use Rattle.grammar_tree.specs.Kinds.{all_references, references, seq_references, term_references}
use Rattle.grammar_tree.specs.View.{parser_alts, parser_term, parser_terms}
use Rattle.grammar_tree.specs.Written.{WrittenRule, written_alts, written_seq}
use Rattle.grammar_tree.specs.declared.parser_term.ParserAlts.{ParserAlts, out-ParserAlts}
use Rattle.grammar_tree.specs.declared.parser_term.ParserTerm.{ParserTerm}
use Rattle.grammar_tree.specs.declared.parser_term.ParserTerms.{ParserTerms, out-ParserTerms}
use Rattle.grammar_tree.specs.declared.rule.Rule.{Rule}
use Rattle.grammar_check_parser_rules.specs.inner.Rules.{rule_references}
use Rattle.grammar_check_parser_rules.proofs.Traversed.{alts_view, seq_view}

by_terms : (ts : List ParserTerm) → seq_references (written_seq (map parser_term ts)) ≡ flat_map (λ t. term_references (parser_term t)) ts
by_terms [] = refl
by_terms (t ∷ ts) = ap (λ l. term_references (parser_term t) ++ l) (by_terms ts)

pub seq_by_flat : (s : ParserTerms) → seq_references (written_seq (parser_terms s)) ≡ flat_map (λ t. term_references (parser_term t))
    (out-ParserTerms s).items.items
seq_by_flat s = ap (λ ts. seq_references (written_seq ts)) (seq_view s) ∙ by_terms (out-ParserTerms s).items.items

by_seqs : (ss : List ParserTerms) → references (written_alts (map parser_terms ss)) ≡ flat_map (λ s. seq_references (written_seq (parser_terms s))) ss
by_seqs [] = refl
by_seqs (s ∷ ss) = ap (λ l. seq_references (written_seq (parser_terms s)) ++ l) (by_seqs ss)

pub alts_by_flat : (a : ParserAlts) → references (written_alts (parser_alts a)) ≡ flat_map (λ s. seq_references (written_seq (parser_terms s)))
    (out-ParserAlts a).items.items
alts_by_flat a = ap (λ ss. references (written_alts ss)) (alts_view a) ∙ by_seqs (out-ParserAlts a).items.items

pub by_written_rules : (rules : List WrittenRule) → all_references rules ≡ flat_map rule_references rules
by_written_rules [] = refl
by_written_rules (WrittenRule.parser_rule r ∷ rules) = ap (λ l. references r.alts ++ l) (by_written_rules rules)
by_written_rules (WrittenRule.lexer_rule r ∷ rules) = by_written_rules rules

by_map : (rules : List Rule) → flat_map rule_references (map rule_of rules) ≡ flat_map (λ r. rule_references (rule_of r)) rules
by_map [] = refl
by_map (r ∷ rules) = ap (λ l. rule_references (rule_of r) ++ l) (by_map rules)

pub by_rules : (rules : List Rule) → all_references (map rule_of rules) ≡ flat_map (λ r. rule_references (rule_of r)) rules
by_rules rules = by_written_rules (map rule_of rules) ∙ by_map rules
