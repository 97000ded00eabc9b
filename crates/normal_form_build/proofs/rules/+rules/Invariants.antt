use Rattle.std.proofs.Common.{◌≡◌, ◌+◌, ◌++◌, map, drop, vec_len}
use Rattle.grammar_tree.specs.Corners.{seq_new_rules, alts_new_rules}
use Rattle.grammar_tree.specs.Derives.{bodies, resolved_seq, resolved_alts}
use Rattle.grammar_tree.specs.View.{parser_term, parser_terms}
use Rattle.grammar_tree.specs.Written.{written_seq, written_alts}
use Rattle.normal_form.specs.Numbering.{seq_symbols, seq_rules, alts_symbols, alts_rules}
use Rattle.normal_form.specs.NormalOf.{numbering}
use Rattle.normal_form.specs.View.{alts_form, rule_form}
use Rattle.normal_form_build.proofs.rules.+rules.Given as goal

abbrev pub invariant-push_seq-loop-term : goal.invariant-push_seq-loop-term
invariant-push_seq-loop-term l = record {
  total : vec_len l.rules + seq_new_rules (resolved_seq l.numbers (written_seq (map parser_term (drop l.term-index l.term-items))))
      ≡ vec_len l.initial.rules + seq_new_rules (resolved_seq l.numbers (written_seq (map parser_term l.term-items)));
  symbols : l.symbols.items ++ seq_symbols (numbering (bodies l.numbers)) (vec_len l.rules)
      (resolved_seq l.numbers (written_seq (map parser_term (drop l.term-index l.term-items)))) ≡ seq_symbols (numbering (bodies l.numbers))
      (vec_len l.initial.rules) (resolved_seq l.numbers (written_seq (map parser_term l.term-items)));
  rules : map rule_form l.rules.items ++ seq_rules (numbering (bodies l.numbers)) (vec_len l.rules)
      (resolved_seq l.numbers (written_seq (map parser_term (drop l.term-index l.term-items)))) ≡ map rule_form l.initial.rules.items ++ seq_rules
      (numbering (bodies l.numbers)) (vec_len l.initial.rules) (resolved_seq l.numbers (written_seq (map parser_term l.term-items)));
}

abbrev pub invariant-push_alts-loop-alt : goal.invariant-push_alts-loop-alt
invariant-push_alts-loop-alt l = record {
  total : vec_len l.rules + alts_new_rules (resolved_alts l.numbers (written_alts (map parser_terms (drop l.alt-index l.alt-items))))
      ≡ vec_len l.initial.rules + alts_new_rules (resolved_alts l.numbers (written_alts (map parser_terms l.alt-items)));
  symbols : alts_form l.symbols.items ++ alts_symbols (numbering (bodies l.numbers)) (vec_len l.rules)
      (resolved_alts l.numbers (written_alts (map parser_terms (drop l.alt-index l.alt-items)))) ≡ alts_symbols (numbering (bodies l.numbers))
      (vec_len l.initial.rules) (resolved_alts l.numbers (written_alts (map parser_terms l.alt-items)));
  rules : map rule_form l.rules.items ++ alts_rules (numbering (bodies l.numbers)) (vec_len l.rules)
      (resolved_alts l.numbers (written_alts (map parser_terms (drop l.alt-index l.alt-items)))) ≡ map rule_form l.initial.rules.items ++ alts_rules
      (numbering (bodies l.numbers)) (vec_len l.initial.rules) (resolved_alts l.numbers (written_alts (map parser_terms l.alt-items)));
}
