use Rattle.std.proofs.Common.{◌≡◌, ◌+◌, ◌++◌, map, drop, vec_len}
use Rattle.grammar_tree.specs.Corners.{alts_new_rules}
use Rattle.grammar_tree.specs.Derives.{bodies, resolved_alts}
use Rattle.grammar_tree.specs.View.{parser_terms}
use Rattle.grammar_tree.specs.Written.{written_alts}
use Rattle.normal_form.specs.Numbering.{alts_rules, base_symbols, rest_symbols}
use Rattle.normal_form.specs.NormalOf.{numbering}
use Rattle.normal_form.specs.View.{alts_form, rule_form}
use Rattle.normal_form_build.proofs.groups.push_sorted.Given as goal

abbrev pub invariant-loop-alt : goal.invariant-loop-alt
invariant-loop-alt l = record {
  total : vec_len l.rules + alts_new_rules (resolved_alts l.numbers (written_alts (map parser_terms (drop l.alt-index l.alt-items))))
      ≡ vec_len l.initial.rules + alts_new_rules (resolved_alts l.numbers (written_alts (map parser_terms l.alt-items)));
  bases : alts_form l.sorted.bases.items ++ base_symbols (numbering (bodies l.numbers)) l.rule (vec_len l.rules)
      (resolved_alts l.numbers (written_alts (map parser_terms (drop l.alt-index l.alt-items)))) ≡ base_symbols (numbering (bodies l.numbers)) l.rule
      (vec_len l.initial.rules) (resolved_alts l.numbers (written_alts (map parser_terms l.alt-items)));
  rests : alts_form l.sorted.rests.items ++ rest_symbols (numbering (bodies l.numbers)) l.rule (vec_len l.rules)
      (resolved_alts l.numbers (written_alts (map parser_terms (drop l.alt-index l.alt-items)))) ≡ rest_symbols (numbering (bodies l.numbers)) l.rule
      (vec_len l.initial.rules) (resolved_alts l.numbers (written_alts (map parser_terms l.alt-items)));
  rules : map rule_form l.rules.items ++ alts_rules (numbering (bodies l.numbers)) (vec_len l.rules)
      (resolved_alts l.numbers (written_alts (map parser_terms (drop l.alt-index l.alt-items)))) ≡ map rule_form l.initial.rules.items ++ alts_rules
      (numbering (bodies l.numbers)) (vec_len l.initial.rules) (resolved_alts l.numbers (written_alts (map parser_terms l.alt-items)));
}
