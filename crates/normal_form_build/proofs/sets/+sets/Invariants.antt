use Rattle.std.proofs.Common.{◌≡◌, map, drop}
use Rattle.grammar_tree.specs.Derives.{resolved_seq, resolved_alts}
use Rattle.grammar_tree.specs.Kinds.{any_kinds}
use Rattle.grammar_tree.specs.View.{parser_term, parser_terms}
use Rattle.grammar_tree.specs.Written.{written_seq, written_alts}
use Rattle.normal_form.specs.NormalOf.{seq_sets, alts_sets}
use Rattle.normal_form_sets.specs.Sets.{with_each}
use Rattle.normal_form_build.proofs.sets.+sets.Given as goal

abbrev pub invariant-with_terms-loop-term : goal.invariant-with_terms-loop-term
invariant-with_terms-loop-term l =
    record {
      kinds : l.found.all ≡ any_kinds l.names;
      sets : with_each l.found (seq_sets (resolved_seq l.names (written_seq (map parser_term (drop l.term-index l.term-items))))) ≡ with_each l.initial.found
          (seq_sets (resolved_seq l.names (written_seq (map parser_term l.term-items))));
    }

abbrev pub invariant-with_alts-loop-alt : goal.invariant-with_alts-loop-alt
invariant-with_alts-loop-alt l =
    record {
      kinds : l.found.all ≡ any_kinds l.names;
      sets : with_each l.found (alts_sets (resolved_alts l.names (written_alts (map parser_terms (drop l.alt-index l.alt-items))))) ≡ with_each l.initial.found
          (alts_sets (resolved_alts l.names (written_alts (map parser_terms l.alt-items))));
    }
