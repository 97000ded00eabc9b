use Rattle.std.proofs.Common.{◌+◌, ◌*◌, ◌≤◌, map, take, drop, length}
use Rattle.grammar_tree.specs.GrammarView.{rule_of}
use Rattle.grammar_tree.specs.Kinds.{lexer_rules}
use Rattle.grammar_tree.specs.Matches.{MatchesAlts, MatchesSeq}
use Rattle.grammar_tree.specs.Size.{lexer_alts_size, lexer_seq_size, lexer_term_size}
use Rattle.grammar_tree.specs.View.{lex_term, lex_terms, lex_alts}
use Rattle.grammar_tree.specs.Written.{lexer_alts, lexer_seq}
use Rattle.grammar_tree.specs.declared.lex_term.LexAlts.{out-LexAlts}
use Rattle.grammar_tree.specs.declared.lex_term.LexTerms.{out-LexTerms}
use Rattle.lexer_nfa.specs.inner.Compile.{IsAdded}
use Rattle.lexer_nfa.proofs.compile.+add.Given as goal

abbrev pub decreases-add_term : goal.decreases-add_term
decreases-add_term l = 3 * lexer_term_size (lex_term l.term.now)

abbrev pub decreases-add_terms : goal.decreases-add_terms
decreases-add_terms l = 3 * lexer_seq_size (lexer_seq (lex_terms l.terms.now)) + 1

abbrev pub decreases-add_alts : goal.decreases-add_alts
decreases-add_alts l = 3 * lexer_alts_size (lexer_alts (lex_alts l.alts.now)) + 2

abbrev pub invariant-add_terms-loop-i : goal.invariant-add_terms-loop-i
invariant-add_terms-loop-i l = record {
  within : l.i ≤ length (out-LexTerms l.terms).items.items;
  added : IsAdded (map rule_of l.names.rules.now)
      (MatchesSeq (lexer_rules (map rule_of l.names.rules.now)) (lexer_seq (map lex_term (drop l.i (out-LexTerms l.terms).items.items)))) l.initial.states.items
      l.states.items l.entry l.next;
}

abbrev pub decreases-add_terms-loop-i : goal.decreases-add_terms-loop-i
decreases-add_terms-loop-i l = l.i

abbrev pub invariant-add_alts-loop-i : goal.invariant-add_alts-loop-i
invariant-add_alts-loop-i l =
    IsAdded (map rule_of l.names.rules.now) (MatchesAlts (lexer_rules (map rule_of l.names.rules.now))
    (lexer_alts (map lex_terms (take l.i (out-LexAlts l.alts).items.items)))) l.fn.states.items l.states.items l.entry l.next
