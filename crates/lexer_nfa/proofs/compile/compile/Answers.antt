use Rattle.std.proofs.Common.{◌≡◌, ℕ, length, map, subst, arith}
use Rattle.grammar_tree.specs.GrammarView.{rule_of}
use Rattle.grammar_tree.specs.Kinds.{lexer_rules}
use Rattle.grammar_tree.specs.Matches.{MatchesSeq}
use Rattle.grammar_tree.specs.View.{lex_terms}
use Rattle.grammar_tree.specs.Written.{lexer_seq}
use Rattle.lexer_nfa.specs.inner.Compile.{AreExpanded}
use Rattle.lexer_nfa.proofs.Expanded.{compiled}
use Rattle.lexer_nfa.proofs.compile.compile.Goals as goal

pub returns : goal.returns
returns c =
    let P : ℕ → Type 0 =
    λ n. AreExpanded (map rule_of c.args.names.now.rules.now) c.add_terms.new.states.items c.expand_all.new.states.items n
    (length c.expand_all.new.states.items) in
    let first : c.len-first.result ≡ length c.args.states.now.items = omega (arith, c.len-first.ensures) in
    compiled (MatchesSeq (lexer_rules (map rule_of c.args.names.now.rules.now)) (lexer_seq (lex_terms c.args.terms.now))) c.args.states.now.items
    c.add_terms.new.states.items c.expand_all.new.states.items c.in_ok-entry.entry c.args.next c.in_ok-entry.ensures (subst P first c.in_ok-expand_all.ensures)
