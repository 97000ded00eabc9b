use Rattle.std.proofs.Common.{◌≡◌, map, take}
use Rattle.grammar_tree.specs.declared.lex_term.LexAlts.{out-LexAlts}
use Rattle.grammar_tree.specs.declared.lex_term.LexTerms.{out-LexTerms}
use Rattle.grammar_tree.specs.View.{lex_term, lex_terms}
use Rattle.grammar_tree.proofs.lex_term.+copy.Given as goal

abbrev pub invariant-LexTerms::copy-loop-i : goal.invariant-LexTerms::copy-loop-i
invariant-LexTerms::copy-loop-i l = map lex_term l.items.items ≡ map lex_term (take l.i (out-LexTerms l.self).items.items)

abbrev pub invariant-LexAlts::copy-loop-i : goal.invariant-LexAlts::copy-loop-i
invariant-LexAlts::copy-loop-i l = map lex_terms l.items.items ≡ map lex_terms (take l.i (out-LexAlts l.self).items.items)
