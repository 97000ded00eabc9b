use Rattle.std.proofs.Common.{◌≡◌, map, take}
use Rattle.grammar_tree.specs.declared.parser_term.ParserAlts.{out-ParserAlts}
use Rattle.grammar_tree.specs.declared.parser_term.ParserTerms.{out-ParserTerms}
use Rattle.grammar_tree.specs.View.{parser_term, parser_terms}
use Rattle.grammar_tree.proofs.parser_term.+copy.Given as goal

abbrev pub invariant-ParserTerms::copy-loop-i : goal.invariant-ParserTerms::copy-loop-i
invariant-ParserTerms::copy-loop-i l = map parser_term l.items.items ≡ map parser_term (take l.i (out-ParserTerms l.self).items.items)

abbrev pub invariant-ParserAlts::copy-loop-i : goal.invariant-ParserAlts::copy-loop-i
invariant-ParserAlts::copy-loop-i l = map parser_terms l.items.items ≡ map parser_terms (take l.i (out-ParserAlts l.self).items.items)
