-- What contracts see of rules, grammars and kinds.
use Rattle.std.specs.Prelude.{map}
use Rattle.grammar_tree.specs.Written.{WrittenRule, WrittenGrammar, Source, TokenKind, written_alts, lexer_alts}
use Rattle.grammar_tree.specs.View.{parser_alts, lex_alts}
use Rattle.grammar_tree.specs.declared.rule.Rule.{Rule}
use Rattle.grammar_tree.specs.declared.rule.Grammar.{Grammar}
use Rattle.grammar_tree.specs.declared.rule.KindSource.{KindSource}
use Rattle.grammar_tree.specs.declared.rule.Kind.{Kind}

abbrev pub rule_of : Rule → WrittenRule
rule_of (Rule.Parser name alts) = WrittenRule.parser_rule (record { name = name; alts = written_alts (parser_alts alts) })
rule_of (Rule.Lexer name fragment gap alts) =
    WrittenRule.lexer_rule (record { name = name; fragment = fragment; gap = gap; alts = lexer_alts (lex_alts alts) })

abbrev pub grammar_of : Grammar → WrittenGrammar
grammar_of g = record { name = g.name; tokens = g.tokens.items; rules = map rule_of g.rules.items }

abbrev pub source_of : KindSource → Source
source_of KindSource.Implicit = Source.implicit
source_of (KindSource.Written place) = Source.written place
source_of KindSource.Declared = Source.declared

abbrev pub kind_of : Kind → TokenKind
kind_of k = record { name = k.name; gap = k.gap; source = source_of k.source }
