-- What contracts see of parser rules that are lent.
use Rattle.std.specs.Prelude.{◌<◌, ◌^◌, List, length, map}
use Rattle.grammar_tree.specs.Written.{ParserRule, WrittenGrammar, written_alts}
use Rattle.grammar_tree.specs.Derives.{Alts, resolved_alts}
use Rattle.grammar_tree.specs.Corners.{normal_count_from}
use Rattle.grammar_tree.specs.View.{parser_alts}
use Rattle.normal_form_build.specs.declared.parser_rule.ParserRuleRef.{ParserRuleRef}

-- a parser rule that is lent
abbrev pub parser_rule : ParserRuleRef → ParserRule
parser_rule r = record { name = r.name.now; alts = written_alts (parser_alts r.alts.now) }

-- the alternatives of parser rules that are lent, in a grammar
abbrev pub bodies_of : WrittenGrammar → List ParserRuleRef → List Alts
bodies_of G rules = map (λ (r : ParserRule). resolved_alts G r.alts) (map parser_rule rules)

-- Parser rules that are lent, and the rules that they make in a normal form, have numbers below 2^32.
pub record HaveNumbers (G : WrittenGrammar) (rules : List ParserRuleRef) : Type 0 where
  pub few : normal_count_from 0 (bodies_of G rules) < 2 ^ 32
  pub small : length rules < 2 ^ 32
