-- Terms of lexer rules as patterns over characters.
use Rattle.std.specs.Prelude.{ℕ, suc, Bool, true, false, List, [], ◌∷◌, map}
use Rattle.grammar_tree.specs.Written.{LexerTerm, LexerSeq, LexerAlts, WrittenRule}
use Rattle.grammar_tree.specs.Kinds.{same_text}
use Rattle.cases_languages.specs.Patterns.{Pattern}

-- exactly this text
abbrev pub spelled_text : List ℕ → Pattern
spelled_text [] = Pattern.empty
spelled_text (c ∷ text) = Pattern.seq (Pattern.one ((c, c) ∷ [])) (spelled_text text)

abbrev pub is_lexer_rule_named : WrittenRule → List ℕ → Bool
is_lexer_rule_named (WrittenRule.parser_rule r) n = false
is_lexer_rule_named (WrittenRule.lexer_rule r) n = same_text r.name n

abbrev pub or_rule : Bool → Pattern → Pattern → Pattern
or_rule true p q = Pattern.alt p q
or_rule false p q = q

-- the lexer rules of this name, the first of the rules having the number that is given
abbrev pub named_from : ℕ → List WrittenRule → List ℕ → Pattern
named_from i [] n = Pattern.never
named_from i (rule ∷ rules) n = or_rule (is_lexer_rule_named rule n) (Pattern.rule i) (named_from (suc i) rules n)

-- a term among these rules, whose numbers are their positions
abbrev mutual
  pub spelled : List WrittenRule → LexerTerm → Pattern
  spelled rules (LexerTerm.literal t) = spelled_text t
  spelled rules (LexerTerm.set s) = Pattern.one s
  spelled rules (LexerTerm.name n) = named_from 0 rules n
  spelled rules (LexerTerm.block a) = spelled_alts rules a
  spelled rules (LexerTerm.opt t) = Pattern.alt Pattern.empty (spelled rules t)
  spelled rules (LexerTerm.star t) = Pattern.alt Pattern.empty (Pattern.plus (spelled rules t))
  spelled rules (LexerTerm.plus t) = Pattern.plus (spelled rules t)
  spelled rules (LexerTerm.short s) = Pattern.alt Pattern.empty (Pattern.plus (Pattern.one s))

  pub spelled_seq : List WrittenRule → LexerSeq → Pattern
  spelled_seq rules LexerSeq.done = Pattern.empty
  spelled_seq rules (LexerSeq.next t s) = Pattern.seq (spelled rules t) (spelled_seq rules s)

  pub spelled_alts : List WrittenRule → LexerAlts → Pattern
  spelled_alts rules LexerAlts.none = Pattern.never
  spelled_alts rules (LexerAlts.or s a) = Pattern.alt (spelled_seq rules s) (spelled_alts rules a)

-- what a lexer rule spans; a parser rule spans nothing in a text
abbrev pub spelled_rule : List WrittenRule → WrittenRule → Pattern
spelled_rule rules (WrittenRule.parser_rule r) = Pattern.never
spelled_rule rules (WrittenRule.lexer_rule r) = spelled_alts rules r.alts

abbrev pub spelled_rules : List WrittenRule → List Pattern
spelled_rules rules = map (spelled_rule rules) rules
