-- What a lexer is made of.
use Rattle.grammar_tree.specs.Written.{CheckedGrammar}
use Rattle.lexer.specs.declared.rules.Rules.{Rules}
use Rattle.lexer_match.specs.Alternatives.{IsNfa}
use Rattle.lexer_match.specs.Live.{AreLive}
use Rattle.lexer_nfa.specs.GrammarNfa.{IsNfaOf}
use Rattle.lexer.specs.inner.Candidates.{AreListed}
use Rattle.lexer.specs.inner.Gaps.{AreGapChars}
use Rattle.lexer_match.specs.Table.{IsTable}

-- Each rule can be read, it is known which states are live, each list has the candidates for its first character, and the table is right.
pub record IsRunnable (r : Rules) : Type 0 where
  pub nfa : IsNfa r.states.items r.alternatives.items
  pub live : AreLive r.states.items r.live.items
  pub listed : AreListed r.states.items r.alternatives.items r.by_first.items
  pub table : IsTable r.states.items r.table

-- the rules are those of the grammar, and the characters those that are gap text by themselves
pub record IsBuilt (c : CheckedGrammar) (r : Rules) : Type 0 where
  pub of_grammar : IsNfaOf c.grammar r.states.items r.alternatives.items
  pub runnable : IsRunnable r
  pub gaps : AreGapChars c.grammar r.gaps
