use Rattle.std.proofs.Common.{Some, refl, sym, ap, ◌∙◌, arith}
use Rattle.grammar_tree.specs.GrammarView.{rule_of}
use Rattle.grammar_tree.specs.View.{lex_alts}
use Rattle.grammar_tree.specs.Written.{lexer_alts}
use Rattle.lexer_nfa.proofs.Compiled.{written_at}
use Rattle.lexer_nfa.proofs.names.NamedRules.alternatives.Goals as goal

pub returns-in-Lexer-clause-found : goal.returns-in-Lexer-clause-found
returns-in-Lexer-clause-found c =
    let at = written_at c.args.self.now.rules.now c.args.index c.index-self-index.result (omega arith) c.index-self-index.is in (
      record { name = c.in-Lexer.name; fragment = c.in-Lexer.fragment; gap = c.in-Lexer.gap; alts = lexer_alts (lex_alts c.in-Lexer.alts) },
      at
          ∙ ap (λ r. Some (rule_of r)) (c.index-self-index.is ∙ c.in-Lexer.is),
      refl,
    )

pub returns-in-Parser-clause-missing : goal.returns-in-Parser-clause-missing
returns-in-Parser-clause-missing c rule e =
    let at =
    written_at c.args.self.now.rules.now c.args.index c.index-self-index.result (omega arith) c.index-self-index.is
    ∙ ap (λ r. Some (rule_of r)) (c.index-self-index.is ∙ c.in-Parser.is) in
    let bad = sym at ∙ e in absurd (cc)
