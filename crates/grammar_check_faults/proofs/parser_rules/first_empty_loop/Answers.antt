use Rattle.std.proofs.Common.{ℕ, Option, sym, subst}
use Rattle.grammar_tree.specs.Faults.{EmptyLoop}
use Rattle.grammar_tree.specs.GrammarView.{grammar_of}
use Rattle.grammar_check_nodes.specs.First.{IsFirstOrNone}
use Rattle.grammar_check_faults.specs.LexerFaults.{LexerLoopAt}
use Rattle.grammar_check_faults.specs.ParserFaults.{ParserLoopAt}
use Rattle.grammar_check_faults.proofs.IndexForms.{earlier_of}
use Rattle.grammar_check_faults.proofs.parser_rules.first_empty_loop.Goals as goal

pub returns : goal.returns
returns c =
    let G = grammar_of c.args.grammar.now in
    let R : Option ℕ → Type 0 = λ o. IsFirstOrNone (EmptyLoop G) o in
    subst R (sym c.earlier.ensures) (earlier_of (ParserLoopAt G) (LexerLoopAt G) c.args.parser c.args.lexer c.requires.parser c.requires.lexer)
