-- The input of a reduction, made of its parts.
use Rattle.std.specs.Prelude.{Bool, List, ℕ, map}
use Rattle.grammar_tree.specs.Written.{CheckedGrammar}
use Rattle.grammar_tree.specs.Faults.{IsWellFormed}
use Rattle.lexer.specs.declared.token.Token.{Token}
use Rattle.lexer.specs.Tokens.{token_of}
use Rattle.syntax_tree.specs.Nodes.{SyntaxTree, whole}
use Rattle.reduce_trees_mode.specs.Input.{TreeInput}

-- the input of a grammar that is well-formed, a tree over its normal form, the start's text
-- with its tokens, what is admitted, and whether the squeezed text is tried
abbrev pub input_of : (grammar : CheckedGrammar) → IsWellFormed grammar.grammar grammar.start → SyntaxTree → List ℕ → List Token → (List ℕ → List ℕ → Bool)
    → Bool → TreeInput
input_of grammar formed tree start tokens admits squeezes =
    record {
      grammar = grammar;
      formed = formed;
      form = tree.form;
      symbol = tree.start;
      start = start;
      tokens = map token_of tokens;
      whole = whole tree;
      admits = admits;
      squeezes = squeezes;
    }
