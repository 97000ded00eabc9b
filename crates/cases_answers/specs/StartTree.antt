-- The trees of lists of kinds, and the kinds of texts.
use Rattle.std.specs.Prelude.{◌≡◌, ℕ, List, Option, MatchOption, map}
use Rattle.grammar_tree.specs.Written.{WrittenGrammar}
use Rattle.lexer.specs.Tokens.{HasTokens, token_of}
use Rattle.lexer.specs.declared.token.Token.{Token}
use Rattle.normal_form.specs.declared.normal.Sym.TheVariants.{Rule}
use Rattle.normal_form.specs.Form.{NormalForm}
use Rattle.normal_form.specs.NormalDerives.{NormalDerives}
use Rattle.syntax_tree.specs.Nodes.{SyntaxTree}
use Rattle.chart_parser.specs.Parse.{IsParse}

-- The answer is the preferred tree of the kinds, from the start rule; none where that doesn't derive them.
abbrev pub IsStartTree : NormalForm → List ℕ → Option SyntaxTree → Type 0
IsStartTree N kinds answer = MatchOption answer (¬ NormalDerives N (Rule N.start) kinds) (IsParse N (Rule N.start) kinds)

-- the kinds of tokens
abbrev pub kinds_in : List Token → List ℕ
kinds_in tokens = map (λ (t : Token). t.kind) tokens

-- The text, a list of characters, has tokens of these kinds.
abbrev pub HasKinds : WrittenGrammar → List ℕ → List ℕ → Type 0
HasKinds G text kinds = (tokens : List Token) × HasTokens G text (map token_of tokens) × (kinds ≡ kinds_in tokens)
