-- What a reduction's input is made of, where it is found in a text by a grammar.
use Rattle.std.specs.Prelude.{◌≡◌, ℕ, Bool, List, length, map, string_bytes}
use Rattle.grammar_tree.specs.Written.{CheckedGrammar}
use Rattle.std.specs.Str.{chars, IsUtf8}
use Rattle.grammar_tree.specs.Checked.{StartDerives}
use Rattle.grammar_tree.specs.Faults.{IsWellFormed}
use Rattle.grammar_tree.specs.Lexes.{PlacedToken}
use Rattle.lexer.specs.Tokens.{HasTokens, token_of}
use Rattle.lexer.specs.declared.token.Tokens.{Tokens}
use Rattle.normal_form.specs.declared.normal.Sym.TheVariants.{Rule}
use Rattle.normal_form.specs.NormalOf.{normal_of}
use Rattle.chart_parser.specs.Parse.{IsParse}
use Rattle.syntax_tree.specs.Nodes.{IsWhole, whole}
use Rattle.syntax_tree.specs.Preferred.{Preferred}
use Rattle.reduce_trees_mode.specs.Input.{IsInput, TreeInput}
use Rattle.reduce_trees_mode.specs.InputOf.{input_of}
use Rattle.reduce_trees_input.specs.declared.parsed.ParsedInput.{ParsedInput}

-- the tokens, as definitions see them
abbrev pub tokens_in : Tokens → List PlacedToken
tokens_in tokens = map token_of tokens.items.items

-- their kinds
abbrev pub kinds_in : List PlacedToken → List ℕ
kinds_in tokens = map (λ (t : PlacedToken). t.kind) tokens

-- The lexer is the grammar's, the text is UTF-8, these are its tokens, whose kinds the start
-- rule derives, and this is the preferred tree of all of them, for the start rule.
pub record IsParsed (grammar : CheckedGrammar) (text : List ℕ) (found : ParsedInput) : Type 0 where
  pub same_grammar : found.lexer ≡ grammar
  pub same_text : string_bytes found.text ≡ text
  pub utf8 : IsUtf8 text
  pub has_tokens : HasTokens grammar.grammar (chars text) (tokens_in found.tokens)
  pub derived : StartDerives grammar (kinds_in (tokens_in found.tokens))
  pub parse : IsParse (normal_of grammar) (Rule (normal_of grammar).start) (kinds_in (tokens_in found.tokens)) found.tree
  pub is_whole : IsWhole found.tree.form found.tree.start (whole found.tree)

-- The input is made of this text by this grammar, and its tree is the preferred one of all of its tokens.
pub record IsInputOf (grammar : CheckedGrammar) (text : List ℕ) (input : TreeInput) : Type 0 where
  pub same_grammar : input.grammar ≡ grammar
  pub same_text : input.start ≡ text
  pub is_input : IsInput input
  pub preferred : Preferred input.form (kinds_in input.tokens) input.symbol 0 (length (kinds_in input.tokens)) input.whole

-- the input of a reduction, by what was found in a text, which candidates are admitted, and whether the squeezed text is tried
abbrev pub tree_input : (found : ParsedInput) → IsWellFormed found.lexer.grammar found.lexer.start → (List ℕ → List ℕ → Bool) → Bool → TreeInput
tree_input found formed admits squeezes = input_of found.lexer formed found.tree (string_bytes found.text) found.tokens.items.items admits squeezes

-- What was found makes the input of the text, whatever is admitted.
abbrev pub MakesInputOf : CheckedGrammar → List ℕ → ParsedInput → Type 0
MakesInputOf grammar text found =
    (formed : IsWellFormed found.lexer.grammar found.lexer.start) (admits : List ℕ → List ℕ → Bool) (squeezes : Bool)
    → IsInputOf grammar text (tree_input found formed admits squeezes)
