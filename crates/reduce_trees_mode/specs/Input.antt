-- What a reduction of trees is about: what never changes, and the states.
use Rattle.std.specs.Prelude.{◌≡◌, ℕ, Bool, List, map}
use Rattle.std.specs.Str.{chars, IsUtf8}
use Rattle.grammar_tree.specs.Written.{CheckedGrammar}
use Rattle.grammar_tree.specs.Checked.{IsChecked}
use Rattle.grammar_tree.specs.Faults.{IsWellFormed}
use Rattle.grammar_tree.specs.Lexes.{PlacedToken}
use Rattle.lexer.specs.Tokens.{HasTokens}
use Rattle.normal_form.specs.declared.normal.Sym.{Sym}
use Rattle.normal_form.specs.declared.normal.Sym.TheVariants.{Rule}
use Rattle.normal_form.specs.Form.{NormalForm}
use Rattle.normal_form.specs.NormalOf.{normal_of}
use Rattle.syntax_tree.specs.Trees.{PlainTree, kinds_of}
use Rattle.syntax_tree.specs.Nodes.{IsWhole}
use Rattle.token_print.specs.declared.style.Style.{Style}

-- What never changes. Texts are bytes, and tokens have their numbers from 0.
pub record TreeInput : Type 0 where
  pub grammar : CheckedGrammar
  pub formed : IsWellFormed grammar.grammar grammar.start
  -- the normal form, and the symbol that a tree is for
  pub form : NormalForm
  pub symbol : Sym
  -- the start's text, its tokens, and the tree of all of them
  pub start : List ℕ
  pub tokens : List PlacedToken
  pub whole : PlainTree
  -- which candidates are admitted, by the tokens that are kept and the text
  pub admits : List ℕ → List ℕ → Bool
  -- whether the squeezed text of the whole is tried
  pub squeezes : Bool

-- The form is the grammar's, the tokens are those of the text, and the tree is that of all tokens, for the start rule.
pub record IsInput (input : TreeInput) : Type 0 where
  pub checked : IsChecked input.grammar
  pub form_is : input.form ≡ normal_of input.grammar
  pub symbol_is : input.symbol ≡ Rule input.form.start
  pub utf8 : IsUtf8 input.start
  pub has_tokens : HasTokens input.grammar.grammar (chars input.start) input.tokens
  pub is_whole : IsWhole input.form input.symbol input.whole
  pub kinds_are : kinds_of input.whole ≡ map (λ (t : PlacedToken). t.kind) input.tokens

-- A state of a reduction of trees: the tree that is left, and how it is printed.
pub record TreeState : Type 0 where
  pub tree : PlainTree
  pub style : Style
