-- What joins the parts of an input, as a proposition, so that a type that holds these parts can keep it.
use Rattle.std.specs.Prelude.{◌≡◌, Some, map}
use Rattle.std.specs.Str.{chars, IsUtf8}
use Rattle.grammar_tree.specs.Checked.{IsChecked}
use Rattle.grammar_tree.specs.Lexes.{PlacedToken}
use Rattle.token_print.specs.Reading.{tokens_in}
use Rattle.normal_form.specs.declared.normal.Sym.TheVariants.{Rule}
use Rattle.normal_form.specs.NormalOf.{normal_of}
use Rattle.syntax_tree.specs.Trees.{kinds_of}
use Rattle.syntax_tree.specs.Nodes.{IsWhole}
use Rattle.reduce_trees_mode.specs.Input.{IsInput, TreeInput}

-- The form is the grammar's, trees are for its start rule, the tokens are those of the text, and the tree has their kinds.
pub record AreJoined (input : TreeInput) : Type 0 where
  pub form_is : input.form ≡ normal_of input.grammar
  pub symbol_is : input.symbol ≡ Rule input.form.start
  pub tokens_are : tokens_in input.grammar.grammar (chars input.start) ≡ Some input.tokens
  pub kinds_are : kinds_of input.whole ≡ map (λ (t : PlacedToken). t.kind) input.tokens

-- Parts that are joined are an input, where the grammar is checked, the text is UTF-8, and
-- the tree is that of some input's tokens; and so are the parts of an input.
pub record JoinsInput (input : TreeInput) : Type 0 where
  pub is : IsChecked input.grammar → IsUtf8 input.start → IsWhole input.form input.symbol input.whole → AreJoined input → IsInput input
  pub joined : IsInput input → AreJoined input

abbrev pub PartsJoin : Type 0
PartsJoin = (input : TreeInput) → JoinsInput input
