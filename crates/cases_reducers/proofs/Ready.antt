-- What was found in a text is ready to be reduced.
use Rattle.std.proofs.Common.{◌≡◌, ℕ, List, map, true, false, sym, subst}
use Rattle.std.specs.Prelude.{string_bytes}
use Rattle.std.specs.Str.{chars}
use Rattle.grammar_tree.specs.Checked.{IsChecked}
use Rattle.grammar_tree.specs.Lexes.{PlacedToken}
use Rattle.grammar_tree.specs.Written.{CheckedGrammar}
use Rattle.lexer.specs.Tokens.{HasTokens, token_of}
use Rattle.normal_form.specs.declared.normal.Sym.TheVariants.{Rule}
use Rattle.normal_form.specs.NormalOf.{normal_of}
use Rattle.syntax_tree.specs.Trees.{kinds_of}
use Rattle.syntax_tree.specs.Nodes.{whole}
use Rattle.reduce_trees_mode.specs.Input.{IsInput}
use Rattle.reduce_trees_input.specs.Parsed.{IsParsed, MakesInputOf, tree_input}
use Rattle.reduce_trees_input.specs.declared.parsed.ParsedInput.{ParsedInput}

module _ (grammar : CheckedGrammar) (text : List ℕ) (found : ParsedInput) (checked : IsChecked grammar) (parsed : IsParsed grammar text found) where
  pub has_checked : IsChecked found.lexer
  has_checked = subst IsChecked (sym parsed.same_grammar) checked

  module _ (makes : MakesInputOf grammar text found) where
    input : IsInput (tree_input found has_checked.well_formed (λ kept printed. true) false)
    input = (makes has_checked.well_formed (λ kept printed. true) false).is_input

    pub has_tokens : HasTokens found.lexer.grammar (chars (string_bytes found.text)) (map token_of found.tokens.items.items)
    has_tokens = input.has_tokens

    pub has_form : found.tree.form ≡ normal_of found.lexer
    has_form = input.form_is

    pub has_symbol : found.tree.start ≡ Rule found.tree.form.start
    has_symbol = input.symbol_is

    pub has_kinds : kinds_of (whole found.tree) ≡ map (λ (t : PlacedToken). t.kind) (map token_of found.tokens.items.items)
    has_kinds = input.kinds_are
