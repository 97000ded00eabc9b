-- The parts of a reduction are those of an input.
use Rattle.std.proofs.Common.{◌≡◌, ◌≤◌, ℕ, Bool, List, length, map, ap}
use Rattle.std.specs.Str.{chars}
use Rattle.grammar_tree.specs.Written.{CheckedGrammar}
use Rattle.grammar_tree.specs.Checked.{IsChecked}
use Rattle.grammar_tree.specs.Faults.{IsWellFormed}
use Rattle.grammar_tree.specs.Lexes.{PlacedToken}
use Rattle.lexer.specs.declared.token.Token.{Token}
use Rattle.lexer.specs.Tokens.{HasTokens, token_of}
use Rattle.normal_form.specs.declared.normal.Sym.TheVariants.{Rule}
use Rattle.normal_form.specs.Form.{NormalForm}
use Rattle.normal_form.specs.NormalOf.{normal_of}
use Rattle.syntax_tree.specs.Trees.{kinds_of}
use Rattle.syntax_tree.specs.Nodes.{SyntaxTree, whole}
use Rattle.token_print.specs.Readings.{TokensAreFound}
use Rattle.reduce_step.specs.Limits.{text_limit}
use Rattle.reduce_trees_mode.specs.inner.FormedProp.{well_formed_prop}
use Rattle.reduce_trees_mode.specs.InputOf.{input_of}
use Rattle.reduce_trees.specs.inner.Parts.{BelongTogether}

module _ (grammar : CheckedGrammar) (tree : SyntaxTree) (start : List ℕ) (tokens : List Token) (admits : List ℕ → List ℕ → Bool) (squeezes : Bool) where
  pub belong : (formed : IsWellFormed grammar.grammar grammar.start) (compat : NormalForm) → TokensAreFound → IsChecked grammar → length start ≤ text_limit
      → HasTokens grammar.grammar (chars start) (map token_of tokens) →
      tree.form ≡ normal_of grammar → tree.start ≡ Rule tree.form.start → kinds_of (whole tree) ≡ map (λ (t : PlacedToken). t.kind) (map token_of tokens)
      → compat ≡ tree.form →
      BelongTogether (input_of grammar formed tree start tokens admits squeezes) compat
  belong formed compat found checked short has form symbol kinds same =
      record {
        kinds = ap (λ kinds. record { grammar = grammar.grammar; kinds = kinds; start = grammar.start }) checked.numbered;
        small = checked.small;
        joined =
            record {
              form_is = form;
              symbol_is = symbol;
              tokens_are = (found grammar.grammar grammar.start formed (chars start) (map token_of tokens)).1 has;
              kinds_are = kinds;
            };
        compat_is = same;
        short = short;
      }

  pub one_input : (formed other : IsWellFormed grammar.grammar grammar.start)
      → input_of grammar formed tree start tokens admits squeezes ≡ input_of grammar other tree start tokens admits squeezes
  one_input formed other =
      ap (λ (f : IsWellFormed grammar.grammar grammar.start). input_of grammar f tree start tokens admits squeezes)
      (well_formed_prop grammar.grammar grammar.start formed other)
