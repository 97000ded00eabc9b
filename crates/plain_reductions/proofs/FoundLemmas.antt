-- What was found in a text makes the parts of a reduction.
use Rattle.std.proofs.Common.{◌≤◌, ℕ, List, length, true, false, sym, subst}
use Rattle.grammar_tree.specs.Checked.{IsChecked}
use Rattle.grammar_tree.specs.Written.{CheckedGrammar}
use Rattle.reduce_step.specs.Limits.{text_limit}
use Rattle.reduce_trees_input.specs.Parsed.{IsParsed, MakesInputOf}
use Rattle.reduce_trees_input.specs.declared.parsed.ParsedInput.{ParsedInput}
use Rattle.plain_reductions.specs.Found.{IsFound}

pub is_found : (c : CheckedGrammar) (text : List ℕ) (found : ParsedInput) → IsChecked c → length text ≤ text_limit → IsParsed c text found
    → MakesInputOf c text found → IsFound found
is_found c text found is short parsed makes = record {
  checked = subst IsChecked (sym parsed.same_grammar) is;
  parsed =
      subst (λ (t : List ℕ). IsParsed found.lexer t found) (sym parsed.same_text)
      (subst (λ (g : CheckedGrammar). IsParsed g text found) (sym parsed.same_grammar) parsed);
  kinds = (makes (subst IsChecked (sym parsed.same_grammar) is).well_formed (λ kept other. true) false).is_input.kinds_are;
  short = subst (λ (t : List ℕ). length t ≤ text_limit) (sym parsed.same_text) short;
}
