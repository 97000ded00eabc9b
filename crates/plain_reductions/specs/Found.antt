-- What was found in a text, where it makes the parts of a reduction.
use Rattle.std.specs.Prelude.{◌≡◌, ◌≤◌, length, string_bytes}
use Rattle.grammar_tree.specs.Checked.{IsChecked}
use Rattle.syntax_tree.specs.Trees.{kinds_of}
use Rattle.syntax_tree.specs.Nodes.{whole}
use Rattle.reduce_step.specs.Limits.{text_limit}
use Rattle.reduce_trees_input.specs.Parsed.{IsParsed, kinds_in, tokens_in}
use Rattle.reduce_trees_input.specs.declared.parsed.ParsedInput.{ParsedInput}

-- It is of its own grammar, which is checked, and of its own text, and the tree is that of all of its tokens.
pub record IsFound (found : ParsedInput) : Type 0 where
  pub checked : IsChecked found.lexer
  pub parsed : IsParsed found.lexer (string_bytes found.text) found
  pub kinds : kinds_of (whole found.tree) ≡ kinds_in (tokens_in found.tokens)
  pub short : length (string_bytes found.text) ≤ text_limit
