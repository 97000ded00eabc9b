-- What holds of the parts of a reduction.
use Rattle.std.specs.Prelude.{◌≡◌, ◌≤◌, ◌<◌, ◌^◌, length}
use Rattle.std.specs.Coded.{Coded-set}
use Rattle.std.proofs.Props.{props}
use Rattle.grammar_tree.specs.Written.{CheckedGrammar}
use Rattle.grammar_tree.specs.inner.Code.{checked_coded}
use Rattle.grammar_tree.specs.Kinds.{kinds_of}
use Rattle.grammar_tree.specs.Size.{grammar_size}
use Rattle.normal_form.specs.Form.{NormalForm}
use Rattle.reduce_step.specs.Limits.{text_limit}
use Rattle.reduce_trees_mode.specs.Input.{TreeInput}
use Rattle.reduce_trees_mode.specs.InputParts.{AreJoined}
use Rattle.reduce_trees_mode.specs.inner.InputParts.{form_set, joined_prop}

-- the grammar with the kinds that it has
abbrev pub with_kinds : CheckedGrammar → CheckedGrammar
with_kinds grammar = record { grammar = grammar.grammar; kinds = kinds_of grammar.grammar; start = grammar.start }

-- The parts belong together: the form, the tokens and the tree are those of the grammar and the start,
-- and what fits which slot is said of the same form. The start has at most 1,048,576 bytes.
pub record BelongTogether (input : TreeInput) (compat : NormalForm) : Type 0 where
  pub kinds : input.grammar ≡ with_kinds input.grammar
  pub small : grammar_size input.grammar.grammar < 2 ^ 32
  pub joined : AreJoined input
  pub compat_is : compat ≡ input.form
  pub short : length input.start ≤ text_limit

-- That they do is a proposition.
grammar_set : IsSet CheckedGrammar
grammar_set = Coded-set checked_coded

pub together_prop : (input : TreeInput) (compat : NormalForm) → IsProp (BelongTogether input compat)
together_prop input compat = hlevel (props, grammar_set, form_set, joined_prop)
