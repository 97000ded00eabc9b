-- What the code of this crate decides of a term by its form alone.
use Rattle.std.specs.Prelude.{Bool, true, false}
use Rattle.grammar_tree.specs.Written.{WrittenTerm}
use Rattle.normal_form.specs.declared.normal.Sym.{Sym}
use Rattle.grammar_tree.specs.declared.suffix.Suffix.{Suffix}
use Rattle.grammar_tree.specs.declared.suffix.Suffix.TheVariants as s
use Rattle.normal_form.specs.Form.{RuleForm}

-- each term but `EOF` has a symbol
abbrev pub has_symbol : WrittenTerm → Bool
has_symbol WrittenTerm.eof = false
has_symbol _ = true

-- the rule of a term with a suffix, where the term without it has this symbol
abbrev pub suffix_form : Suffix → Sym → RuleForm
suffix_form s.Question x = RuleForm.opt x
suffix_form s.Star x = RuleForm.star x
suffix_form s.Plus x = RuleForm.plus x
