-- What one word makes: a term with a suffix, a reference, and whether it is a name.
use Rattle.std.specs.Prelude.{Bool, true, false, Option, Some, None, cond}
use Rattle.grammar_tree.specs.Written.{Reference, WrittenTerm}
use Rattle.grammar_tree.specs.View.{token_ref}
use Rattle.grammar_tree.specs.declared.parser_term.TokenRef.{TokenRef}
use Rattle.grammar_reader_words.specs.declared.word.Word.{Word}
use Rattle.grammar_reader_words.specs.declared.word.Word.TheVariants as w
use Rattle.grammar_reader_notation.specs.Notation.{is_eof}
use Rattle.grammar_tree.specs.declared.suffix.Suffix.{Suffix}
use Rattle.grammar_tree.specs.declared.suffix.Suffix.TheVariants as s

-- the term with the suffix
abbrev pub suffixed : Suffix → WrittenTerm → WrittenTerm
suffixed s.Question t = WrittenTerm.opt t
suffixed s.Star t = WrittenTerm.star t
suffixed s.Plus t = WrittenTerm.plus t

abbrev pub is_name : Word → Bool
is_name (w.Upper n) = true
is_name (w.Lower n) = true
is_name _ = false

-- the reference after `~`
abbrev pub reference : Word → Option Reference
reference (w.Literal n) = Some (Reference.literal n)
reference (w.Upper n) = cond (is_eof n) None (Some (Reference.name n))
reference _ = None

abbrev pub reference_of : Option TokenRef → Option Reference
reference_of (Some r) = Some (token_ref r)
reference_of None = None
