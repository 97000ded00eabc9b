-- The bytes of symbols, while a normal form is printed.
use Rattle.std.specs.Prelude.{ℕ, List, [], map, slice_get, string_bytes, encode_utf8_all}
use Rattle.std.specs.Option.{option_map_or}
use Rattle.grammar_tree.specs.Written.{TokenKind}
use Rattle.grammar_tree.specs.GrammarView.{kind_of}
use Rattle.normal_form.specs.declared.normal.Sym.{Sym}
use Rattle.normal_form.specs.declared.normal.Sym.TheVariants.{Kind, Set, Rule}
use Rattle.normal_form_print.specs.declared.print.Symbols.{Symbols}
use Rattle.normal_form_print.specs.Print.{numbered_kind_text}

abbrev pub kind_bytes : List TokenKind → ℕ → List ℕ
kind_bytes kinds k = encode_utf8_all (numbered_kind_text kinds k)

abbrev pub symbol_bytes : Symbols → Sym → List ℕ
symbol_bytes symbols (Kind k) = kind_bytes (map kind_of symbols.kinds.now) k
symbol_bytes symbols (Set i) = option_map_or string_bytes (slice_get symbols.sets.items i) []
symbol_bytes symbols (Rule r) = option_map_or encode_utf8_all (slice_get symbols.names.now r) []
