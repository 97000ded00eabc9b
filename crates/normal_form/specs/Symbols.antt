-- The symbols of a normal form.
use Rattle.std.specs.Prelude.{◌≡◌, ◌<◌, ⊤, List, length}
use Rattle.std.specs.List.{Contains}
use Rattle.normal_form.specs.declared.normal.Sym.{Sym}
use Rattle.normal_form.specs.declared.normal.Sym.TheVariants.{Kind, Set, Rule}
use Rattle.normal_form.specs.Form.{RuleForm, NormalForm}

-- The symbol is a kind, or the number of a set or of a rule of the form. A kind has no
-- bound here: which kinds there are is the grammar's matter and not the form's.
abbrev pub IsSymbolOf : NormalForm → Sym → Type 0
IsSymbolOf N (Kind k) = ⊤
IsSymbolOf N (Set i) = i < length N.sets
IsSymbolOf N (Rule r) = r < length N.rules

-- The rule has the symbol in one of its alternatives, or it is a star, plus or optional of the symbol.
abbrev pub HasSymbol : RuleForm → Sym → Type 0
HasSymbol (RuleForm.regular alts) s = (alt : List Sym) × Contains alts alt × Contains alt s
HasSymbol (RuleForm.star t) s = t ≡ s
HasSymbol (RuleForm.plus t) s = t ≡ s
HasSymbol (RuleForm.opt t) s = t ≡ s
