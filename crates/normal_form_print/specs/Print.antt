-- The text of a normal form.
use Rattle.std.specs.Prelude.{ℕ, ◌+◌, not, nat_eq, List, [], ◌∷◌, ◌++◌, slice_get, filter, codes}
use Rattle.std.specs.List.{join_by, list_any}
use Rattle.std.specs.Option.{option_map_or}
use Rattle.grammar_literal.specs.Literal.{content}
use Rattle.grammar_tree.specs.Written.{Source, TokenKind}
use Rattle.grammar_tree.specs.Kinds.{visible_from}
use Rattle.normal_form.specs.declared.normal.Sym.{Sym}
use Rattle.normal_form.specs.declared.normal.Sym.TheVariants.{Kind, Set, Rule}
use Rattle.normal_form.specs.Form.{RuleForm, NormalForm}

-- an implicit token prints its literal, in quotes, and every other kind its name
abbrev pub kind_text : TokenKind → List ℕ
kind_text kind = from_source kind.source kind.name
  where
    from_source : Source → List ℕ → List ℕ
    from_source Source.implicit name = codes "'" ++ (content name ++ codes "'")
    from_source (Source.written position) name = name
    from_source Source.declared name = name

-- the text of the kind with this number
abbrev pub numbered_kind_text : List TokenKind → ℕ → List ℕ
numbered_kind_text kinds k = option_map_or kind_text (slice_get kinds k) []

-- the kinds that aren't gap kinds and aren't in the set
abbrev pub missing_kinds : List TokenKind → List ℕ → List ℕ
missing_kinds kinds ks = filter (λ k. not (list_any (λ other. nat_eq other k) ks)) (visible_from 0 kinds)

-- A set that misses no kind that isn't a gap kind is `.`; another is `~` and the one kind that it misses, or all that it misses in brackets.
abbrev pub but_text : (ℕ → List ℕ) → List ℕ → List ℕ
but_text text [] = codes "."
but_text text (k ∷ []) = codes "~" ++ text k
but_text text (k ∷ l ∷ ks) = codes "~(" ++ (join_by text (codes "|") (k ∷ l ∷ ks) ++ codes ")")

abbrev pub set_text : List TokenKind → List ℕ → List ℕ
set_text kinds ks = but_text (numbered_kind_text kinds) (missing_kinds kinds ks)

-- the text of a symbol: a rule prints its name
abbrev pub symbol_text : List TokenKind → NormalForm → Sym → List ℕ
symbol_text kinds N (Kind k) = numbered_kind_text kinds k
symbol_text kinds N (Set i) = option_map_or (set_text kinds) (slice_get N.sets i) []
symbol_text kinds N (Rule r) = option_map_or (λ name. name) (slice_get N.names r) []

-- The alternatives of a regular rule have ` | ` between them, and the symbols of each a
-- space. The others are their symbol directly followed by `?`, `*` or `+`.
abbrev pub body_text : (Sym → List ℕ) → RuleForm → List ℕ
body_text text (RuleForm.regular alts) = join_by (join_by text (codes " ")) (codes " | ") alts
body_text text (RuleForm.star s) = text s ++ codes "*"
body_text text (RuleForm.plus s) = text s ++ codes "+"
body_text text (RuleForm.opt s) = text s ++ codes "?"

-- one line for each of these rules, of which the first has the number n
abbrev pub lines_from : (Sym → List ℕ) → ℕ → List RuleForm → List ℕ
lines_from text n [] = []
lines_from text n (rule ∷ rules) = text (Rule n) ++ (codes " : " ++ (body_text text rule ++ (codes " ;\n" ++ lines_from text (n + 1) rules)))

-- the text of the normal form of a grammar with these kinds
unfoldable pub printed : List TokenKind → NormalForm → List ℕ
printed kinds N = lines_from (symbol_text kinds N) 0 N.rules
