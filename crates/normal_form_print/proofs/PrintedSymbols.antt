-- The bytes of symbols are those of their texts.
use Rattle.std.proofs.Common.{◌≡◌, ℕ, List, [], map, Option, Some, None, slice_get, refl, sym, ap, ◌∙◌, string_bytes}
use Rattle.std.specs.Prelude.{encode_utf8_all}
use Rattle.std.specs.Option.{option_map, option_map_or}
use Rattle.std.proofs.lemmas.Option.{slice_get-map}
use Rattle.grammar_tree.specs.Written.{TokenKind}
use Rattle.grammar_tree.specs.GrammarView.{kind_of}
use Rattle.normal_form.specs.declared.normal.Sym.{Sym}
use Rattle.normal_form.specs.declared.normal.Sym.TheVariants.{Kind, Set, Rule}
use Rattle.normal_form_print.specs.declared.print.Symbols.{Symbols}
use Rattle.normal_form.specs.Form.{NormalForm}
use Rattle.normal_form_print.specs.Print.{lines_from, printed, set_text, symbol_text}
use Rattle.normal_form_print.specs.inner.Printing.{kind_bytes, symbol_bytes}
use Rattle.normal_form_print.proofs.PrintLemmas.{lines_bytes}

-- a look-up in a list that is mapped
or_map : {X Y : Type 0} (f : X → Y) (h : Y → List ℕ) (o : Option X) → option_map_or (λ x. h (f x)) o [] ≡ option_map_or h (option_map f o) []
or_map f h None = refl
or_map f h (Some x) = refl

or_encode : {X : Type 0} (h : X → List ℕ) (o : Option X) → option_map_or (λ x. encode_utf8_all (h x)) o [] ≡ encode_utf8_all (option_map_or h o [])
or_encode h None = refl
or_encode h (Some x) = refl

-- the text of a set that was made before
stored : {X Y : Type 0} (f : X → List ℕ) (h : Y → List ℕ) (xs : List X) (ys : List Y) (i : ℕ) → map f xs ≡ map (λ y. encode_utf8_all (h y)) ys
    → option_map_or f (slice_get xs i) [] ≡ encode_utf8_all (option_map_or h (slice_get ys i) [])
stored f h xs ys i e =
    or_map f (λ b. b) (slice_get xs i)
    ∙ ap (λ o. option_map_or (λ b. b) o []) (sym (slice_get-map f xs i) ∙ ap (λ l. slice_get l i) e ∙ slice_get-map (λ y. encode_utf8_all (h y)) ys i)
    ∙ sym (or_map (λ y. encode_utf8_all (h y)) (λ b. b) (slice_get ys i))
    ∙ or_encode h (slice_get ys i)

symbols_same : (S : Symbols) (kinds : List TokenKind) (N : NormalForm) → map kind_of S.kinds.now ≡ kinds → S.names.now ≡ N.names
    → map string_bytes S.sets.items ≡ map (λ set. encode_utf8_all (set_text kinds set)) N.sets → (s : Sym)
    → symbol_bytes S s ≡ encode_utf8_all (symbol_text kinds N s)
symbols_same S kinds N k n t (Kind number) = ap (λ l. kind_bytes l number) k
symbols_same S kinds N k n t (Set number) = stored string_bytes (set_text kinds) S.sets.items N.sets number t
symbols_same S kinds N k n t (Rule number) =
    ap (λ l. option_map_or encode_utf8_all (slice_get l number) []) n ∙ or_encode (λ name. name) (slice_get N.names number)

-- the lines are the printed form
pub lines_are : (S : Symbols) (kinds : List TokenKind) (N : NormalForm) → map kind_of S.kinds.now ≡ kinds → S.names.now ≡ N.names
    → map string_bytes S.sets.items ≡ map (λ set. encode_utf8_all (set_text kinds set)) N.sets
    → lines_from (symbol_bytes S) 0 N.rules ≡ encode_utf8_all (printed kinds N)
unfolding printed
lines_are S kinds N k n t = lines_bytes (symbol_text kinds N) (symbol_bytes S) (symbols_same S kinds N k n t) 0 N.rules
