-- A word has one name at most.
use Rattle.std.proofs.Common.{◌≡◌, List, refl, ap}
use Rattle.grammar_reader_words.specs.declared.word.Word.{Word}
use Rattle.grammar_reader_notation.specs.declared.fault.What.{What}
use Rattle.grammar_reader_notation.specs.declared.fault.ReadFault.TheVariants as f
use Rattle.grammar_reader_notation.specs.Naming.{Fits, FitsFirst, this, later, nested_too_deep, unsupported, syntax, NamedOnce}

pub same_first : {before : List Word} {current : Word} {rows : List What} {what other : What} → FitsFirst before current rows what
    → FitsFirst before current rows other → what ≡ other
same_first (this a) (this b) = refl
same_first (this a) (later h b) = absurd (h a)
same_first (later h a) (this b) = absurd (h b)
same_first (later h a) (later k b) = same_first a b

pub first_fits : {before : List Word} {current : Word} {rows : List What} {what : What} → FitsFirst before current rows what → Fits before current what
first_fits (this a) = a
first_fits (later h a) = first_fits a

pub one_name : NamedOnce
one_name before current _ _ (nested_too_deep a) (nested_too_deep b) = refl
one_name before current _ _ (nested_too_deep a) (unsupported h b) = absurd (h a)
one_name before current _ _ (nested_too_deep a) (syntax h b) = absurd (h a)
one_name before current _ _ (unsupported h a) (nested_too_deep b) = absurd (h b)
one_name before current _ _ (unsupported h a) (unsupported k b) = ap (λ what. f.Unsupported what current.offset) (same_first a b)
one_name before current _ _ (unsupported {what = what} h a) (syntax k b) = absurd (b what (first_fits a))
one_name before current _ _ (syntax h a) (nested_too_deep b) = absurd (h b)
one_name before current _ _ (syntax h a) (unsupported {what = what} k b) = absurd (a what (first_fits b))
one_name before current _ _ (syntax h a) (syntax k b) = refl
