-- Why a start wasn't accepted, and the lines that are named.
use Rattle.std.proofs.Common.{◌≡◌, ℕ, true, List, ◌++◌, Option, Some, None, length, map, find, refl, sym, ap, ◌∙◌, append_assoc}
use Rattle.std.proofs.lemmas.List.{map-append}
use Rattle.std.proofs.lemmas.Simd.{map-map}
use Rattle.std.specs.Option.{option_to_list}
use Rattle.std.specs.Prelude.{nat_lt, option_map}
use Rattle.keep_guard.specs.Keep.{holds_all}
use Rattle.reduce_core.specs.Lines.{lines_of}
use Rattle.command_ends.specs.declared.status.Refusal.{Refusal}
use Rattle.command_ends.specs.declared.status.Refusal.TheVariants.{Memory, KeepMissing, BeyondLines}
use Rattle.command_ends.specs.Status.{IsBeyondRefusal, KeepsFail}
use Rattle.command_words.specs.Commands.{ReduceOptions}
use Rattle.command_words.specs.Lines.{protects_read, span_read}
use Rattle.command_words.specs.Options.{LineSpan}
use Rattle.command_words.specs.declared.commands.LineSpan.{LineSpan as LineSpanRead}
use Rattle.command_words.specs.declared.commands.ProtectLine.{ProtectLine}
use Rattle.line_guard.specs.declared.wish.Wish.{Wish}
use Rattle.line_guard.specs.declared.wish.Wish.TheVariants as wish
use Rattle.command_reduce_calls.specs.Stays.{StaysFail, first_beyond, first_beyond_start, lasts_of, wishes_of}

-- why the keep texts aren't held
pub keeps_fail : (options : ReduceOptions) (start : List ℕ) (refusal : Refusal) → KeepsFail options.keeps start refusal → StaysFail options start refusal
keeps_fail options start (Memory _) why = tt
keeps_fail options start (KeepMissing line) why = why
keeps_fail options start _ why = absurd why

-- the refusal that names the first line that is beyond the last
pub beyond_fails : (options : ReduceOptions) (start : List ℕ) (last : ℕ) (refusal : Refusal) → holds_all options.keeps start ≡ true
    → first_beyond_start options.protects start ≡ Some last → IsBeyondRefusal last (length (lines_of start)) refusal → StaysFail options start refusal
beyond_fails options start last (Memory _) kept beyond is = tt
beyond_fails options start last (BeyondLines line) kept beyond is = (last, length (lines_of start), (kept, refl, beyond), is)
beyond_fails options start last _ kept beyond is = absurd is

-- the last lines of these, as the command line has them
only-read : (only : Option LineSpanRead)
    → map (λ (span : LineSpan). span.last) (option_to_list (option_map span_read only)) ≡ map (λ (span : LineSpanRead). span.last) (option_to_list only)
only-read None = refl
only-read (Some span) = refl

lasts-are : (protects : ProtectLine)
    → lasts_of (protects_read protects)
    ≡ map (λ (span : LineSpanRead). span.last) protects.lines.items ++ map (λ (span : LineSpanRead). span.last) (option_to_list protects.only)
lasts-are protects =
    let spans : List LineSpanRead = protects.lines.items in
    let last : LineSpan → ℕ = λ span. span.last in
    map-append last (map span_read spans) (option_to_list (option_map span_read protects.only))
    ∙ ap (λ (l : List ℕ). l ++ map last (option_to_list (option_map span_read protects.only))) (map-map last span_read spans)
    ∙ ap (λ (l : List ℕ). map (λ (span : LineSpanRead). span.last) spans ++ l) (only-read protects.only)

pub lasts-read : (protects : ProtectLine) (lines : ℕ)
    → find (λ last. nat_lt lines last) (map (λ (span : LineSpanRead). span.last) protects.lines.items
    ++ map (λ (span : LineSpanRead). span.last) (option_to_list protects.only)) ≡ first_beyond (protects_read protects) lines
lasts-read protects lines = ap (λ (l : List ℕ). find (λ last. nat_lt lines last) l) (sym (lasts-are protects))

only-wish : (only : Option LineSpanRead)
    → map (λ (span : LineSpan). wish.Only span.first span.last) (option_to_list (option_map span_read only))
    ≡ map (λ (span : LineSpanRead). wish.Only span.first span.last) (option_to_list only)
only-wish None = refl
only-wish (Some span) = refl

-- what is wished for, as the command line has it
pub wishes-read : (protects : ProtectLine) (lines all : List Wish)
    → lines ≡ map (λ (span : LineSpanRead). wish.Lines span.first span.last) protects.lines.items
    → all ≡ lines ++ map (λ text. wish.Holding text.now) protects.texts.items
    → all ++ map (λ (span : LineSpanRead). wish.Only span.first span.last) (option_to_list protects.only) ≡ wishes_of (protects_read protects)
wishes-read protects lines all first then =
    let spans : List LineSpanRead = protects.lines.items in
    let only : List Wish = map (λ (span : LineSpanRead). wish.Only span.first span.last) (option_to_list protects.only) in
    let held : List Wish = map (λ text. wish.Holding text.now) protects.texts.items in
    ap (λ (l : List Wish). l ++ only) then ∙ append_assoc lines held only
    ∙ ap (λ (l : List Wish). l ++ (held ++ only)) (first ∙ sym (map-map (λ (span : LineSpan). wish.Lines span.first span.last) span_read spans))
    ∙ ap (λ (l : List Wish). map (λ (span : LineSpan). wish.Lines span.first span.last) (map span_read spans) ++ (l ++ only))
    (sym (map-map (λ text. wish.Holding text) (λ text. text.now) protects.texts.items))
    ∙ ap (λ (l : List Wish). map (λ (span : LineSpan). wish.Lines span.first span.last) (map span_read spans)
    ++ (map (λ text. wish.Holding text) (map (λ text. text.now) protects.texts.items) ++ l)) (sym (only-wish protects.only))
