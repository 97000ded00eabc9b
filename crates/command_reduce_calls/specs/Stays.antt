-- What must stay, by the command line. It is said of a start, as is why it wasn't accepted.
use Rattle.std.specs.Prelude.{◌≡◌, ℕ, ◌+◌, ◌++◌, nat_lt, true, List, Option, Some, None, length, map, find}
use Rattle.std.specs.Option.{option_to_list}
use Rattle.grammar_tree.specs.Lexes.{PlacedToken}
use Rattle.keep_guard.specs.Keep.{holds_all}
use Rattle.reduce_core.specs.Lines.{lines_of}
use Rattle.line_guard.specs.MustStay.{Stays}
use Rattle.line_guard.specs.Protected.{protected_lines, protected_tokens}
use Rattle.line_guard.specs.declared.wish.Wish.{Wish}
use Rattle.line_guard.specs.declared.wish.Wish.TheVariants as wish
use Rattle.command_words.specs.Options.{LineSpan}
use Rattle.command_words.specs.Commands.{ProtectOptions, ReduceOptions}
use Rattle.command_ends.specs.declared.status.Refusal.{Refusal}
use Rattle.command_ends.specs.declared.status.Refusal.TheVariants.{Memory, KeepMissing, BeyondLines}
use Rattle.command_ends.specs.Status.{IsBeyondRefusal, KeepsFail}

-- what is wished for: the lines of `--protect`, those with a text of `--protect-text`, and all but those of `--only`
abbrev pub wishes_of : ProtectOptions → List Wish
wishes_of protects =
    map (λ (span : LineSpan). wish.Lines span.first span.last) protects.lines
    ++ (map (λ text. wish.Holding text) protects.texts ++ map (λ (span : LineSpan). wish.Only span.first span.last) (option_to_list protects.only))

-- what must stay of the lines of a start
abbrev pub lines_stay : ReduceOptions → List ℕ → Stays
lines_stay options start = record { texts = options.keeps; numbers = protected_lines (wishes_of options.protects) start }

-- what must stay of these tokens of a start
abbrev pub tokens_stay : ReduceOptions → List ℕ → List PlacedToken → Stays
tokens_stay options start tokens = record { texts = options.keeps; numbers = protected_tokens (wishes_of options.protects) start tokens }

-- the last lines that are named, in the order of `--protect` and then `--only`
abbrev pub lasts_of : ProtectOptions → List ℕ
lasts_of protects = map (λ (span : LineSpan). span.last) (protects.lines ++ option_to_list protects.only)

-- the first of them that is beyond this line
abbrev pub first_beyond : ProtectOptions → ℕ → Option ℕ
first_beyond protects lines = find (λ last. nat_lt lines last) (lasts_of protects)

-- the first of them that is beyond the last line of a start
abbrev pub first_beyond_start : ProtectOptions → List ℕ → Option ℕ
first_beyond_start protects start = first_beyond protects (length (lines_of start))

-- each keep text occurs in a start, and each line that is named is there
abbrev pub AcceptsStart : ReduceOptions → List ℕ → Type 0
AcceptsStart options start = (holds_all options.keeps start ≡ true) × (first_beyond_start options.protects start ≡ None)

-- each keep text occurs in a start, which has so many lines, and this is the first named last line that is beyond them
abbrev pub NamesBeyond : ReduceOptions → ℕ → ℕ → List ℕ → Type 0
NamesBeyond options last lines start =
    (holds_all options.keeps start ≡ true) × (lines ≡ length (lines_of start)) × (first_beyond options.protects lines ≡ Some last)

-- Why a start wasn't accepted: this keep text is the first that doesn't occur in it; or each occurs, and this is the first named last line that is
-- beyond its lines; or out of memory.
abbrev pub StaysFail : ReduceOptions → List ℕ → Refusal → Type 0
StaysFail options start (Memory _) = Unit {0}
StaysFail options start (KeepMissing line) = KeepsFail options.keeps start (KeepMissing line)
StaysFail options start (BeyondLines line) =
    (last : ℕ) × (lines : ℕ) × NamesBeyond options last lines start × IsBeyondRefusal last lines (BeyondLines line)
StaysFail options start _ = ⊥
