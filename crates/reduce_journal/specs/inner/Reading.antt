-- What is at the front of some bytes of a journal: a part of an event and the bytes after it, or why there is none.
use Rattle.std.specs.Prelude.{◌≡◌, ℕ, ◌+◌, ◌-◌, ◌*◌, ◌<◌, ◌≤◌, List, [], ◌∷◌, length, take, drop, slice_range, Result}
use Rattle.std.specs.Prelude.{Ok, Err, ◌&&◌, ◌==◌, nat_le, nat_lt, Bool, true, false, if◌then◌else◌}
use Rattle.std.specs.Char.{is_ascii_digit}
use Rattle.script_gate_trait.specs.declared.gate.Verdict.{Verdict}
use Rattle.script_gate_trait.specs.declared.gate.Verdict.TheVariants.{Yes, No}
use Rattle.reduce_step.specs.Limits.{text_limit}
use Rattle.reduce_journal.specs.declared.event.Event.{Event}
use Rattle.reduce_journal.specs.declared.event.Event.TheVariants.{Recorded, Committed}
use Rattle.reduce_journal.specs.declared.numbers.Mismatch.{Mismatch}
use Rattle.reduce_journal.specs.declared.numbers.Mismatch.TheVariants.{Torn, Bad}
use Rattle.reduce_journal.specs.declared.parts.LentEvent.{LentEvent}
use Rattle.reduce_journal.specs.declared.parts.LentEvent.TheVariants as lent

-- what was found and the bytes after it, or what is wrong
abbrev pub Parse : Type 0 → Type 0
Parse A = Result (A × List ℕ) Mismatch

infixl 10 ◌>>=◌
abbrev pub ◌>>=◌ : {A B : Type 0} → Result A Mismatch → (A → Result B Mismatch) → Result B Mismatch
(Ok x) >>= f = f x
(Err e) >>= f = Err e

-- a function returned what reading gives, seen by view
abbrev pub Gives : {X Y : Type 0} → (X → Y) → Result X Mismatch → Result Y Mismatch → Type 0
Gives view (Ok x) read = read ≡ Ok (view x)
Gives view (Err e) read = read ≡ Err e

-- the bytes after this byte
abbrev pub after : ℕ → List ℕ → Result (List ℕ) Mismatch
after byte [] = Err Torn
after byte (b ∷ rest) = if b == byte then Ok rest else Err Bad

-- a verdict's letter: y or n
abbrev pub verdict_at : List ℕ → Parse Verdict
verdict_at [] = Err Torn
verdict_at (b ∷ rest) = if b == 121 then Ok (Yes, rest) else (if b == 110 then Ok (No, rest) else Err Bad)

-- a number with one more digit, where it is at most the greatest
unfoldable pub with_digit : ℕ → ℕ → ℕ → Result ℕ Mismatch
with_digit greatest number byte =
    if is_ascii_digit byte && nat_le (number * 10 + (byte - 48)) greatest then Ok (number * 10 + (byte - 48)) else Err Bad

-- the number to whose digits so far these bytes add some, up to a newline
unfoldable pub digits_from : ℕ → ℕ → List ℕ → Parse ℕ
digits_from greatest number [] = Err Torn
digits_from greatest number (b ∷ rest) =
    if b == 10 then Ok (number, rest) else (with_digit greatest number b >>= λ next. digits_from greatest next rest)

-- a number from 1 to the greatest, and a newline
unfoldable pub positive_at : ℕ → List ℕ → Parse ℕ
positive_at greatest [] = Err Torn
positive_at greatest (b ∷ rest) =
    if b == 48 then Err Bad else (with_digit greatest 0 b >>= λ number. digits_from greatest number rest)

-- a number from 0 to the greatest, and a newline
unfoldable pub number_at : ℕ → List ℕ → Parse ℕ
number_at greatest [] = Err Torn
number_at greatest (b ∷ rest) =
    if b == 48 then (after 10 rest >>= λ more. Ok (0, more)) else positive_at greatest (b ∷ rest)

-- so many bytes, and a newline
unfoldable pub text_at : ℕ → List ℕ → Parse (List ℕ)
text_at count bytes =
    if nat_lt (length bytes) count then Err Torn else (after 10 (drop count bytes) >>= λ rest. Ok (take count bytes, rest))

-- a record without its first letter, asked or kept
unfoldable pub record_at : Bool → List ℕ → Parse Event
record_at kept bytes = do
  letter ← after 32 bytes
  verdict ← verdict_at letter
  number ← after 32 verdict.1
  count ← number_at text_limit number
  text ← text_at count.0 count.1
  Ok (Recorded text.0 verdict.0 kept, text.1)

-- a commit without its first letter, after so many records
unfoldable pub commit_at : ℕ → List ℕ → Parse Event
commit_at records bytes = if records == 0 then Err Bad else do
  rest ← after 32 bytes
  number ← positive_at records rest
  Ok (Committed number.0, number.1)

-- a kept record without its first letter, where the version has them
unfoldable pub kept_at : ℕ → List ℕ → Parse Event
kept_at version bytes = if version == 2 then record_at true bytes else Err Bad

-- an event of a journal of this version, after so many records
unfoldable pub event_at : (version records : ℕ) → List ℕ → Parse Event
event_at version records [] = Err Torn
event_at version records (b ∷ rest) =
    if b == 82 then record_at false rest
    else (if b == 67 then commit_at records rest
    else (if b == 75 then kept_at version rest else Err Bad))

-- the event that is lent
abbrev pub lent_event : LentEvent → Event
lent_event (lent.Recorded text verdict kept) = Recorded text.now verdict kept
lent_event (lent.Committed number) = Committed number

-- the event's bytes end here in these bytes: those of a record with its text and a newline
abbrev pub EndsAt : List ℕ → ℕ → Event → Type 0
EndsAt bytes end (Recorded text verdict kept) = (length text < end) × (end ≤ length bytes) × (slice_range bytes (end - 1 - length text) (end - 1) ≡ text)
EndsAt bytes end (Committed number) = Unit {0}
