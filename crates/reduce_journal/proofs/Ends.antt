-- Where the text of a record is in the bytes of a journal.
use Rattle.std.proofs.Common.{◌≡◌, ℕ, ◌+◌, ◌-◌, List, [], ◌∷◌, ◌++◌, length, take, drop, sym, ap, ◌∙◌, arith, append_assoc, length-append}
use Rattle.std.proofs.lemmas.List.{drop_at, take_at}
use Rattle.reduce_journal.specs.declared.event.Event.{Event}
use Rattle.reduce_journal.specs.declared.event.Event.TheVariants.{Recorded, Committed}
use Rattle.reduce_journal.specs.Journal.{event_text, line, record_prefix}
use Rattle.reduce_journal.specs.inner.Reading.{EndsAt}

-- an event that comes after these bytes, and ends so many bytes before the end
pub ends_at : (bytes front later : List ℕ) (e : Event) (end : ℕ) → bytes ≡ front ++ (event_text e ++ later) → end + length later ≡ length bytes
    → EndsAt bytes end e
ends_at bytes front later (Committed number) end whole at = tt
ends_at bytes front later (Recorded text verdict kept) end whole at =
    let first : List ℕ = line (record_prefix kept verdict) (length text) in
    let before : List ℕ = front ++ first in
    let parts : bytes ≡ before ++ (text ++ (10 ∷ later)) =
    whole ∙ (ap (λ (t : List ℕ). front ++ t) (append_assoc first (text ++ 10 ∷ []) later)
    ∙ (ap (λ (t : List ℕ). front ++ (first ++ t)) (append_assoc text (10 ∷ []) later) ∙ sym (append_assoc front first (text ++ (10 ∷ later))))) in
    let counts : length bytes ≡ length before + (length text + length (10 ∷ later)) =
    ap length parts ∙ (length-append before (text ++ (10 ∷ later)) ∙ ap (λ (n : ℕ). length before + n) (length-append text (10 ∷ later))) in
    let start : length before ≡ end - 1 - length text = omega (arith, at, counts) in
    let count : length text ≡ (end - 1) - (end - 1 - length text) = omega (arith, at, counts) in (
      omega (arith, at, counts),
      omega (arith, at),
      ap (λ (bs : List ℕ). take ((end - 1) - (end - 1 - length text)) (drop (end - 1 - length text) bs)) parts
          ∙ (ap (take ((end - 1) - (end - 1 - length text))) (drop_at before (text ++ (10 ∷ later)) (end - 1 - length text) start)
          ∙ take_at text (10 ∷ later) ((end - 1) - (end - 1 - length text)) count),
    )
