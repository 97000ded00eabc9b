-- Histories of reductions.
use Rattle.std.specs.Prelude.{◌≡◌, ℕ, suc, ◌<◌, ◌≤◌, ◌^◌, true, false, List, [], ◌∷◌, length}
use Rattle.reduce_step.specs.Limits.{text_limit}
use Rattle.verdict_table.specs.declared.record.Record.{Record}
use Rattle.reduce_journal.specs.declared.event.Event.{Event}
use Rattle.reduce_journal.specs.declared.event.Event.TheVariants.{Recorded, Committed}

-- what happened, in order
abbrev pub History : Type 0
History = List Event

-- the records of a history in their order, of which the first has number 1
abbrev pub records_of : History → List Record
records_of [] = []
records_of (Recorded text verdict kept ∷ events) = (record { text = text; verdict = verdict }) ∷ records_of events
records_of (Committed number ∷ events) = records_of events

-- those of them whose verdict a gate gave: all but the kept ones
abbrev pub asked_records_of : History → List Record
asked_records_of [] = []
asked_records_of (Recorded text verdict false ∷ events) = (record { text = text; verdict = verdict }) ∷ asked_records_of events
asked_records_of (Recorded text verdict true ∷ events) = asked_records_of events
asked_records_of (Committed number ∷ events) = asked_records_of events

-- a record's text has at most 1,048,576 bytes
abbrev pub HasShortText : Event → Type 0
HasShortText (Recorded text verdict kept) = length text ≤ text_limit
HasShortText (Committed number) = Unit {0}

-- a commit names one of the records before it, of which there are so many, by a number that an event can hold
abbrev pub NamesRecord : ℕ → Event → Type 0
NamesRecord records (Recorded text verdict kept) = Unit {0}
NamesRecord records (Committed number) = (0 < number) × (number ≤ records) × (number < 2 ^ 64)

-- version 1 has no kept records, version 2 has
abbrev pub IsOfVersion : ℕ → Event → Type 0
IsOfVersion version (Recorded text verdict false) = Unit {0}
IsOfVersion version (Recorded text verdict true) = version ≡ 2
IsOfVersion version (Committed number) = Unit {0}

-- this event may come after so many records of a journal of this version
pub record MayFollow (version records : ℕ) (event : Event) : Type 0 where
  pub of_version : IsOfVersion version event
  pub text : HasShortText event
  pub names : NamesRecord records event

-- so many records, and that of this event
abbrev pub records_with : ℕ → Event → ℕ
records_with records (Recorded text verdict kept) = suc records
records_with records (Committed number) = records

-- after so many records each of these events may come where it is
abbrev pub AllMayFollow : (version records : ℕ) → History → Type 0
AllMayFollow version records [] = Unit {0}
AllMayFollow version records (event ∷ events) = MayFollow version records event × AllMayFollow version (records_with records event) events

-- each event may come after the records before it, in the version that is written
abbrev pub IsHistory : History → Type 0
IsHistory events = AllMayFollow 2 0 events
