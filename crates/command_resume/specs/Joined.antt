-- Two journals of one start in one.
use Rattle.std.specs.Prelude.{ℕ, List, [], ◌∷◌, ◌++◌, is_some, if◌then◌else◌}
use Rattle.std.specs.List.{flat_map}
use Rattle.verdict_table.specs.declared.record.Record.{Record}
use Rattle.verdict_table.specs.TableState.{verdict_in}
use Rattle.reduce_journal.specs.declared.event.Event.{Event}
use Rattle.reduce_journal.specs.declared.event.Event.TheVariants.{Recorded, Committed}
use Rattle.reduce_journal.specs.declared.read.Journal.{Journal}
use Rattle.reduce_journal.specs.History.{History, records_of}
use Rattle.reduce_journal.specs.Journal.{IsReadOf}

-- what an event adds to some records: itself, where it is a record of a text that none of them has
abbrev pub added_to : List Record → Event → History
added_to records (Recorded text verdict kept) = if is_some (verdict_in records text) then [] else Recorded text verdict kept ∷ []
added_to records (Committed number) = []

-- the events of one journal, and then the other's records of texts that it has no record of
abbrev pub joined : History → History → History
joined one other = one ++ flat_map (added_to (records_of one)) other

-- the journal is what was read of some bytes
abbrev pub IsOfBytes : Journal → Type 0
IsOfBytes journal = (bytes : List ℕ) × IsReadOf bytes journal
