use Rattle.std.specs.Str.{bytes_eq}
use Rattle.verdict_table.specs.TableState.{claimed_texts, texts_of}
use Rattle.verdict_table.proofs.TableLemmas.{distinct_front}
use Rattle.verdict_table.proofs.table.Table.into_records.Goals as goal

pub returns-clause-once : goal.returns-clause-once
returns-clause-once c = rw c.from_vec.ensures
    (distinct_front bytes_eq (texts_of c.self.inside.records.items) (claimed_texts c.self.inside.claims.items) c.self.invariant.sound.once)
