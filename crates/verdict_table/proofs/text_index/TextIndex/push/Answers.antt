use Rattle.std.proofs.Common.{◌≡◌, arith, length, nat_eq}
use Rattle.std.specs.HashMap.{get}
use Rattle.verdict_table.specs.inner.TextIndex.{text_number}
use Rattle.verdict_table.proofs.TextIndexLemmas.{index_pushed}
use Rattle.verdict_table.proofs.text_index.TextIndex.push.Goals as goal

pub returns-clause-indexed : goal.returns-clause-indexed
returns-clause-indexed c = λ texts is.
    let count : c.len-index.result ≡ length texts = omega (arith, c.len-index.ensures, is.same_length) in
    let found : c.unwrap.result ≡ get nat_eq c.args.self.now.newest (text_number c.args.text.now) =
    rw (c.unwrap.ensures, c.number_of.ensures) at c.insert-inserted.ensures.old in
    let updated = rw (c.unwrap.ensures, c.number_of.ensures, count) at c.insert-inserted.ensures.updates in
    rw (c.push.ensures.items, c.unwrap-2.ensures) (index_pushed texts c.args.text.now c.args.self.now.newest c.args.self.now.older.items is
    c.insert-inserted.new.self c.unwrap.result found updated.0)
