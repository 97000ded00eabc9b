use Rattle.std.proofs.Common.{◌<◌, List, ℕ, length, ap, arith}
use Rattle.std.proofs.lemmas.List.{get_or_read}
use denote.Ref.{Bor}
use Rattle.spell_shrink.proofs.Taking.{spelled_at, within_both}
use Rattle.spell_shrink.proofs.spelled.Spelled.change.Goals as goal

pub index-from-requires : goal.index-from-requires
index-from-requires c =
    let s = c.args.self.now in
    let both = within_both s.kept.items s.words.items c.args.token c.requires.token in
    omega (arith, both.0, c.requires.places)

pub index-requires : goal.index-requires
index-requires c =
    let s = c.args.self.now in
    let both = within_both s.kept.items s.words.items c.args.token c.requires.token in omega (arith, both.1, s.words.ok)

-- the spelling is in the text
pub overflow_add-result : goal.overflow_add-result
overflow_add-result c =
    let s = c.args.self.now in
    let both = within_both s.kept.items s.words.items c.args.token c.requires.token in
    let less : c.args.token < length s.places.items = omega (arith, both.0, c.requires.places) in
    let from = get_or_read s.places.items c.args.token c.index-from.result.now less c.index-from.ensures 0 in
    let size = ap length (spelled_at s.kept.items s.words.items c.args.token c.index.result.now both.0 both.1) in
    let here = ap (λ (w : Bor (List ℕ)). length w.now) c.index.ensures in
    omega (arith, c.requires.fits, from, size, here)

pub returns-clause-from : goal.returns-clause-from
returns-clause-from c =
    let s = c.args.self.now in
    let both = within_both s.kept.items s.words.items c.args.token c.requires.token in
    let less : c.args.token < length s.places.items = omega (arith, both.0, c.requires.places) in
    get_or_read s.places.items c.args.token c.index-from.result.now less c.index-from.ensures 0

pub returns-clause-to : goal.returns-clause-to
returns-clause-to c =
    let s = c.args.self.now in
    let both = within_both s.kept.items s.words.items c.args.token c.requires.token in
    let less : c.args.token < length s.places.items = omega (arith, both.0, c.requires.places) in
    let from = get_or_read s.places.items c.args.token c.index-from.result.now less c.index-from.ensures 0 in
    let size = ap length (spelled_at s.kept.items s.words.items c.args.token c.index.result.now both.0 both.1) in
    let here = ap (λ (w : Bor (List ℕ)). length w.now) c.index.ensures in
    omega (arith, from, size, here)
