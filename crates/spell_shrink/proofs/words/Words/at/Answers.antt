use Rattle.std.proofs.Common.{◌≡◌, ◌<◌, List, Some, ap, arith, length, map, subst}
use Rattle.std.specs.Prelude.{slice_get}
use Rattle.std.proofs.lemmas.List.{length-map}
use Rattle.spell_shrink.specs.KindWords.{KindWord, kind_word, word_bytes_of}
use Rattle.spell_shrink.proofs.BuiltWords.{word_at}
use Rattle.spell_shrink.proofs.words.Words.at.Goals as goal

pub index-requires : goal.index-requires
index-requires c =
    omega (arith, c.requires, length-map c.self.inside.items.items kind_word, ap (λ (l : List KindWord). length l) c.self.view_is)

pub returns : goal.returns
returns c =
    let items = c.self.inside.items.items in
    let less : c.args.index < length items = omega (arith, c.requires, length-map items kind_word, ap (λ (l : List KindWord). length l) c.self.view_is) in
    subst (λ (l : List KindWord). slice_get (map word_bytes_of l) c.args.index ≡ Some c.index.result.now.text.now) c.self.view_is
    (word_at items c.args.index c.index.result.now less c.index.ensures)
