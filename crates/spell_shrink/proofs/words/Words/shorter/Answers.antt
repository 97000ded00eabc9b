use Rattle.std.proofs.Common.{◌≡◌, ◌≤◌, List, ap, arith, length, map, rules, subst, sym}
use Rattle.std.specs.List.{between}
use Rattle.std.specs.List.Sorted.{IsPartitionedBy}
use Rattle.std.proofs.lemmas.List.{length-map}
use Rattle.std.proofs.lemmas.List.Sorted.{IsPartitionPoint-from_clause}
use Rattle.spell_shrink.specs.declared.words.Word.{Word}
use Rattle.spell_shrink.specs.KindWords.{KindWord, bytes_of_kind, kind_word, word_bytes_of}
use Rattle.spell_shrink.specs.Words.{shorter_than}
use Rattle.spell_shrink.proofs.ShorterWords.{is_before_kind, is_shorter_to, lent_point, parted_before, parted_shorter, rises, shorter_words}
use Rattle.spell_shrink.proofs.words.Words.shorter.Goals as goal

pub returns : goal.returns
returns c =
    let items = c.self.inside.items.items in
    let kind = c.args.kind in
    let size = c.args.size in
    let sorted = c.self.invariant.0 in
    let sized = c.self.invariant.1 in
    let first = c.partition_point-first.result in
    let end = c.partition_point-end.result in
    let lent = c.deref.result.now in
    let again = c.deref-2.result.now in
    let same : lent ≡ items = c.deref.ensures.value in
    let same_again : again ≡ items = c.deref-2.ensures.value in
    let first_within : first ≤ length items = omega (arith, c.partition_point-first.ensures.bound, ap (λ (l : List Word). length l) same) in
    let end_within : end ≤ length items = omega (arith, c.partition_point-end.ensures.bound, ap (λ (l : List Word). length l) same_again) in
    let before = lent_point (is_before_kind kind) items lent same first
    (IsPartitionPoint-from_clause (is_before_kind kind) lent first c.partition_point-first.ensures.partitioned
    (subst (IsPartitionedBy (is_before_kind kind)) (sym same) (parted_before kind size items sized sorted)) (λ a r q k. search rules)) in
    let upto = lent_point (is_shorter_to kind size) items again same_again end
    (IsPartitionPoint-from_clause (is_shorter_to kind size) again end c.partition_point-end.ensures.partitioned
    (subst (IsPartitionedBy (is_shorter_to kind size)) (sym same_again) (parted_shorter kind size items sized sorted)) (λ a r q k. search rules)) in
    record {
      rises = rises kind size items sized first end first_within end_within before upto;
      within = omega (arith, end_within, length-map items kind_word, ap (λ (l : List KindWord). length l) c.self.view_is);
      words =
          subst (λ (l : List KindWord). map word_bytes_of (between first end l) ≡ shorter_than size (bytes_of_kind l kind)) c.self.view_is
          (shorter_words kind size items sized first end first_within end_within before upto);
    }
