use Rattle.std.proofs.Common.{◌∙◌, ℕ, List, ap, drop, string_bytes, subst, sym, take}
use Rattle.std.specs.Str.{IsCharBoundary}
use Rattle.std.proofs.lemmas.Slice.{between_is}
use Rattle.spell_shrink.proofs.Copies.{copied_text}
use Rattle.spell_shrink.proofs.cut_text.CutText.changed.Goals as goal

pub range-requires-clause-end_boundary : goal.range-requires-clause-end_boundary
range-requires-clause-end_boundary c = subst (λ (l : List ℕ). IsCharBoundary l c.args.change.from) (sym c.as_str-before.ensures.value) c.requires.starts

pub range_from-requires : goal.range_from-requires
range_from-requires c = λ some. subst (λ (l : List ℕ). IsCharBoundary l c.args.change.to) (sym c.as_str-before.ensures.value) c.requires.ends

-- what comes before the word, the word, and what comes after it
pub returns : goal.returns
returns c =
    let old = string_bytes c.args.self.now.text in
    let before = c.as_str-before.result.now in
    let change = c.args.change in
    copied_text old change c.range.result.now c.range_from.result.now (string_bytes c.new-text.result) (string_bytes c.push_str.new.self)
    (string_bytes c.push_str-2.new.self) (string_bytes c.push_str-3.new.self)
    (c.range.ensures.value ∙ between_is before 0 change.from ∙ ap (take change.from) c.as_str-before.ensures.value)
    (c.range_from.ensures.value ∙ ap (drop change.to) c.as_str-before.ensures.value) c.new-text.ensures.bytes c.in_ok-push_str.ensures.bytes
    c.in_ok-push_str-2.ensures.bytes c.in_ok-push_str-3.ensures.bytes
