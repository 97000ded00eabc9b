use Rattle.std.proofs.Common.{◌∙◌, ℕ, List, length, string_bytes, refl, sym, ap, subst, arith}
use Rattle.std.proofs.Math.Logic.{∥∥₁_elim}
use Rattle.std.proofs.Props.{props}
use Rattle.std.specs.Str.{IsUtf8}
use Rattle.token_print.specs.Kept.{AreKept}
use Rattle.reduce_trees_mode.specs.Input.{TreeInput}
use Rattle.reduce_trees_mode.specs.InputOf.{input_of}
use Rattle.reduce_trees_mode.specs.Listed.{skips_of}
use Rattle.spell_shrink.specs.KindWords.{KindWord}
use Rattle.spell_shrink.proofs.TrialLemmas.{ends_at, fits_at, listed_at, places_long, reread_at, short_text, starts_at, text_at, word_found}
use Rattle.spell_shrink.proofs.spell_step.trial_at.Goals as goal

pub word-word-requires : goal.word-word-requires
word-word-requires g c =
    omega (arith, c.requires.some, c.requires.cursor.within, ap (λ (l : List KindWord). length l) c.choices_of-choices.ensures.words)

pub change-change-requires-clause-token : goal.change-change-requires-clause-token
change-change-requires-clause-token g c = c.requires.cursor.token

pub change-change-requires-clause-places : goal.change-change-requires-clause-places
change-change-requires-clause-places g c =
    let parts = c.args.parts.now in
    let input : TreeInput =
    input_of parts.start.grammar parts.formed parts.tree parts.start.bytes parts.tokens.items.items (g.F.Relation.admits parts.guard) parts.squeezes in
    ∥∥₁_elim c.requires.print (hlevel props)
    (λ print. places_long input.grammar.grammar (skips_of input) input.start input.tokens c.args.style c.args.spelled.now print)

-- the spelling is in the text
pub change-change-requires-clause-fits : goal.change-change-requires-clause-fits
change-change-requires-clause-fits g c =
    let parts = c.args.parts.now in
    let input : TreeInput =
    input_of parts.start.grammar parts.formed parts.tree parts.start.bytes parts.tokens.items.items (g.F.Relation.admits parts.guard) parts.squeezes in
    ∥∥₁_elim c.requires.print (hlevel props)
    (λ print. ∥∥₁_elim c.requires.is_respelling (hlevel props)
    (λ of.
    fits_at input c.args.words.now c.requires.words c.args.style c.args.spelled.now print of c.args.cursor c.requires.cursor c.requires.some
    c.gaps_are_slices.ensures c.texts_are_no_longer.ensures c.is_input.ensures.is c.is_input.ensures.short c.word-word.result))

-- ---- the changed text

pub changed-requires-clause-rises : goal.changed-requires-clause-rises
changed-requires-clause-rises g c = omega (arith, c.change-change.ensures.from, c.change-change.ensures.to)

pub changed-requires-clause-within : goal.changed-requires-clause-within
changed-requires-clause-within g c =
    let parts = c.args.parts.now in
    let input : TreeInput =
    input_of parts.start.grammar parts.formed parts.tree parts.start.bytes parts.tokens.items.items (g.F.Relation.admits parts.guard) parts.squeezes in
    ∥∥₁_elim c.requires.print (hlevel props)
    (λ print. ∥∥₁_elim c.requires.is_respelling (hlevel props)
    (λ of.
    (ends_at input c.args.words.now c.requires.words c.args.style c.args.spelled.now print of c.args.cursor c.requires.cursor c.requires.some
    c.change-change.result c.change-change.ensures.from c.change-change.ensures.to c.gaps_are_slices.ensures c.is_input.ensures.is).0))

pub changed-requires-clause-starts : goal.changed-requires-clause-starts
changed-requires-clause-starts g c =
    let parts = c.args.parts.now in
    let input : TreeInput =
    input_of parts.start.grammar parts.formed parts.tree parts.start.bytes parts.tokens.items.items (g.F.Relation.admits parts.guard) parts.squeezes in
    ∥∥₁_elim c.requires.print (hlevel props)
    (λ print. ∥∥₁_elim c.requires.is_respelling (hlevel props)
    (λ of.
    starts_at input c.args.words.now c.requires.words c.args.style c.args.spelled.now print of c.args.cursor c.requires.cursor c.requires.some
    c.change-change.result c.change-change.ensures.from c.change-change.ensures.to c.gaps_are_slices.ensures c.is_input.ensures.is))

pub changed-requires-clause-ends : goal.changed-requires-clause-ends
changed-requires-clause-ends g c =
    let parts = c.args.parts.now in
    let input : TreeInput =
    input_of parts.start.grammar parts.formed parts.tree parts.start.bytes parts.tokens.items.items (g.F.Relation.admits parts.guard) parts.squeezes in
    ∥∥₁_elim c.requires.print (hlevel props)
    (λ print. ∥∥₁_elim c.requires.is_respelling (hlevel props)
    (λ of.
    ends_at input c.args.words.now c.requires.words c.args.style c.args.spelled.now print of c.args.cursor c.requires.cursor c.requires.some
    c.change-change.result c.change-change.ensures.from c.change-change.ensures.to c.gaps_are_slices.ensures c.is_input.ensures.is))

-- ---- whether it may be asked

pub is_listed-requires-clause-reread : goal.is_listed-requires-clause-reread
is_listed-requires-clause-reread g c =
    let parts = c.args.parts.now in
    let input : TreeInput =
    input_of parts.start.grammar parts.formed parts.tree parts.start.bytes parts.tokens.items.items (g.F.Relation.admits parts.guard) parts.squeezes in
    let change = c.change-change in
    let found =
    word_found c.args.words.now c.choices_of-choices.result.words.now c.args.cursor.next c.word-word.result.now change.result.word.now
    c.choices_of-choices.ensures.words c.word-word.ensures change.ensures.word in
    ∥∥₁_elim c.requires.print (hlevel props)
    (λ print. ∥∥₁_elim c.requires.is_respelling (hlevel props)
    (λ of.
    ∣ reread_at input c.args.words.now c.requires.words c.args.style c.args.spelled.now print of c.args.cursor c.requires.cursor c.requires.some
    change.result change.ensures.from change.ensures.to c.gaps_are_slices.ensures c.texts_are_no_longer.ensures c.is_input.ensures.is
    c.is_input.ensures.short found (subst IsUtf8 (sym change.ensures.word) c.word-word.utf8) _ refl refl c.deref.ensures.value c.deref-2.ensures.value
    c.choices_of-choices.ensures.tokens refl refl c.as_str.utf8 (c.as_str.ensures.value ∙ c.in_ok-text.ensures) ∣₁))

pub is_listed-requires-clause-tokens : goal.is_listed-requires-clause-tokens
is_listed-requires-clause-tokens g c = c.choices_of-choices.ensures.tokens

pub is_listed-requires-clause-kept : goal.is_listed-requires-clause-kept
is_listed-requires-clause-kept g c =
    ∥∥₁_elim c.requires.print (hlevel props) (λ print. subst (AreKept _) (sym c.deref.ensures.value) print.kept)

-- it is what is tried at the cursor
pub returns : goal.returns
returns g c =
    let parts = c.args.parts.now in
    let input : TreeInput =
    input_of parts.start.grammar parts.formed parts.tree parts.start.bytes parts.tokens.items.items (g.F.Relation.admits parts.guard) parts.squeezes in
    let words = c.args.words.now in
    let style = c.args.style in
    let s = c.args.spelled.now in
    let cursor = c.args.cursor in
    let at = c.requires.cursor in
    let change = c.change-change in
    let found =
    word_found words c.choices_of-choices.result.words.now cursor.next c.word-word.result.now change.result.word.now c.choices_of-choices.ensures.words
    c.word-word.ensures change.ensures.word in (
      refl,
      ∥∥₁_elim c.requires.print (hlevel props)
          (λ print. ∥∥₁_elim c.requires.is_respelling (hlevel props)
          (λ of.
          let some = c.requires.some in
          let text =
          text_at input words c.requires.words style s print of cursor at some change.result change.ensures.from change.ensures.to found
          (string_bytes c.in_ok-text.text) c.in_ok-text.ensures in
          let short = short_text input words c.requires.words style s print of cursor at some c.texts_are_no_longer.ensures c.is_input.ensures.is in
          record {
            cursor = at;
            some = some;
            text = text;
            listed =
                listed_at input words c.requires.words style s print of cursor at some _ _ _ change.result.word.now c.as_str.result.now
                c.in_ok-listed.listed c.choices_of-choices.ensures.tokens c.deref.ensures.value c.deref-2.ensures.value found
                (c.as_str.ensures.value ∙ text) c.in_ok-listed.ensures;
            short = omega (arith, ap (λ (l : List ℕ). length l) text, short, c.is_input.ensures.short);
          })),
    )
