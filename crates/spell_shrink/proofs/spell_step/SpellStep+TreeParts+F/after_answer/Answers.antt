use Rattle.std.proofs.Common.{◌≡◌, ◌∙◌, ℕ, Bool, List, [], None, Some, Result, Ok, Err, length, map, string_bytes, refl, sym, ap, subst, arith}
use Rattle.std.proofs.Math.Logic.{∥∥₁_elim}
use Rattle.std.proofs.Props.{props}
use Rattle.std.specs.Prelude.{OnErr, OnOk, if◌then◌else◌, slice_index_or}
use Rattle.grammar_tree.specs.Lexes.{PlacedToken}
use Rattle.grammar_tree.specs.Written.{CheckedGrammar}
use Rattle.token_print.specs.Readings.{SpelledAreFound}
use Rattle.token_print.specs.declared.style.Skips.{Skips}
use Rattle.token_print.specs.declared.style.Style.{Style}
use Rattle.reduce_rounds.specs.Trials.{trials_after}
use Rattle.reduce_trees_mode.specs.Input.{TreeInput}
use Rattle.reduce_trees_mode.specs.InputOf.{input_of}
use Rattle.reduce_trees_mode.specs.Listed.{skips_of}
use Rattle.spell_shrink.specs.KindWords.{KindWord, word_bytes_of}
use Rattle.spell_shrink.specs.Respelling.{with_word_at}
use Rattle.spell_shrink.specs.declared.cursor.Cursor.{Cursor}
use Rattle.spell_shrink.specs.declared.spell_step.Trial.{Trial}
use Rattle.spell_shrink.specs.declared.spelled.Spelled.{Spelled}
use Rattle.spell_shrink.specs.inner.Cursors.{IsCursor, respelling_at, trials_of}
use Rattle.spell_shrink.specs.inner.Fields.{IsTriedAt, StepAgrees, rest_of_trial}
use Rattle.spell_shrink.specs.inner.Spelled.{IsPrintOf, IsTextOf, respelling_of}
use Rattle.spell_shrink.proofs.StepFields.{lent_are, lent_choices, lent_round, lent_trials, own_cursor, taken_agrees, taken_as, takes_shorter}
use Rattle.spell_shrink.proofs.StepLemmas.{cursor_at_no, next_token, rest_at_no, rest_at_yes}
use Rattle.spell_shrink.proofs.TrialLemmas.{word_found}
use Rattle.spell_shrink.proofs.WordPrinting.{respelling_long}
use Rattle.spell_shrink.proofs.spell_step.SpellStep+TreeParts+F.after_answer.Goals as goal

-- a no goes on at the next spelling
pub after-requires : goal.after-requires
after-requires g c = c.requires.tried.some

pub returns-then-not-yes-clause-respelling : goal.returns-then-not-yes-clause-respelling
returns-then-not-yes-clause-respelling g c =
    let r = respelling_of c.args.self.now.spelled in
    sym (ap (λ (b : Bool). if b then respelling_at c.args.self.now.words.now r c.args.trial.cursor else r) c.if-not-yes.true)

pub returns-then-not-yes-clause-rest : goal.returns-then-not-yes-clause-rest
returns-then-not-yes-clause-rest g c =
    let parts = c.args.self.now.parts.now in
    let input : TreeInput =
    input_of parts.start.grammar parts.formed parts.tree parts.start.bytes parts.tokens.items.items (g.F.Relation.admits parts.guard) parts.squeezes in
    let old = c.args.self.now in
    let r = respelling_of old.spelled in
    ap (λ (cursor : Cursor). trials_of input.start input.tokens old.words.now r (Some cursor)) c.after.ensures
    ∙ sym (ap (λ (b : Bool). trials_after (rest_of_trial input old.words.now r (Some c.args.trial)) b) c.if-not-yes.true
    ∙ rest_at_no input old.words.now old.style r c.args.trial c.requires.tried)

pub returns-then-not-yes-clause-cursor : goal.returns-then-not-yes-clause-cursor
returns-then-not-yes-clause-cursor g c =
    let parts = c.args.self.now.parts.now in
    let input : TreeInput =
    input_of parts.start.grammar parts.formed parts.tree parts.start.bytes parts.tokens.items.items (g.F.Relation.admits parts.guard) parts.squeezes in
    let old = c.args.self.now in
    subst (IsCursor input.tokens old.words.now (respelling_of old.spelled)) (sym c.after.ensures)
    (cursor_at_no input old.words.now old.style (respelling_of old.spelled) c.args.trial c.requires.tried)

-- a yes is taken
pub word-requires : goal.word-requires
word-requires g c =
    let long = ap (λ (l : List KindWord). length l) c.choices_of-choices.ensures.words in
    omega (arith, c.requires.tried.some, c.requires.tried.cursor.within, long)

pub take-requires-clause-printed : goal.take-requires-clause-printed
take-requires-clause-printed g c =
    let parts = c.args.self.now.parts.now in
    let input : TreeInput =
    input_of parts.start.grammar parts.formed parts.tree parts.start.bytes parts.tokens.items.items (g.F.Relation.admits parts.guard) parts.squeezes in
    let old = c.args.self.now in
    let P : CheckedGrammar → Type 0 = λ k. IsPrintOf k.grammar (skips_of input) input.start input.tokens old.style old.spelled in
    ∥∥₁_elim old.agrees.print (hlevel props)
    (λ print. ∣ (skips_of input, input.start, input.tokens, old.style, subst P (sym c.lexer.ensures) print) ∣₁)

pub take-requires-clause-token : goal.take-requires-clause-token
take-requires-clause-token g c = c.requires.tried.cursor.token

pub take-requires-clause-shorter : goal.take-requires-clause-shorter
take-requires-clause-shorter g c =
    let parts = c.args.self.now.parts.now in
    let input : TreeInput =
    input_of parts.start.grammar parts.formed parts.tree parts.start.bytes parts.tokens.items.items (g.F.Relation.admits parts.guard) parts.squeezes in
    let old = c.args.self.now in
    let words = old.words.now in
    let trial = c.args.trial in
    let tried = c.requires.tried in
    let agrees = subst (StepAgrees input words old.style old.spelled) c.requires.over old.agrees in
    let word = c.word.result.now in
    let is =
    word_found words c.choices_of-choices.result.words.now trial.cursor.next word word c.choices_of-choices.ensures.words c.word.ensures refl in
    takes_shorter input words old.style old.spelled trial agrees tried word is

pub take-requires-clause-small : goal.take-requires-clause-small
take-requires-clause-small g c = omega (arith, c.requires.tried.short)

-- so the fields agree, also where it isn't taken
agrees_after : {X E : Type 0} (result : Result X E) (input : TreeInput) (words : List KindWord) (style : Style) (s new : Spelled) (trial : Trial)
    (agrees : StepAgrees input words style s None) (tried : IsTriedAt input words style (respelling_of s) trial) (word : List ℕ)
    → word ≡ slice_index_or (map word_bytes_of words) trial.cursor.next [] → SpelledAreFound → (lexer : CheckedGrammar) → lexer ≡ input.grammar
    → OnErr result (new ≡ s) → OnOk result (respelling_of new ≡ with_word_at (respelling_of s) trial.cursor.token word)
    → ((skips : Skips) (start : List ℕ) (tokens : List PlacedToken) (printed : Style) → IsPrintOf lexer.grammar skips start tokens printed s
    → IsTextOf lexer.grammar skips start tokens printed (with_word_at (respelling_of s) trial.cursor.token word) (string_bytes trial.text) trial.listed
    → OnOk result (IsPrintOf lexer.grammar skips start tokens printed new)) → StepAgrees input words style new None
agrees_after (Ok x) input words style s new trial agrees tried word is law lexer is_lexer same taken prints =
    taken_agrees input words style s trial agrees tried word is law new taken lexer is_lexer prints
agrees_after (Err e) input words style s new trial agrees tried word is law lexer is_lexer same taken prints =
    subst (λ (k : Spelled). StepAgrees input words style k None) (sym same) agrees

pub invariant_of-self : goal.invariant_of-self
invariant_of-self g c =
    let parts = c.args.self.now.parts.now in
    let input : TreeInput =
    input_of parts.start.grammar parts.formed parts.tree parts.start.bytes parts.tokens.items.items (g.F.Relation.admits parts.guard) parts.squeezes in
    let old = c.args.self.now in
    let words = old.words.now in
    let trial = c.args.trial in
    let tried = c.requires.tried in
    let agrees = subst (StepAgrees input words old.style old.spelled) c.requires.over old.agrees in
    let word = c.word.result.now in
    let is =
    word_found words c.choices_of-choices.result.words.now trial.cursor.next word word c.choices_of-choices.ensures.words c.word.ensures refl in
    let new = c.take.new.self in
    let all =
    agrees_after c.take.result input words old.style old.spelled new trial agrees tried word is c.spelled_are_found.ensures c.lexer.result.now
    c.lexer.ensures c.take.ensures.same c.take.ensures.taken c.take.ensures.print in
    record { agrees = subst (StepAgrees input words old.style new) (sym c.requires.over) all }

-- and it goes on at the next token
pub overflow_add-cursor : goal.overflow_add-cursor
overflow_add-cursor g c =
    let s = c.args.self.now.spelled in
    let long : length (respelling_of s) ≡ length s.kept.items =
    ∥∥₁_elim c.args.self.now.agrees.print (hlevel props) (λ print. respelling_long s.kept.items s.words.items print.long) in
    omega (arith, c.requires.tried.cursor.token, long, s.kept.ok)

pub at_token-requires : goal.at_token-requires
at_token-requires g c =
    let parts = c.args.self.now.parts.now in
    let input : TreeInput =
    input_of parts.start.grammar parts.formed parts.tree parts.start.bytes parts.tokens.items.items (g.F.Relation.admits parts.guard) parts.squeezes in
    let old = c.args.self.now in
    let words = old.words.now in
    let trial = c.args.trial in
    let tried = c.requires.tried in
    let agrees = subst (StepAgrees input words old.style old.spelled) c.requires.over old.agrees in
    let word = c.word.result.now in
    let is =
    word_found words c.choices_of-choices.result.words.now trial.cursor.next word word c.choices_of-choices.ensures.words c.word.ensures refl in
    let new = c.take.new.self in
    let all =
    taken_agrees input words old.style old.spelled trial agrees tried word is c.spelled_are_found.ensures new c.in_ok-take.ensures.taken c.lexer.result.now
    c.lexer.ensures c.in_ok-take.ensures.print in
    ∥∥₁_elim all.print (hlevel props)
    (λ print.
    lent_choices input.tokens _ words _ c.choices_of-choices.ensures.tokens c.choices_of-choices.ensures.words new print.kept print.long)

pub returns-clause-respelling : goal.returns-clause-respelling
returns-clause-respelling g c =
    let parts = c.args.self.now.parts.now in
    let input : TreeInput =
    input_of parts.start.grammar parts.formed parts.tree parts.start.bytes parts.tokens.items.items (g.F.Relation.admits parts.guard) parts.squeezes in
    let old = c.args.self.now in
    let words = old.words.now in
    let trial = c.args.trial in
    let tried = c.requires.tried in
    let agrees = subst (StepAgrees input words old.style old.spelled) c.requires.over old.agrees in
    let word = c.word.result.now in
    let is =
    word_found words c.choices_of-choices.result.words.now trial.cursor.next word word c.choices_of-choices.ensures.words c.word.ensures refl in
    let r = respelling_of old.spelled in
    c.in_ok-take.ensures.taken ∙ taken_as input words old.style old.spelled trial agrees tried word is
    ∙ sym (ap (λ (b : Bool). if b then respelling_at words r trial.cursor else r) c.if-not-yes.false)

pub returns-clause-rest : goal.returns-clause-rest
returns-clause-rest g c =
    let parts = c.args.self.now.parts.now in
    let input : TreeInput =
    input_of parts.start.grammar parts.formed parts.tree parts.start.bytes parts.tokens.items.items (g.F.Relation.admits parts.guard) parts.squeezes in
    let old = c.args.self.now in
    let words = old.words.now in
    let trial = c.args.trial in
    let tried = c.requires.tried in
    let agrees = subst (StepAgrees input words old.style old.spelled) c.requires.over old.agrees in
    let word = c.word.result.now in
    let is =
    word_found words c.choices_of-choices.result.words.now trial.cursor.next word word c.choices_of-choices.ensures.words c.word.ensures refl in
    let r = respelling_of old.spelled in
    let ts = c.choices_of-choices.ensures.tokens in
    let ws = c.choices_of-choices.ensures.words in
    let new = respelling_of c.take.new.self in
    let now = c.in_ok-take.ensures.taken ∙ taken_as input words old.style old.spelled trial agrees tried word is in
    let lent = sym (lent_trials input.tokens _ words _ ts ws input.start new c.at_token.result) in
    let from =
    lent ∙ c.at_token.ensures.trials input.start (lent_are input.tokens _ words _ ts ws input.start old.agrees.words_are)
    ∙ lent_round input.tokens _ words _ ts ws input.start _ _ new in
    next_token input words old.style r trial tried new _ now from
    ∙ sym (ap (λ (b : Bool). trials_after (rest_of_trial input words r (Some trial)) b) c.if-not-yes.false
    ∙ rest_at_yes input words old.style r trial tried)

pub returns-clause-cursor : goal.returns-clause-cursor
returns-clause-cursor g c =
    own_cursor _ _ _ _ c.choices_of-choices.ensures.tokens c.choices_of-choices.ensures.words _ c.at_token.result c.at_token.ensures.cursor
