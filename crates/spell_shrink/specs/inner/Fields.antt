-- The fields of rounds of respellings, and what they mean.
use Rattle.std.specs.Prelude.{◌≡◌, ◌≤◌, ◌<◌, List, Option, Some, None, length, string_bytes}
use Rattle.token_print.specs.declared.style.Style.{Style}
use Rattle.reduce_step.specs.Limits.{text_limit}
use Rattle.reduce_rounds.specs.Trials.{Trials, Done}
use Rattle.reduce_trees_mode.specs.Input.{TreeInput}
use Rattle.reduce_trees_mode.specs.Listed.{skips_of}
use Rattle.spell_shrink.specs.declared.spell_step.Trial.{Trial}
use Rattle.spell_shrink.specs.declared.spelled.Spelled.{Spelled}
use Rattle.spell_shrink.specs.KindWords.{AreWordsOf, KindWord}
use Rattle.spell_shrink.specs.Respelling.{Respelling}
use Rattle.spell_shrink.specs.Texts.{is_listed_respelling, text_of_respelling}
use Rattle.spell_shrink.specs.SpellMode.{IsRespellingOf}
use Rattle.spell_shrink.specs.inner.Cursors.{IsCursor, respelling_at, trials_of}
use Rattle.spell_shrink.specs.inner.Spelled.{IsPrintOf, respelling_of}

-- what is still tried
abbrev pub rest_of_trial : TreeInput → List KindWord → Respelling → Option Trial → Trials Respelling
rest_of_trial input words r None = Done
rest_of_trial input words r (Some trial) = trials_of input.start input.tokens words r (Some trial.cursor)

-- It is what is tried at its cursor: its text, and whether that may be asked.
pub record IsTriedAt (input : TreeInput) (words : List KindWord) (style : Style) (r : Respelling) (trial : Trial) : Type 0 where
  pub cursor : IsCursor input.tokens words r trial.cursor
  pub some : trial.cursor.next < trial.cursor.end
  pub text : string_bytes trial.text ≡ text_of_respelling input style (respelling_at words r trial.cursor)
  pub listed : trial.listed ≡ is_listed_respelling input style (respelling_at words r trial.cursor)
  pub short : length (string_bytes trial.text) ≤ text_limit

abbrev pub IsTried : TreeInput → List KindWord → Style → Respelling → Option Trial → Type 0
IsTried input words style r None = Unit {0}
IsTried input words style r (Some trial) = IsTriedAt input words style r trial

-- The same trial again.
pub record IsCopy (trial copy : Trial) : Type 0 where
  pub cursor : copy.cursor ≡ trial.cursor
  pub text : string_bytes copy.text ≡ string_bytes trial.text
  pub listed : copy.listed ≡ trial.listed

abbrev pub AreCopies : Option Trial → Option Trial → Type 0
AreCopies None None = Unit {0}
AreCopies None (Some copy) = ⊥
AreCopies (Some trial) None = ⊥
AreCopies (Some trial) (Some copy) = IsCopy trial copy

-- What holds of the fields of a step between two calls.
pub record StepAgrees (input : TreeInput) (words : List KindWord) (style : Style) (spelled : Spelled) (trial : Option Trial) : Type 0 where
  pub words_are : AreWordsOf input.start input.tokens words
  pub print : ∥ IsPrintOf input.grammar.grammar (skips_of input) input.start input.tokens style spelled ∥₁
  pub is_respelling : ∥ IsRespellingOf input style (respelling_of spelled) ∥₁
  pub tried : IsTried input words style (respelling_of spelled) trial
