-- Rounds of respellings, by their fields.
use Rattle.std.proofs.Common.{◌≡◌, ◌∙◌, ◌+◌, ◌-◌, ℕ, suc, Bool, true, false, List, [], Option, Some, None, length, map, string_bytes}
use Rattle.std.proofs.Common.{sym, ap, subst, arith}
use Rattle.std.specs.Prelude.{IfSome, IsSome, if◌then◌else◌, slice_get, slice_index_or}
use Rattle.std.proofs.lemmas.Option.{get_or_from_slice_get}
use Rattle.token_print.specs.declared.style.Style.{Style}
use Rattle.reduce_rounds.specs.Fields.{listed_text, text_if}
use Rattle.reduce_rounds.specs.Trials.{Trials, Try, is_done, state_after, tried_state, trials_after}
use Rattle.reduce_trees_mode.specs.Input.{TreeInput}
use Rattle.spell_shrink.specs.declared.spell_step.Trial.{Trial}
use Rattle.spell_shrink.specs.KindWords.{KindWord, word_bytes_of}
use Rattle.spell_shrink.specs.Respelling.{Respelling, with_word_at}
use Rattle.spell_shrink.specs.Respelled.{respelling_mode, spell_trials}
use Rattle.spell_shrink.specs.inner.Cursors.{IsCursor, respelling_at, trials_of}
use Rattle.spell_shrink.specs.inner.Fields.{IsTriedAt, rest_of_trial}
use Rattle.spell_shrink.proofs.ChangedTexts.{as_many}
use Rattle.spell_shrink.proofs.Choosing.{after_is, tries}

module _ (input : TreeInput) (words : List KindWord) (style : Style) (r : Respelling) (trial : Trial) (tried : IsTriedAt input words style r trial) where
  -- what is tried at its cursor, and what comes after it
  abbrev now : Respelling
  now = respelling_at words r trial.cursor

  abbrev at_yes : Trials Respelling
  at_yes = spell_trials input.start input.tokens (length r - suc trial.cursor.token) (suc trial.cursor.token) now

  abbrev at_no : Trials Respelling
  at_no = trials_of input.start input.tokens words r (Some (record trial.cursor { next = trial.cursor.next + 1 }))

  rest_is : rest_of_trial input words r (Some trial) ≡ Try now at_yes at_no
  rest_is = tries input.tokens words r trial.cursor tried.cursor tried.some input.start

  pub not_over : is_done (rest_of_trial input words r (Some trial)) ≡ false
  not_over = ap is_done rest_is

  pub asks_it : (first : Respelling)
      → listed_text (respelling_mode input style first) (rest_of_trial input words r (Some trial)) ≡ text_if trial.listed (string_bytes trial.text)
  asks_it first =
      ap (listed_text (respelling_mode input style first)) rest_is ∙ sym (λ i. text_if (tried.listed i) (tried.text i))

  pub asked : (first : Respelling) (listed : Bool) → trial.listed ≡ listed
      → listed_text (respelling_mode input style first) (rest_of_trial input words r (Some trial)) ≡ text_if listed (string_bytes trial.text)
  asked first listed is = asks_it first ∙ ap (λ b. text_if b (string_bytes trial.text)) is

  pub has_tokens : (n : ℕ) → n ≡ length r → IfSome (tried_state (rest_of_trial input words r (Some trial))) (λ other. n ≡ length other)
  has_tokens n is =
      subst (λ (rest : Trials Respelling). IfSome (tried_state rest) (λ other. n ≡ length other)) (sym rest_is)
      (is ∙ sym (as_many r trial.cursor.token (slice_index_or (map word_bytes_of words) trial.cursor.next [])))

  -- ---- after an answer

  pub rest_at_no : trials_after (rest_of_trial input words r (Some trial)) false ≡ at_no
  rest_at_no = ap (λ (rest : Trials Respelling). trials_after rest false) rest_is

  pub rest_at_yes : trials_after (rest_of_trial input words r (Some trial)) true ≡ at_yes
  rest_at_yes = ap (λ (rest : Trials Respelling). trials_after rest true) rest_is

  pub state_at : (yes : Bool) → state_after r (rest_of_trial input words r (Some trial)) yes ≡ state_after r (Try now at_yes at_no) yes
  state_at is_yes = ap (λ (rest : Trials Respelling). state_after r rest is_yes) rest_is

  pub state_is : (yes : Bool) → (if yes then now else r) ≡ state_after r (rest_of_trial input words r (Some trial)) yes
  state_is true = sym (state_at true)
  state_is false = sym (state_at false)

  -- the cursor goes on at the next spelling
  pub cursor_at_no : IsCursor input.tokens words r (record trial.cursor { next = trial.cursor.next + 1 })
  cursor_at_no = after_is input.tokens words r trial.cursor tried.cursor tried.some

  -- the word that was tried is the one at the cursor
  pub taken_is : (word : List ℕ) → slice_get (map word_bytes_of words) trial.cursor.next ≡ Some word → with_word_at r trial.cursor.token word ≡ now
  taken_is word at =
      ap (with_word_at r trial.cursor.token) (sym (get_or_from_slice_get (map word_bytes_of words) trial.cursor.next word [] at))

  -- after a yes it goes on at the next token
  pub next_token : (new : Respelling) (from : Trials Respelling) → new ≡ now
      → from ≡ spell_trials input.start input.tokens (length new - (trial.cursor.token + 1)) (trial.cursor.token + 1) new → from ≡ at_yes
  next_token new from is all =
      let word = slice_index_or (map word_bytes_of words) trial.cursor.next [] in
      let next : trial.cursor.token + 1 ≡ suc trial.cursor.token = omega arith in
      let many : length new ≡ length r = ap (λ (l : Respelling). length l) is ∙ as_many r trial.cursor.token word in
      all ∙ (λ i. spell_trials input.start input.tokens (many i - next i) (next i) (is i))

-- nothing is tried
pub is_no_trial : (input : TreeInput) (words : List KindWord) (r : Respelling) (trial : Option Trial) → IsSome (tried_state (rest_of_trial input words r trial))
    → trial ≡ None → ⊥
is_no_trial input words r None some is = absurd (cc some)
is_no_trial input words r (Some trial) some is = absurd (cc is)
