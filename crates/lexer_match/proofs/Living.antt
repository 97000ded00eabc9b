-- Whether something is read from states, after a character.
use Rattle.std.proofs.Common.{◌≡◌, ◌↔◌, ℕ, Bool, true, false, List, ◌∷◌, slice_index_or, refl, sym, ◌∙◌, true≢false}
use Rattle.std.specs.List.{Contains}
use Rattle.lexer_match.specs.declared.nfa.State.{State}
use Rattle.lexer_match.specs.Live.{AreLive}
use Rattle.lexer_match.specs.Nfa.{Reads}
use Rattle.lexer_match.specs.StateSets.{ReadsFrom}
use Rattle.lexer_match.specs.inner.StateSets.{IsFollowed}
use Rattle.lexer_match.proofs.Steps.{read_step}

-- something that goes on is read from the states
abbrev pub ReadsOn : List State → List ℕ → Type 0
ReadsOn P states = (c : ℕ) × (w : List ℕ) × ReadsFrom P states (c ∷ w)

-- What a search for a flagged state found.
pub record IsFlagged (flags : List Bool) (states : List ℕ) (found : Bool) : Type 0 where
  pub some : found ≡ true → (n : ℕ) × Contains states n × (slice_index_or flags n false ≡ true)
  pub none : found ≡ false → (n : ℕ) → Contains states n → slice_index_or flags n false ≡ false

module _ (P : List State) (flags : List Bool) (states : List ℕ) (live : AreLive P flags) where
  pub flagged_reads : (n : ℕ) → Contains states n → slice_index_or flags n false ≡ true → ReadsOn P states
  flagged_reads n among flag =
      let (c, next, w, (state, at, step), more) = (live n).0 flag in (c, w, (n, among, Reads.by_char n next state c w at step more))

  pub unflagged_never : IsFollowed P states → ((n : ℕ) → Contains states n → slice_index_or flags n false ≡ false) → (c : ℕ) (w : List ℕ)
      → ¬ ReadsFrom P states (c ∷ w)
  unflagged_never followed none c w (n, among, r) =
      let (next, (k, inside, to), more) = read_step P states c w followed r refl among in
      true≢false (sym ((live k).1 (c, next, w, to, more)) ∙ none k inside)

  pub flagged_on : (found : Bool) → IsFollowed P states → IsFlagged flags states found → (found ≡ true) ↔ ReadsOn P states
  flagged_on true followed is = (λ t. let (n, among, flag) = is.some refl in flagged_reads n among flag, λ r. refl)
  flagged_on false followed is = (λ t. absurd (true≢false (sym t)), λ (c, w, r). absurd (unflagged_never followed (is.none refl) c w r))
