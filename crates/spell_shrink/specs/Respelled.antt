-- The respelling of what a reduction ended with. A round goes through the tokens from the left, and tries for each the shorter spellings of its kind, up to
-- the first yes. Rounds are made until one has no yes.
use Rattle.std.specs.Prelude.{◌+◌, ℕ, zero, suc, Bool, true, false, List, [], ◌∷◌, ◌++◌, None, length, if◌then◌else◌}
use Rattle.grammar_tree.specs.Lexes.{PlacedToken}
use Rattle.syntax_tree.specs.Trees.{leaves}
use Rattle.token_print.specs.declared.style.Style.{Style}
use Rattle.reduce_rounds.specs.Trials.{Trials, Done, Try}
use Rattle.reduce_rounds.specs.Mode.{RoundMode}
use Rattle.reduce_rounds.specs.Reduction.{Reduction, rounds_of}
use Rattle.reduce_rounds.specs.ByTrials.{recursion_of}
use Rattle.reduce_trees_mode.specs.Input.{TreeInput, TreeState}
use Rattle.spell_shrink.specs.Words.{shorter_than, words_of}
use Rattle.spell_shrink.specs.Respelling.{Respelling, kind_at, number_at, own_spellings, with_word_at, word_at}
use Rattle.spell_shrink.specs.Texts.{is_listed_respelling, text_of_respelling}

-- these spellings are tried for the token at the index, up to the first yes, and then what `go` says
abbrev pub word_trials : (Respelling → Trials Respelling) → Respelling → ℕ → List (List ℕ) → Trials Respelling
word_trials go r k [] = go r
word_trials go r k (word ∷ words) = Try (with_word_at r k word) (go (with_word_at r k word)) (word_trials go r k words)

module _ (start : List ℕ) (tokens : List PlacedToken) where
  -- the shorter spellings of the kind of the token at the index
  abbrev pub shorter_words : Respelling → ℕ → List (List ℕ)
  shorter_words r k = shorter_than (length (word_at r k)) (words_of start tokens (kind_at tokens (number_at r k)))

  -- so many tokens, from the index on
  abbrev pub spell_trials : ℕ → ℕ → Respelling → Trials Respelling
  spell_trials zero k r = Done
  spell_trials (suc n) k r = word_trials (spell_trials n (k + 1)) r k (shorter_words r k)

  -- one round
  abbrev pub spell_round : Respelling → Trials Respelling
  spell_round r = spell_trials (length r) 0 r

-- how many bytes the spellings have
abbrev pub word_bytes : Respelling → ℕ
word_bytes [] = 0
word_bytes (p ∷ r) = length p.word + word_bytes r

-- rounds over respellings in one style, from this one on
abbrev pub respelling_mode : TreeInput → Style → Respelling → RoundMode Respelling
respelling_mode input style first = record {
  start = first;
  text = text_of_respelling input style;
  is_listed = is_listed_respelling input style;
  size = λ r. length r;
  opening = Done;
  round = spell_round input.start input.tokens;
  measure = word_bytes;
  next_phase = λ r. None;
}

-- a state of a reduction with respelling: what is left of the tree; and after its reduction a respelling of its tokens, in its style
pub data SpellState : Type 0 where
  Reduced : TreeState → SpellState
  Respelled : Style → Respelling → SpellState

-- the rounds over respellings from a tree, at first with the tokens' own spellings
abbrev pub respelling_of : TreeInput → (List ℕ → Bool) → TreeState → Reduction Respelling
respelling_of input verdict state =
    let own : Respelling = own_spellings input.start input.tokens (leaves state.tree) in
    rounds_of (recursion_of (respelling_mode input state.style own)) verdict own

-- what is asked in a reduction and after it, and the rounds of both
abbrev pub followed_by : Reduction TreeState → Reduction Respelling → Reduction SpellState
followed_by first later =
    record {
      questions = first.questions ++ later.questions;
      state = Respelled first.state.style later.state;
      rounds = first.rounds + later.rounds;
      refused = false;
    }

-- What a reduction with respelling comes to, where the reduction comes to this: unless the start was refused, its respelling follows.
abbrev pub respelled : TreeInput → (List ℕ → Bool) → Reduction TreeState → Reduction SpellState
respelled input verdict first =
    if first.refused
    then record { questions = first.questions; state = Reduced first.state; rounds = first.rounds; refused = true }
    else followed_by first (respelling_of input verdict first.state)
