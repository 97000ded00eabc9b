-- The texts that may be asked are the candidates.
use Rattle.std.specs.Prelude.{◌≡◌, ◌↔◌, ◌≤◌, ◌+◌, ◌*◌, ℕ, List, length}
use Rattle.keep_guard.specs.Keep.{keeps_admit}
use Rattle.reduce_trees_mode.specs.Candidates.{IsCandidate}
use Rattle.reduce_trees_mode.specs.Input.{TreeInput}
use Rattle.cert_check_texts.specs.Texts.{IsCandidateFrom, IsTreeStart, TreeStart}

-- The input is of this start: its grammar, its text, its tokens, and a guard of its keep texts.
pub record IsInputFrom (from : TreeStart) (input : TreeInput) : Type 0 where
  pub same_grammar : input.grammar ≡ from.grammar
  pub same_start : input.start ≡ from.start
  pub same_tokens : input.tokens ≡ from.tokens
  pub admits : input.admits ≡ keeps_admit from.keeps

abbrev pub TextsAreCandidates : Type 0
TextsAreCandidates = (from : TreeStart) (input : TreeInput) (text : List ℕ) → IsInputFrom from input → IsCandidateFrom from text ↔ IsCandidate input text

-- No such text has more than twice the bytes of the start, and one more.
abbrev pub TextsAreShort : Type 0
TextsAreShort = (from : TreeStart) (text : List ℕ) → IsTreeStart from → IsCandidateFrom from text → length text ≤ 2 * length from.start + 1
