-- Candidates by the numbers of the tokens that they keep.
use Rattle.std.specs.Prelude.{◌≡◌, ◌&&◌, ◌≤◌, ℕ, Bool, List, length}
use Rattle.token_print.specs.Readings.{spells}
use Rattle.token_print.specs.Spelling.{kinds_and_spellings}
use Rattle.token_print.specs.declared.style.Style.{Style}
use Rattle.reduce_step.specs.Limits.{text_limit}
use Rattle.reduce_trees_mode.specs.Input.{TreeInput}
use Rattle.reduce_trees_mode.specs.Listed.{text_in}
use Rattle.reduce_trees.specs.declared.candidate.Candidate.{Candidate}

-- whether the text of these tokens is cut into them again, and is admitted
abbrev pub is_listed_in : TreeInput → List ℕ → Style → Bool
is_listed_in input kept style =
    spells input.grammar.grammar (text_in input kept style) (kinds_and_spellings input.start input.tokens kept)
    && input.admits kept (text_in input kept style)

-- The candidate is that of these tokens.
pub record IsCandidateIn (input : TreeInput) (kept : List ℕ) (style : Style) (candidate : Candidate) : Type 0 where
  pub text : candidate.text.items ≡ text_in input kept style
  pub tokens : candidate.tokens ≡ length kept
  pub listed : candidate.listed ≡ is_listed_in input kept style
  pub short : length candidate.text.items ≤ text_limit
