-- Beside `../Call.antt`: what private functions and proofs need.
use Rattle.std.specs.Prelude.{◌≡◌, ℕ, List, None, true}
use Rattle.command_words.specs.Commands.{command_line_of, names_command}
use Rattle.command_ends.specs.declared.status.Refusal.{Refusal}
use Rattle.command_ends.specs.declared.status.Refusal.TheVariants.{Memory, Usage}

-- why no command line was read: the words are none, or they name a command, and memory ran out
abbrev pub WordsFail : List (List ℕ) → Refusal → Type 0
WordsFail words (Memory _) = names_command words ≡ true
WordsFail words Usage = command_line_of words ≡ None
WordsFail words _ = ⊥
