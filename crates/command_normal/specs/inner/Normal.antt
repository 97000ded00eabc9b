-- Beside `../Normal.antt`: what private functions and proofs need.
use Rattle.command_ends.specs.declared.status.Refusal.{Refusal}
use Rattle.command_ends.specs.Status.{line_of, status_of}
use Rattle.command_words.specs.Commands.{GrammarSource}
use Rattle.command_ends.specs.World.{PutsLine, SeenCalls, SeenFiles, SeenOut}
use Rattle.command_normal.specs.Normal.{NormalEnds}

-- the command ends with this refusal, whatever becomes of its line
abbrev pub NormalFails : GrammarSource → SeenFiles → SeenFiles → SeenCalls → SeenCalls → Refusal → Type 0
NormalFails grammar files files' calls calls' refusal =
    (out out' : SeenOut) → PutsLine (line_of refusal) out out' → NormalEnds grammar files files' calls calls' out out' (status_of refusal)
