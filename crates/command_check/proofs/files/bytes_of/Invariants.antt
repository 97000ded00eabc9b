use Rattle.std.proofs.Common.{◌≡◌, map, take}
use Rattle.command_check.proofs.files.bytes_of.Given as goal

-- the texts so far
abbrev pub invariant-loop-text : goal.invariant-loop-text
invariant-loop-text l = l.bytes.items ≡ map (λ text. text.now) (take l.text-index l.texts)
