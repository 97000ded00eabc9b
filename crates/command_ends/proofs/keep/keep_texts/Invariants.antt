use Rattle.std.proofs.Common.{◌≡◌, map, take}
use Rattle.command_ends.proofs.keep.keep_texts.Given as goal

-- the texts so far
abbrev pub invariant-loop-text : goal.invariant-loop-text
invariant-loop-text l = l.keeps ≡ map (λ text. text.now) (take l.text-index l.texts)
