use Rattle.std.proofs.Common.{◌≡◌, ◌++◌, map, take}
use Rattle.line_guard.specs.declared.wish.Wish.TheVariants as wish
use Rattle.command_reduce_calls.proofs.stays.wishes_of.Given as goal

-- the wishes so far
abbrev pub invariant-loop-span : goal.invariant-loop-span
invariant-loop-span l = l.wishes.items ≡ map (λ span. wish.Lines span.first span.last) (take l.span-index l.protects.lines.items)

abbrev pub invariant-loop-text : goal.invariant-loop-text
invariant-loop-text l =
    l.wishes.items ≡ l.initial.wishes.items ++ map (λ text. wish.Holding text.now) (take l.text-index l.protects.texts.items)
