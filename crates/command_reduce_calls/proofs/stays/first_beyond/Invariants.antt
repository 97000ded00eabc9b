use Rattle.std.proofs.Common.{◌≡◌, ◌++◌, drop, find, map, nat_lt}
use Rattle.std.specs.Option.{option_to_list}
use Rattle.command_words.specs.Lines.{protects_read}
use Rattle.command_reduce_calls.specs.Stays.{first_beyond}
use Rattle.command_reduce_calls.proofs.stays.first_beyond.Given as goal

-- the first is among those that are left
abbrev pub invariant-loop-span : goal.invariant-loop-span
invariant-loop-span l =
    find (λ last. nat_lt l.lines last) (map (λ span. span.last) (drop l.span-index l.protects.lines.items)
    ++ map (λ span. span.last) (option_to_list l.protects.only))
    ≡ first_beyond (protects_read l.protects) l.lines
