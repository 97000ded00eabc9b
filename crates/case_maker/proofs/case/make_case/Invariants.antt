use Rattle.std.proofs.Common.{◌≡◌, nat_eq, string_bytes}
use Rattle.std.specs.List.{flat_map, range_with_len}
use Rattle.case_maker.specs.Cases.{function_text}
use Rattle.case_maker.proofs.case.make_case.Given as goal

-- the functions so far
abbrev pub invariant-loop-index : goal.invariant-loop-index
invariant-loop-index l = string_bytes l.text ≡ flat_map (λ index. function_text index (nat_eq index l.target)) (range_with_len 0 l.index)
