-- Calls that were made one after another.
use Rattle.std.proofs.Common.{◌≡◌, List, [], ◌++◌, Option, Some, None, append-nil, append_assoc, refl, sym, ap, ◌∙◌}
use Rattle.std.specs.Prelude.{option_map}
use Rattle.edge_io.specs.FileCalls.{FileCall, WereMade}

-- where nothing changed no call was made
pub none_made : (calls : Option (List FileCall)) → WereMade [] calls calls
none_made None = refl
none_made (Some calls) = ap Some (sym (append-nil calls))

-- these calls and then those
added_twice : (first then : List FileCall) (calls : Option (List FileCall))
    → option_map (λ before. before ++ then) (option_map (λ before. before ++ first) calls) ≡ option_map (λ before. before ++ (first ++ then)) calls
added_twice first then None = refl
added_twice first then (Some calls) = ap Some (append_assoc calls first then)

pub made_then : (first then : List FileCall) (old mid new : Option (List FileCall)) → WereMade first old mid → WereMade then mid new
    → WereMade (first ++ then) old new
made_then first then old mid new is is' = is' ∙ ap (option_map (λ before. before ++ then)) is ∙ added_twice first then old
