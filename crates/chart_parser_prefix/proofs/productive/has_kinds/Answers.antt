use Rattle.std.proofs.Common.{List, ap, false, length, ltb, slice_get, ℕ, ◌∙◌}
use Rattle.chart_parser_prefix.proofs.Tokens.{lacks_fewer}
use Rattle.chart_parser_prefix.specs.inner.Productive.{has_some}
use Rattle.std.specs.Option.{option_map_or}
use Rattle.chart_parser_prefix.proofs.productive.has_kinds.Goals as goal

pub returns-in-Some : goal.returns-in-Some
returns-in-Some c =
    let missing = c.in-Some.missing.now in
    let set = c.args.set in
    c.is_shorter.ensures
    ∙ ap (λ (l : List ℕ). ltb (length missing) (length l)) c.all.ensures
    ∙ lacks_fewer c.sets-sets.result.now.all missing c.in-Some.ensures.part
    ∙ ap (λ o. option_map_or has_some o false) c.in-Some.ensures.lacks
    ∙ ap (λ (sets : List (List ℕ)). option_map_or has_some (slice_get sets set) false) c.sets-sets.ensures

pub returns-in-None : goal.returns-in-None
returns-in-None c =
    let set = c.args.set in
    ap (λ o. option_map_or has_some o false) c.in-None.ensures.lacks
    ∙ ap (λ (sets : List (List ℕ)). option_map_or has_some (slice_get sets set) false) c.sets-sets.ensures
