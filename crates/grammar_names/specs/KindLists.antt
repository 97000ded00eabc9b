-- Lists of kinds by their numbers: which are in one, and which it lacks.
use Rattle.std.specs.Prelude.{◌≡◌, ℕ, Bool, List, filter, nat_eq, not}
use Rattle.std.specs.List.{filter_map, list_any}
use Rattle.grammar_tree.specs.Written.{Reference, WrittenGrammar}
use Rattle.grammar_tree.specs.Kinds.{any_kinds, reference_kind}

-- the number is in the list
abbrev pub is_in : List ℕ → ℕ → Bool
is_in numbers k = list_any (λ other. nat_eq other k) numbers

-- the kinds that aren't in the second list
abbrev pub lacking : List ℕ → List ℕ → List ℕ
lacking kinds left_out = filter (λ k. not (is_in left_out k)) kinds

-- The second list is some of the kinds, in their order.
abbrev pub IsPartOf : List ℕ → List ℕ → Type 0
IsPartOf kinds some = filter (is_in some) kinds ≡ some

-- the kinds that aren't gap kinds and that one of the tokens means
abbrev pub named_kinds : WrittenGrammar → List Reference → List ℕ
named_kinds G refs = filter (is_in (filter_map (reference_kind G) refs)) (any_kinds G)
