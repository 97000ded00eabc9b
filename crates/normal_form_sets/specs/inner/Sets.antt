-- Beside `../Sets.antt`: what private functions and proofs need.
use Rattle.std.specs.Prelude.{◌≡◌, ℕ, List, Option, map, position, refl}
use Rattle.std.specs.BTreeMap.{BTreeMap, get_by}
use Rattle.std.specs.Cmp.Lexicographic.{slice_cmp}
use Rattle.std.specs.Coded.{Coded, code_by, coded×, coded_ℕ, coded_list}
use Rattle.std.specs.Global.{Vec}
use Rattle.std.specs.List.{All}
use Rattle.std.specs.List.Sorted.{IsStrictlyIncreasing}
use Rattle.std.specs.Ordering.{nat_cmp}
use Rattle.grammar_tree.specs.Kinds.{same_text}
use Rattle.grammar_names.specs.KindLists.{IsPartOf, lacking}
use Rattle.normal_form_sets.specs.Sets.{SetsOfKinds, items_of}

abbrev pub sets_coded : Coded SetsOfKinds
sets_coded =
    code_by (List ℕ × List (List ℕ)) (coded× (coded_list coded_ℕ) (coded_list (coded_list coded_ℕ))) (λ s. (s.all, s.sets))
    (λ p. record { all = p.0; sets = p.1 }) (λ _. refl)

-- the sets that lack these kinds
abbrev pub sets_lacking : List ℕ → List (Vec ℕ) → SetsOfKinds
sets_lacking all missing = record { all = all; sets = map (lacking all) (map items_of missing) }

-- The kinds rise, and what each set lacks is some of them.
pub record AreMissing (all : List ℕ) (missing : List (List ℕ)) : Type 0 where
  pub rising : IsStrictlyIncreasing all
  pub part : All (IsPartOf all) missing

-- the number of the set that lacks these kinds
abbrev pub number_in : BTreeMap (Vec ℕ) ℕ → List ℕ → Option ℕ
number_in numbers missing = get_by (λ key. slice_cmp nat_cmp missing key.items) numbers

-- The map has the number of each set, the first one where a set is there twice, by what the set lacks.
abbrev pub HasNumbers : BTreeMap (Vec ℕ) ℕ → SetsOfKinds → Type 0
HasNumbers numbers s =
    (missing : List ℕ) → IsPartOf s.all missing → number_in numbers missing ≡ position (λ other. same_text other (lacking s.all missing)) s.sets
