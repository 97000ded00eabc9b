-- Where the rules of each parser rule begin, and which sets its tokens name.
use Rattle.std.specs.Prelude.{ℕ, ◌+◌, List, [], ◌∷◌, Option, Some, None}
use Rattle.grammar_tree.specs.Corners.{group_size}
use Rattle.grammar_tree.specs.Derives.{Alts}

-- the numbers of the own rules of these parser rules, of which the first has the number r and its own rule the number n
abbrev pub own_rules_from : ℕ → ℕ → List Alts → List ℕ
own_rules_from n r [] = []
own_rules_from n r (a ∷ G) = n ∷ own_rules_from (n + group_size r a) (r + 1) G

-- the sets of a token that may mean no kind, and of a name
abbrev pub token_sets : Option ℕ → List (List ℕ)
token_sets None = [] ∷ []
token_sets (Some k) = []

abbrev pub name_sets : Option ℕ → Option ℕ → List (List ℕ)
name_sets (Some r) token = []
name_sets None token = token_sets token
