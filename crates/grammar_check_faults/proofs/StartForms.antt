-- The start rule that isn't there.
use Rattle.std.proofs.Common.{◌≡◌, ℕ, List, [], Some, None}
use Rattle.grammar_tree.specs.Faults.{NoStart, start_of}
use Rattle.grammar_tree.specs.Kinds.{parser_rules}
use Rattle.grammar_tree.specs.Written.{WrittenGrammar}
use Rattle.grammar_tree.proofs.Lent.{start_is_found}

module _ (G : WrittenGrammar) where
  no_rules : (name : List ℕ) → NoStart G None name → parser_rules G.rules ≡ []
  no_rules name (NoStart.no_parser_rule w e) = e

  pub none_wanted : start_of G None ≡ None → NoStart G None []
  none_wanted e = let it = (start_is_found G).missing None e in NoStart.no_parser_rule None (no_rules it.0 it.1)

  pub none_there : (name : List ℕ) → start_of G None ≡ None → NoStart G (Some name) []
  none_there name e = let it = (start_is_found G).missing None e in NoStart.no_parser_rule (Some name) (no_rules it.0 it.1)

  module _ (s : List ℕ) (i : ℕ) (some : start_of G None ≡ Some i) where
    its_name : (name : List ℕ) → NoStart G (Some s) name → NoStart G (Some s) s
    its_name name (NoStart.not_there n rules missing) = NoStart.not_there n rules missing
    its_name name (NoStart.no_parser_rule w e) = absurd ((start_is_found G).there None i some [] (NoStart.no_parser_rule None e))

    pub not_found : start_of G (Some s) ≡ None → NoStart G (Some s) s
    not_found e = let it = (start_is_found G).missing (Some s) e in its_name it.0 it.1
