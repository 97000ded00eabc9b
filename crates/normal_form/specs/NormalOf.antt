-- The normal form of a grammar.
use Rattle.std.specs.Prelude.{◌≡◌, ℕ, zero, suc, ◌+◌, ◌-◌, List, [], ◌∷◌, ◌++◌, take, position, unwrap_or}
use Rattle.std.specs.List.{flat_map}
use Rattle.std.specs.Fmt.{decimal}
use Rattle.grammar_tree.specs.Written.{ParserRule, WrittenGrammar, CheckedGrammar}
use Rattle.grammar_tree.specs.Kinds.{distinct, parser_rules, same_text}
use Rattle.grammar_tree.specs.Derives.{Term, Seq, Alts, bodies, resolved_alts}
use Rattle.grammar_tree.specs.Corners.{group_size, normal_count}
use Rattle.grammar_tree.specs.Checked.{IsChecked}
use Rattle.grammar_tree.specs.Faults.{number_at}
use Rattle.normal_form.specs.Form.{NormalForm}
use Rattle.normal_form.specs.Numbering.{Numbering, groups}

-- The number of the normal form's rule that has the name of the parser rule r: how many rules the parser rules before it make.
abbrev pub own_rule : List Alts → ℕ → ℕ
own_rule G r = normal_count (take r G)

-- the sets of kinds in a term, in written order
abbrev mutual
  pub term_sets : Term → List (List ℕ)
  term_sets (Term.kind k) = []
  term_sets (Term.among ks) = ks ∷ []
  term_sets (Term.rule r) = []
  term_sets (Term.block a) = alts_sets a
  term_sets (Term.opt t) = term_sets t
  term_sets (Term.star t) = term_sets t
  term_sets (Term.plus t) = term_sets t
  term_sets Term.eof = []

  pub seq_sets : Seq → List (List ℕ)
  seq_sets Seq.done = []
  seq_sets (Seq.next t s) = term_sets t ++ seq_sets s

  pub alts_sets : Alts → List (List ℕ)
  alts_sets Alts.none = []
  alts_sets (Alts.or s a) = seq_sets s ++ alts_sets a

-- The sets in the order in which they first occur; equal sets are one.
abbrev pub sets_of : List Alts → List (List ℕ)
sets_of G = distinct (flat_map alts_sets G)

-- the number of a set, counted from 0
abbrev pub set_number : List (List ℕ) → List ℕ → ℕ
set_number sets ks = unwrap_or (position (λ other. same_text other ks) sets) 0

abbrev pub numbering : List Alts → Numbering
numbering G = record { own_rule = own_rule G; set_of = set_number (sets_of G) }

-- the names of so many new rules: the name of their parser rule, `#`, and a number from k on
abbrev pub new_names : List ℕ → ℕ → ℕ → List (List ℕ)
new_names name k zero = []
new_names name k (suc n) = (name ++ (35 ∷ decimal k)) ∷ new_names name (k + 1) n

-- the names of the rules that one parser rule makes, which are so many: its own, and those of its new rules, whose numbers count from 1
abbrev pub group_names : List ℕ → ℕ → List (List ℕ)
group_names name size = name ∷ new_names name 1 (size - 1)

-- the names of all rules, of which the first parser rule has the number r
abbrev pub names_from : WrittenGrammar → ℕ → List ParserRule → List (List ℕ)
names_from G r [] = []
names_from G r (rule ∷ rules) = group_names rule.name (group_size r (resolved_alts G rule.alts)) ++ names_from G (r + 1) rules

-- The normal form of a grammar with its start.
unfoldable pub normal_of : CheckedGrammar → NormalForm
normal_of c =
    let G = bodies c.grammar in
    record {
      rules = groups (numbering G) 0 0 G;
      names = names_from c.grammar 0 (parser_rules c.grammar.rules);
      sets = sets_of G;
      start = own_rule G (number_at c.grammar c.start);
    }

-- The form is the normal form of some checked grammar.
pub record IsNormal (N : NormalForm) : Type 0 where
  pub grammar : CheckedGrammar
  pub checked : IsChecked grammar
  pub is : N ≡ normal_of grammar
