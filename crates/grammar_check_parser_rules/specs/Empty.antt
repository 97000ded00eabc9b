-- Which terms can be empty, where it is known which rules can be.
use Rattle.std.specs.Prelude.{◌≡◌, ℕ, Bool, true, false, ◌&&◌, ◌||◌, List, [], map}
use Rattle.grammar_tree.specs.Written.{WrittenTerm, WrittenGrammar, written_alts}
use Rattle.grammar_tree.specs.Derives.{Term, Seq, Alts, Derives, bodies, resolved_alts}
use Rattle.grammar_check_nodes.specs.Flags.{flag}

-- whether a term can be empty, where `e` says this of rules
abbrev mutual
  pub is_empty : (ℕ → Bool) → Term → Bool
  is_empty e (Term.kind k) = false
  is_empty e (Term.among ks) = false
  is_empty e (Term.rule r) = e r
  is_empty e (Term.block a) = alts_is_empty e a
  is_empty e (Term.opt t) = true
  is_empty e (Term.star t) = true
  is_empty e (Term.plus t) = is_empty e t
  is_empty e Term.eof = true

  pub seq_is_empty : (ℕ → Bool) → Seq → Bool
  seq_is_empty e Seq.done = true
  seq_is_empty e (Seq.next t s) = is_empty e t && seq_is_empty e s

  pub alts_is_empty : (ℕ → Bool) → Alts → Bool
  alts_is_empty e Alts.none = false
  alts_is_empty e (Alts.or s a) = seq_is_empty e s || alts_is_empty e a

-- The table says exactly which rules derive the empty list.
abbrev pub AreEmptyRules : List Alts → List Bool → Type 0
AreEmptyRules G flags = (r : ℕ) → (flag flags r ≡ true → Derives G (Term.rule r) []) × (Derives G (Term.rule r) [] → flag flags r ≡ true)

-- These are the alternatives of the parser rules, in the order of their numbers.
abbrev pub AreBodies : WrittenGrammar → List (List (List WrittenTerm)) → Type 0
AreBodies G alts = bodies G ≡ map (λ a. resolved_alts G (written_alts a)) alts
