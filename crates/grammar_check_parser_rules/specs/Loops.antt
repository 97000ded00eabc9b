-- Loops over what can be empty, where it is known which rules can be.
use Rattle.std.specs.Prelude.{ℕ, Bool, false, ◌||◌}
use Rattle.grammar_tree.specs.Derives.{Term, Seq, Alts}
use Rattle.grammar_check_parser_rules.specs.Empty.{is_empty}

-- a star or plus over a term that can be empty is in the term
abbrev mutual
  pub has_loop : (ℕ → Bool) → Term → Bool
  has_loop e (Term.kind k) = false
  has_loop e (Term.among ks) = false
  has_loop e (Term.rule r) = false
  has_loop e (Term.block a) = alts_has_loop e a
  has_loop e (Term.opt t) = has_loop e t
  has_loop e (Term.star t) = is_empty e t || has_loop e t
  has_loop e (Term.plus t) = is_empty e t || has_loop e t
  has_loop e Term.eof = false

  pub seq_has_loop : (ℕ → Bool) → Seq → Bool
  seq_has_loop e Seq.done = false
  seq_has_loop e (Seq.next t s) = has_loop e t || seq_has_loop e s

  pub alts_has_loop : (ℕ → Bool) → Alts → Bool
  alts_has_loop e Alts.none = false
  alts_has_loop e (Alts.or s a) = seq_has_loop e s || alts_has_loop e a
