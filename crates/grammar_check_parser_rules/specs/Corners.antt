-- The rules that can be first, where it is known which rules can be empty.
use Rattle.std.specs.Prelude.{◌≡◌, ℕ, Bool, List, [], ◌∷◌, ◌++◌, Some, length, slice_get, if◌then◌else◌}
use Rattle.grammar_tree.specs.Derives.{Term, Seq, Alts}
use Rattle.grammar_tree.specs.Corners.{bases, rests}
use Rattle.grammar_check_parser_rules.specs.Empty.{alts_is_empty, is_empty}

-- the rules that can be first in a term
abbrev mutual
  pub corners : (ℕ → Bool) → Term → List ℕ
  corners e (Term.kind k) = []
  corners e (Term.among ks) = []
  corners e (Term.rule r) = r ∷ []
  corners e (Term.block a) = alts_corners e a
  corners e (Term.opt t) = corners e t
  corners e (Term.star t) = corners e t
  corners e (Term.plus t) = corners e t
  corners e Term.eof = []

  pub seq_corners : (ℕ → Bool) → Seq → List ℕ
  seq_corners e Seq.done = []
  seq_corners e (Seq.next t s) = corners e t ++ (if is_empty e t then seq_corners e s else [])

  pub alts_corners : (ℕ → Bool) → Alts → List ℕ
  alts_corners e Alts.none = []
  alts_corners e (Alts.or s a) = seq_corners e s ++ alts_corners e a

-- the left corners of the rule r: those of its bases, and, where some base can be empty, those of its rests
abbrev pub rule_corners : (ℕ → Bool) → ℕ → Alts → List ℕ
rule_corners e r a = alts_corners e (bases r a) ++ (if alts_is_empty e (bases r a) then alts_corners e (rests r a) else [])

-- The successors of each rule are its left corners, in the order of the numbers of rules.
pub record AreCornerEdges (G : List Alts) (e : ℕ → Bool) (edges : List (List ℕ)) : Type 0 where
  pub there : (r : ℕ) (a : Alts) → slice_get G r ≡ Some a → slice_get edges r ≡ Some (rule_corners e r a)
  pub only : length edges ≡ length G
