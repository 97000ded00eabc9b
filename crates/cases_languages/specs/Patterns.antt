-- Patterns over lists of numbers, and the parts of a list that they span.
use Rattle.std.specs.Prelude.{◌≡◌, ℕ, suc, true, List, Some, slice_get}
use Rattle.grammar_tree.specs.Chars.{has}

-- a term whose names are numbers of rules
pub data Pattern : Type 0 where
  never : Pattern
  empty : Pattern
  one : List (ℕ × ℕ) → Pattern
  rule : ℕ → Pattern
  seq : Pattern → Pattern → Pattern
  alt : Pattern → Pattern → Pattern
  plus : Pattern → Pattern

-- The least relation: in the list the pattern spans from the position i up to the position j, where the
-- rules have these bodies. Positions count from 0, and the position i is before the element i.
pub data Spans (bodies : List Pattern) (list : List ℕ) : Pattern → ℕ → ℕ → Type 0 where
  by_empty : (i : ℕ) → Spans bodies list Pattern.empty i i
  by_one : (ranges : List (ℕ × ℕ)) (k i : ℕ) → slice_get list i ≡ Some k → has ranges k ≡ true → Spans bodies list (Pattern.one ranges) i (suc i)
  by_rule : (r : ℕ) (p : Pattern) (i j : ℕ) → slice_get bodies r ≡ Some p → Spans bodies list p i j → Spans bodies list (Pattern.rule r) i j
  by_seq : (p q : Pattern) (i m j : ℕ) → Spans bodies list p i m → Spans bodies list q m j → Spans bodies list (Pattern.seq p q) i j
  by_left : (p q : Pattern) (i j : ℕ) → Spans bodies list p i j → Spans bodies list (Pattern.alt p q) i j
  by_right : (p q : Pattern) (i j : ℕ) → Spans bodies list q i j → Spans bodies list (Pattern.alt p q) i j
  by_last : (p : Pattern) (i j : ℕ) → Spans bodies list p i j → Spans bodies list (Pattern.plus p) i j
  by_more : (p : Pattern) (i m j : ℕ) → Spans bodies list p i m → Spans bodies list (Pattern.plus p) m j → Spans bodies list (Pattern.plus p) i j
