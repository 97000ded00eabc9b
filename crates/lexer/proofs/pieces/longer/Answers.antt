use Rattle.std.proofs.Common.{inl, inr, refl, arith}
use Rattle.lexer.proofs.pieces.longer.Goals as goal

pub returns-then-is_longer : goal.returns-then-is_longer
returns-then-is_longer c = record { one = inr refl; no_shorter = omega arith; no_shorter_other = omega arith }

pub returns-else-is_longer : goal.returns-else-is_longer
returns-else-is_longer c = record { one = inl refl; no_shorter = omega arith; no_shorter_other = omega arith }
