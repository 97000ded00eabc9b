use Rattle.std.proofs.Common.{inl, inr, refl, arith}
use Rattle.lexer.proofs.pieces.lesser.Goals as goal

pub returns-then-is_lesser : goal.returns-then-is_lesser
returns-then-is_lesser c = record { one = inr refl; least = omega arith; least_other = omega arith }

pub returns-else-is_lesser : goal.returns-else-is_lesser
returns-else-is_lesser c = record { one = inl refl; least = omega arith; least_other = omega arith }
