-- The reduction of `a=1;b=2;c=3;` by statements, as far as it is answered by whether there is a `b`.
use Rattle.std.specs.Prelude.{ℕ, zero, suc, [], false, codes}
use Rattle.reduce_step.specs.Plan.{Plan, Ask, End}

-- it ends here; with what isn't looked at
abbrev pub ended : Plan
ended = End (record { text = []; units = 0; used = 0; rounds = 0; refused = false })

-- the second round: what remains is `b=2;`, and only the empty text is smaller
abbrev pub second_round : Plan
second_round = Ask [] ended ended

-- after `b=2;c=3;` was interesting
abbrev pub after_two : Plan
after_two = Ask (codes "b=2;\n") second_round ended

-- after `b=2;c=3;` was not: what was asked is asked again, as delta debugging is written
abbrev pub again : Plan
again = Ask (codes "a=1;\n") ended ended

abbrev pub two_again : Plan
two_again = Ask (codes "b=2;c=3;") ended again

abbrev pub two : Plan
two = Ask (codes "b=2;c=3;") after_two two_again

abbrev pub one : Plan
one = Ask (codes "a=1;\n") ended two

abbrev pub none : Plan
none = Ask [] ended one

-- from the question of this number on
abbrev pub plan_at : ℕ → Plan
plan_at zero = Ask (codes "a=1;b=2;c=3;") none ended
plan_at (suc zero) = none
plan_at (suc (suc zero)) = one
plan_at (suc (suc (suc zero))) = two
plan_at (suc (suc (suc (suc zero)))) = two_again
plan_at (suc (suc (suc (suc (suc zero))))) = after_two
plan_at (suc (suc (suc (suc (suc (suc zero)))))) = second_round
plan_at (suc (suc (suc (suc (suc (suc (suc zero))))))) = again
plan_at (suc (suc (suc (suc (suc (suc (suc (suc index)))))))) = ended
