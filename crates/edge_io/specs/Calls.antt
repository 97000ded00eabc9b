-- Counts of calls, and the calls that an object in memory lets fail.
use Rattle.std.specs.Prelude.{◌≡◌, ℕ, List, Contains}
use Rattle.faults.specs.Count.{one_more}

-- the count of faults after a call: one more exactly where the call failed
pub record CountsFault (failed : Type 0) (old new : ℕ) : Type 0 where
  pub fault : failed → new ≡ one_more old
  pub no_fault : ¬ failed → new ≡ old

-- how many calls were made, the numbers (from 1) of the calls that are to fail, and how many failed
pub record CallsState : Type 0 where
  pub made : ℕ
  pub to_fail : List ℕ
  pub faults : ℕ

-- no call was made yet
abbrev pub no_calls : List ℕ → CallsState
no_calls to_fail = record { made = 0; to_fail = to_fail; faults = 0 }

-- the next call is one of those that are to fail
abbrev pub IsNextToFail : CallsState → Type 0
IsNextToFail calls = Contains calls.to_fail (one_more calls.made)

-- after one more call that didn't fail
abbrev pub after_call : CallsState → CallsState
after_call calls = record calls { made = one_more calls.made }

-- after one more call that failed
abbrev pub after_fault : CallsState → CallsState
after_fault calls = record calls { made = one_more calls.made; faults = one_more calls.faults }

-- one more call was made, and it counts as a fault exactly where it failed
pub record CountsCall (failed : Type 0) (old new : CallsState) : Type 0 where
  pub fault : failed → new ≡ after_fault old
  pub no_fault : ¬ failed → new ≡ after_call old
