-- Beside `../Asked.antt`: what private functions and proofs need.
use Rattle.std.specs.Prelude.{◌≡◌, ℕ, Bool, true, false, List, Some, replicate}
use Rattle.list_ddmin.specs.Machine.{State, asks, kept, start, after}

-- A yes keeps what was asked, a no keeps what was kept, and at a start everything is kept.
abbrev pub KeepsLastYes : Type 0
KeepsLastYes = (state : State) (question : List Bool) → asks state ≡ Some question
    → (kept (after state true) ≡ question) × (kept (after state false) ≡ kept state)

abbrev pub KeepsAllAtFirst : Type 0
KeepsAllAtFirst = (len : ℕ) (may_be_empty : Bool) → kept (start len may_be_empty) ≡ replicate len true
