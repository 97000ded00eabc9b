-- The runs of a printed text that are still ahead of an offset.
use Rattle.std.specs.Prelude.{◌≡◌, ◌≢◌, ◌⊎◌, ◌≤◌, ◌<◌, ◌+◌, ◌-◌, ◌^◌, ℕ, nat_eq, cond, List, [], ◌∷◌, ◌++◌, Option, Some, None, drop, length, map, slice_index}
use Rattle.std.specs.List.{All}
use Rattle.lexer.specs.Tokens.{token_of}
use Rattle.token_print.specs.declared.layout.Layout.{Layout}
use Rattle.token_print.specs.declared.runs.Run.{Run}
use Rattle.token_print.specs.declared.runs.Runs.{Runs}
use Rattle.token_print.specs.inner.Copies.{run_end}
use Rattle.token_print.specs.Runs.{join_size, runs_at, stretches}

-- from the one index up to the other the numbers follow one another, and no longer
pub record IsStretch (kept : List ℕ) (from end : ℕ) : Type 0 where
  pub rises : from < end
  pub within : end ≤ length kept
  pub follow : (k : ℕ) → from ≤ k → k < end → slice_index kept k ≡ slice_index kept from + (k - from)
  pub apart : (end ≡ length kept) ⊎ (slice_index kept end ≢ slice_index kept from + (end - from))

-- the runs of the kept tokens from the index on; what is printed before the first of them begins there, and is nothing where it is the first of all
abbrev pub runs_from : Layout → List ℕ → ℕ → ℕ → List Run
runs_from layout kept next at =
    let rest = stretches layout.style (drop next kept) in
    runs_at layout.skips layout.start.now (map token_of layout.tokens.now) layout.style
    (at + cond (nat_eq next 0) 0 (join_size layout.skips layout.start.now (map token_of layout.tokens.now) rest)) rest

-- the current run, and the runs after it
abbrev pub ahead : Layout → List ℕ → ℕ → Option Run → List Run
ahead layout kept next None = []
ahead layout kept next (Some run) = run ∷ runs_from layout kept next (run_end run)

-- the runs that are ahead
abbrev pub all_ahead : Runs → List Run
all_ahead r = ahead r.layout r.kept.now r.next r.current

-- each run ends at an offset that can be counted
abbrev pub RunsAreShort : List Run → Type 0
RunsAreShort runs = All (λ run. (run.from ≤ run.to) × (run_end run < 2 ^ 32)) runs

-- The runs that are no longer ahead end up to the offset.
pub record HasPassed (offset : ℕ) (before after : List Run) : Type 0 where
  pub passed : List Run
  pub cut : before ≡ passed ++ after
  pub over : All (λ run. run_end run ≤ offset) passed

-- Of all runs this is the first one that ends after the offset, or there is none.
abbrev pub IsCurrent : List Run → ℕ → Option Run → Type 0
IsCurrent all offset None = HasPassed offset all []
IsCurrent all offset (Some run) = (offset < run_end run) × (rest : List Run) × HasPassed offset all (run ∷ rest)
