-- What holds however the workers' moves follow one another.
use Rattle.std.specs.Prelude.{◌≡◌, ◌++◌, ℕ, List, All, Option, None, map, nat_eq}
use Rattle.std.specs.List.{IsDistinct}
use Rattle.std.specs.Str.{bytes_eq}
use Rattle.script_gate_trait.specs.declared.gate.Verdict.{Verdict}
use Rattle.reduce_step.specs.Plan.{HasEnded, MayAsk, Plan, follow}
use Rattle.verdict_table.specs.TableState.{Extends, texts_of, verdict_in}
use Rattle.reduce_journal.specs.History.{records_of}
use Rattle.ordered_commit.specs.Replay.{AllGoWith, IsLegal, replay}
use Rattle.ordered_commit.specs.Moves.{AreMoves, Commits, CoreState, KeptVerdicts, MayMake, Move, after_moves, begun}

-- the texts that are recorded or claimed
abbrev pub all_texts : CoreState → List (List ℕ)
all_texts state = texts_of (records_of state.history) ++ map (λ c. c.text) state.claims

-- What holds of a state of a run that began with this reducer and these kept verdicts.
pub record HoldsOf (workers : ℕ) (first : Plan) (kept : KeptVerdicts) (state : CoreState) : Type 0 where
  -- no text is recorded or claimed twice, and no worker has two claims
  pub distinct : IsDistinct bytes_eq (all_texts state)
  pub one_each : IsDistinct nat_eq (map (λ c. c.worker) state.claims)
  -- the reducer may ask each of them
  pub may_ask : All (MayAsk first) (all_texts state)
  -- the kept verdicts are the same; a record is kept exactly where its text has one, and no such text is claimed
  pub same_kept : state.kept ≡ kept
  pub go_with : AllGoWith kept state.history
  pub not_kept : All (λ c. kept c.text ≡ None) state.claims
  -- the history is one that the reducer can have, and the front is where it leads
  pub legal : IsLegal first state.history
  pub replayed : state.front ≡ replay first state.history
  -- whatever is recorded beside: to go on from the front comes to the same as to begin anew
  pub follows : (V : List ℕ → Option Verdict) → Extends V (records_of state.history) → follow V first ≡ follow V state.front
  -- where nothing can be committed, the front is what one thread comes to over the records
  pub settled : ((number : ℕ) → ¬ (MayMake workers state (Commits number))) → state.front ≡ follow (verdict_in (records_of state.history)) first
  -- where it asks nothing, it is what one thread comes to over all maps of verdicts that have the records
  pub ended : (V : List ℕ → Option Verdict) → HasEnded state.front → Extends V (records_of state.history) → state.front ≡ follow V first

-- It holds after every list of moves, of any number of workers.
abbrev pub AnyOrderHolds : Type 0
AnyOrderHolds = (workers : ℕ) (first : Plan) (kept : KeptVerdicts) (moves : List Move) → AreMoves workers (begun first kept) moves
    → HoldsOf workers first kept (after_moves (begun first kept) moves)
