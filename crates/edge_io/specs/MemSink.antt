-- Sinks in memory.
use Rattle.std.specs.Prelude.{ℕ, ◌+◌, ◌-◌, ◌<◌, List, [], length, min, take}
use Rattle.edge_io.specs.Calls.{CallsState, no_calls, after_call, after_fault}
use Rattle.edge_io.specs.Sink.{Put, empty_put, with_piece}

-- what was put, the most bytes that the sink takes, and its puts
pub record SinkState : Type 0 where
  pub put : Put
  pub capacity : ℕ
  pub calls : CallsState

-- a new sink: no bytes, the empty name
abbrev pub empty_sink : ℕ → List ℕ → SinkState
empty_sink capacity to_fail = record { put = empty_put []; capacity = capacity; calls = no_calls to_fail }

-- the piece doesn't fit beside what was put
abbrev pub IsTooBig : List ℕ → SinkState → Type 0
IsTooBig piece sink = sink.capacity < length sink.put.bytes + length piece

-- the sink after this piece was put
abbrev pub after_put : List ℕ → SinkState → SinkState
after_put piece sink = record sink { put = with_piece piece sink.put; calls = after_call sink.calls }

-- the sink after a put that failed: nothing was added
abbrev pub after_failed_put : SinkState → SinkState
after_failed_put sink = record sink { calls = after_fault sink.calls }

-- the first bytes of the piece, at most so many, that fit beside what was put
abbrev pub start_of : ℕ → List ℕ → SinkState → List ℕ
start_of most piece sink = take (min most (sink.capacity - length sink.put.bytes)) piece

-- the sink after these were added; that counts as no put
abbrev pub after_start : ℕ → List ℕ → SinkState → SinkState
after_start most piece sink = record sink { put = with_piece (start_of most piece sink) sink.put }

-- a sink in memory, and the most bytes that are added of a piece whose put is to fail
pub record CutState : Type 0 where
  pub sink : SinkState
  pub part : ℕ

-- the sink after a put that was to fail: the first bytes of its piece were added
abbrev pub after_cut_put : List ℕ → CutState → SinkState
after_cut_put piece cut = after_failed_put (after_start cut.part piece cut.sink)
